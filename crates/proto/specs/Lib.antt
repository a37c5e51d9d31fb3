pub mod Callers
pub mod Exchanges
pub mod Served
pub mod Pools
pub mod Server
