mod Chains
mod Lent
mod Parts
mod Sends
mod Values
mod Walks
