pub mod CommandLine
pub mod ServeLine
pub mod Tables
pub mod Told
