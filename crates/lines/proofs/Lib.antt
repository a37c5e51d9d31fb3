mod Alone
mod Writing
