mod Answering
mod Faults
