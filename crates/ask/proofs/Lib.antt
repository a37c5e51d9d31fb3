mod CutLines
mod Faults
mod Gathering
mod NetFaults
mod Requests
mod Talks
