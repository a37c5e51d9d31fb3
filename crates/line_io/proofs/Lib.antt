pub mod Wires
mod DumpedRows
