pub mod CutLines
pub mod Gathering
pub mod RefusalLines
pub mod Texts
