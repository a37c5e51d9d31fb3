pub mod Numbers
pub mod TextLines
pub mod Words
