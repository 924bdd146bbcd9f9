pub mod Numbering
pub mod Rows
