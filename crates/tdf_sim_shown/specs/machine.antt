-- How the code goes from column to column.
pub mod Alike
pub mod Resuming
pub mod Waiting
pub mod Windows
