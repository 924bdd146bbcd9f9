pub mod Answers
pub mod Bounds
pub mod Entries
pub mod Faults
pub mod Parts
pub mod Table
pub mod Turns
pub mod Work
