pub mod Matching
pub mod Taken
pub mod Worked
