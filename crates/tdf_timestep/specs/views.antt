pub mod Answers
pub mod Broken
pub mod Found
