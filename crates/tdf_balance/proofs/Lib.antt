pub mod Answered
pub mod Divides
pub mod Merges
pub mod Solutions
pub mod Steps
pub mod Whole
