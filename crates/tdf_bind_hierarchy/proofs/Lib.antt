pub mod Adds
pub mod Whole
pub mod KindsKept
pub mod Ranges
pub mod Steps
