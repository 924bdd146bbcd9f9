pub mod Counting
pub mod Setting
