pub mod Index
pub mod Pairs
