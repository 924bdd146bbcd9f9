pub mod Resets
pub mod State
