pub mod Api
pub mod Keeping
pub mod Powers
