pub mod Api
pub mod Bounds
pub mod InOrder
