pub mod Caps
pub mod Parts
pub mod Sites
pub mod Sizes
pub mod Weights
