pub mod Changing
pub mod Fits
pub mod Standing
