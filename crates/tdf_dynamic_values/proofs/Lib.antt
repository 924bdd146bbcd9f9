pub mod Fits
pub mod Holding
pub mod Once
pub mod One
pub mod Rows
pub mod Stated
