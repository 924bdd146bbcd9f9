-- How the code of this crate works.
pub mod Cells
pub mod Fine
pub mod Fitting
pub mod Inputs
pub mod Parts
pub mod Zeroed
