mod Cells
mod Indices
mod Kept
pub mod Checked
pub mod Maps
mod Processes
mod Samples
