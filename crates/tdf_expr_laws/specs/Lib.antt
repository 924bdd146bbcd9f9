pub mod Cells
pub mod Checked
pub mod Indices
pub mod Maps
pub mod Processes
pub mod Samples
