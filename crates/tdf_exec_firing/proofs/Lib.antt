pub mod Api
pub mod Begins
mod Cells
mod Fills
mod Formats
mod Gives
pub mod Moves
mod Placed
mod Spreading
