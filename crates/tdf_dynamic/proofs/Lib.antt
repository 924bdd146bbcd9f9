mod Answering
pub mod Api
pub mod Asks
pub mod Begins
mod Boundary
mod Judging
mod Keeping
mod Once
mod Rows
mod Spans
mod Staying
pub mod Steps
