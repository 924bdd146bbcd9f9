-- How the code of this crate works.
pub mod Found
pub mod Gathered
pub mod Numbers
pub mod Processes
pub mod Sound
pub mod Standing
