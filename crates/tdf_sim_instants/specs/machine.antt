-- How the code of this crate works.
pub mod Crossing
pub mod Making
