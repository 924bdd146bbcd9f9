-- How the code of this crate works.
pub mod Flattening
pub mod Plain
pub mod Steps
