-- How the code of this crate works.
pub mod Placing
