-- How the code of this crate works.
pub mod Closing
pub mod Parting
pub mod Standing
