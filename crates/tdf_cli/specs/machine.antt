-- How the code of this crate works.
pub mod Stages
pub mod Texts
