-- How the code of this crate works.
pub mod Reading
pub mod Steps
