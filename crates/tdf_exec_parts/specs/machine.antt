-- How the code of this crate works.
pub mod Restoring
pub mod Traffic
