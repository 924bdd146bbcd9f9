-- How the code of this crate works.
pub mod Acting
pub mod Combined
pub mod Computed
pub mod Found
pub mod Indexed
pub mod Tallies
