-- How the code of this crate works.
pub mod Asking
pub mod Boundary
pub mod Judging
pub mod Rows
