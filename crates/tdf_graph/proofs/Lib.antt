pub mod Api
pub mod Labels
pub mod Numbers
pub mod Renames
pub mod Unique
