pub mod Api
pub mod Bound
pub mod Found
pub mod IsFirst
pub mod Lines
pub mod Notes
