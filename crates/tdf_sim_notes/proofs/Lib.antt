pub mod Api
pub mod Listed
pub mod Notes
pub mod Texts
