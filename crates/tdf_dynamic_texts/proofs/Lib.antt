pub mod Api
pub mod Grouping
pub mod Own
pub mod Texts
