pub mod Api
pub mod Lists
pub mod Loops
pub mod Tables
