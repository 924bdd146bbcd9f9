pub mod Bindings
pub mod Counts
pub mod Lists
