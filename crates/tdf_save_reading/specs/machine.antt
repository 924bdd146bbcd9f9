pub mod Events
pub mod Heads
pub mod Lists
pub mod Modules
pub mod Pieces
