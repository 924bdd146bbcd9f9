pub mod Due
pub mod Making
pub mod Reading
pub mod Resuming
pub mod Running
pub mod Updating
