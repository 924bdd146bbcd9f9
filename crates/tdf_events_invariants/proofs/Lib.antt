pub mod Api
pub mod Counts
pub mod Instances
pub mod Lines
pub mod Owned
pub mod Ports
pub mod Running
pub mod Starts
