pub mod Joined
pub mod Members
pub mod Split
