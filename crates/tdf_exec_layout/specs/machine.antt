pub mod Ends
pub mod Initials
pub mod Places
