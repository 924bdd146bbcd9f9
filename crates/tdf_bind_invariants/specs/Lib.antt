pub mod Below
pub mod Formats
pub mod Limits
pub mod Tags
