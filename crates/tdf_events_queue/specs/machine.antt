pub mod Calendar
pub mod Clearing
