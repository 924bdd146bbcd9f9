mod Accepted
pub mod Alone
pub mod Columns
pub mod Settling
pub mod Sinks
