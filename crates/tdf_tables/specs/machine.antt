pub mod Body
pub mod Scan
