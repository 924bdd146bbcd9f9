pub mod Bytes
pub mod Choosing
pub mod Measures
pub mod Windows
