pub mod Faults
pub mod Bytes
pub mod Device
