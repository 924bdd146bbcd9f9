pub mod Assignments
pub mod Attributes
pub mod Faults
pub mod Known
pub mod Rates
pub mod Same
pub mod machine
