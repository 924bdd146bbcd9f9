pub mod EventNames
pub mod Lines
