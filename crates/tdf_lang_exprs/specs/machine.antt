pub mod Exprs
pub mod Formats
pub mod Indices
pub mod Literals
pub mod Paths
