pub mod Laws
pub mod Splitting
pub mod Columns
