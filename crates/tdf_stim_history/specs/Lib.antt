pub mod Driver
pub mod Laws
pub mod Literals
pub mod Rows
pub mod Standing
