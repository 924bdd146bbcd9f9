pub mod Places
pub mod Sparse
pub mod Spread
pub mod views
