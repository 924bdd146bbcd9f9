pub mod Rows
pub mod Noted
pub mod Laws
pub mod Positions
pub mod Stamping
