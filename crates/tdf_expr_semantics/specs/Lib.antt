pub mod Bodies
pub mod Fits
pub mod Laws
pub mod Places
pub mod Value
