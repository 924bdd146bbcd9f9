pub mod Laws
pub mod Onward
