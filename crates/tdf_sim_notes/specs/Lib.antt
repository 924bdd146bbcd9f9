pub mod Ending
pub mod Laws
pub mod Plans
