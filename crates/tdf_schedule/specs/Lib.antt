pub mod Laws
pub mod Needs
pub mod Plan
pub mod views
