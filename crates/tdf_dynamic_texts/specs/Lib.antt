pub mod Plans
pub mod views
