pub mod LitViews
pub mod Waiting
