pub mod Carried
pub mod Rings
pub mod views
