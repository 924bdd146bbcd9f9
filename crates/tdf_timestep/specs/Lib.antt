pub mod Order
pub mod Period
pub mod views
