pub mod Grouped
pub mod Laws
pub mod Made
pub mod Numbers
pub mod Own
pub mod Whole
pub mod views
