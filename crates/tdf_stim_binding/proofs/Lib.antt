pub mod Api
pub mod Binding
pub mod Meeting
pub mod Resolved
pub mod Roles
pub mod Shape
