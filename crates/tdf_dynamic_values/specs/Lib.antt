pub mod Laws
pub mod Planned
pub mod States
pub mod Values
pub mod machine
