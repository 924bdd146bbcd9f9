pub mod Drivable
pub mod Driven
pub mod Driver
pub mod Laws
pub mod Signals
pub mod machine
