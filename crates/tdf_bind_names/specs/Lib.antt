pub mod Counts
pub mod Laws
pub mod Resolved
pub mod Signals
pub mod Targets
pub mod machine
