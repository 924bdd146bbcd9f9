pub mod Emitted
pub mod Links
pub mod Outputs
pub mod Sampled
pub mod machine
