pub mod Acts
pub mod Nodes
pub mod Sequences
pub mod Turns
pub mod machine
