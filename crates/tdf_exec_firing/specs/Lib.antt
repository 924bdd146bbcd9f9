pub mod Activation
pub mod Actors
pub mod Edges
pub mod Firing
pub mod Formats
pub mod Wires
pub mod machine
