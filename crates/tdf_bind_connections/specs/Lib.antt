pub mod Drivers
pub mod Edges
pub mod Modules
pub mod ProcessBlocks
pub mod Roles
pub mod Traces
pub mod Writers
pub mod machine
