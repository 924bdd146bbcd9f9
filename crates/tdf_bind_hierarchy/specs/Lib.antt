pub mod Blocks
pub mod Bound
pub mod Laws
pub mod Met
pub mod Paths
pub mod PortKinds
pub mod Tables
pub mod machine
