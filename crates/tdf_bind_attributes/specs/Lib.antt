pub mod Roles
pub mod Standing
pub mod machine
