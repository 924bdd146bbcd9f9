pub mod Counted
pub mod Groups
pub mod Own
pub mod machine
