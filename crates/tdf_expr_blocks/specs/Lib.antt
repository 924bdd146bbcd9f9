pub mod Below
pub mod Blocks
pub mod Lines
pub mod Types
pub mod Writers
pub mod machine
