pub mod Below
pub mod Restored
pub mod Rings
pub mod States
pub mod machine
