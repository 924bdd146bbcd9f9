pub mod Below
pub mod Columns
pub mod Resumed
pub mod Saved
pub mod machine
