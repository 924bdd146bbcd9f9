pub mod Below
pub mod Formats
pub mod Layouts
pub mod Promises
pub mod machine
