pub mod Reading
pub mod machine
