pub mod Bodies
pub mod machine
