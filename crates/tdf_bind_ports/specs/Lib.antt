pub mod Agree
pub mod Faults
pub mod Law
pub mod Links
pub mod Ports
pub mod Seen
pub mod machine
