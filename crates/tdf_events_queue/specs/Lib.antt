pub mod Evaluation
pub mod Lists
pub mod Sets
pub mod Times
pub mod Triggered
pub mod machine
