pub mod Cells
pub mod Faults
pub mod Laws
pub mod Rows
pub mod Tables
pub mod Words
pub mod machine
