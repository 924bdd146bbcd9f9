pub mod ColumnStates
pub mod Windows
pub mod machine
