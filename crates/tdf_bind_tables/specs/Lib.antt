pub mod Actors
pub mod FlatTables
pub mod Ranges
pub mod Reach
pub mod Whole
pub mod machine
