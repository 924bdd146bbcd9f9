pub mod RunTables
pub mod Laws
