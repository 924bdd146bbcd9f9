pub mod Api
mod Building
mod Cells
pub mod CheckedRows
mod ColumnLists
pub mod Forms
mod FreeNames
mod KeptDriver
mod Loops
pub mod Maps
mod Plans
