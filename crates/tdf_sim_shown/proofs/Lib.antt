mod Adding
mod Cells
mod ColumnStarts
mod Columned
mod Columns
mod Counting
mod Ends
mod Going
mod Known
mod Restored
mod Rising
mod RowsFrom
mod Same
mod Splits
mod Taken
mod Telling
pub mod Api
pub mod Front
