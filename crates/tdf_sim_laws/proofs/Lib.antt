pub mod Splitting
pub mod Times
mod Columns
