pub mod Api
mod Forgotten
mod Members
mod Skips
mod Sorted
mod Nodes
