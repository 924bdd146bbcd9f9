mod Ahead
pub mod Api
pub mod Below
pub mod Clusters
mod Idle
pub mod Instants
pub mod Known
pub mod Leading
mod Once
pub mod Positions
mod Records
pub mod Stamps
pub mod Staying
mod Tables
mod Texts
mod Told
pub mod Turns
mod Twice
mod Unchanged
pub mod Worlds
