pub mod Cells
pub mod Counted
pub mod Maps
pub mod Planned
pub mod Refused
