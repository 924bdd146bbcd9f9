mod ByteOrder
mod CellOrder
mod Choices
pub mod Counts
mod Leasts
mod Measuring
pub mod Rising
mod Stepping
pub mod Texts
mod Thin
mod Values
pub mod WindowLaws
