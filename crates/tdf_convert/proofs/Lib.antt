mod Added
mod Halves
mod Linked
mod Planned
mod Samples
