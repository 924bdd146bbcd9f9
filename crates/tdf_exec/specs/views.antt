-- What the private types of this crate stand for.
pub mod Actors
