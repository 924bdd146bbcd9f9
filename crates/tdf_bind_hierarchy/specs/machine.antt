-- How the code of this crate works.
pub mod LinkText
pub mod Walk
