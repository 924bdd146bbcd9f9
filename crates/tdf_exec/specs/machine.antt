-- How the code of this crate works.
pub mod Fired
pub mod Laid
pub mod Moving
pub mod Restarting
pub mod Resuming
pub mod Starting
pub mod Steps
pub mod Telling
pub mod Tracing
