-- How the code of this crate works.
pub mod ActorSteps
pub mod FlatSteps
