pub mod Api
pub mod ActorLoops
pub mod EdgeRanges
pub mod EdgeWhole
pub mod Joining
pub mod RangeLaws
pub mod Reaching
