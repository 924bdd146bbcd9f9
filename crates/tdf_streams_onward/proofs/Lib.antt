pub mod Api
pub mod Back
pub mod Bodies
pub mod Enough
pub mod Equal
pub mod More
pub mod Resumed
