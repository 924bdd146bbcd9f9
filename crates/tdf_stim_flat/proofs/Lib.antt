pub mod Api
pub mod Ends
pub mod Marks
pub mod Writers
