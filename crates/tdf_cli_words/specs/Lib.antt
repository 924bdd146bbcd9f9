pub mod Command
pub mod Jobs
pub mod Words
pub mod Worked
