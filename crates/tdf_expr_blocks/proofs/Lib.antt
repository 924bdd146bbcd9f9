pub mod Leasts
pub mod Lists
pub mod Traces
pub mod Verdicts
pub mod WritersOf
pub mod Writing
