pub mod Heads
pub mod Places
pub mod Walks
