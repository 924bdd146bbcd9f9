pub mod Bits
pub mod Caps
pub mod Counts
pub mod Leasts
pub mod Listed
pub mod Numbers
