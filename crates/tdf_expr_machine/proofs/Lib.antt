pub mod Api
pub mod Bits
pub mod Flats
pub mod InOrder
pub mod Plains
pub mod Powers
pub mod Runs
pub mod Sums
