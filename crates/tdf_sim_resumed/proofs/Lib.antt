mod One
mod Onward
mod Places
mod Plans
mod Quiet
mod Saved
mod Standing
pub mod Api
pub mod Good
pub mod Members
