pub mod Api
mod Gives
mod Windows
