pub mod Api
pub mod Listed
pub mod Numbered
pub mod Ported
pub mod Rolled
pub mod Stood
