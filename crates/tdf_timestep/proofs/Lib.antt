pub mod Agreed
pub mod Answered
pub mod Firsts
pub mod Shares
pub mod Unwhole
