-- How the code goes from row to row.
pub mod Finding
pub mod Firsts
pub mod Going
pub mod Moving
pub mod Putting
pub mod Resuming
pub mod Showing
pub mod Turning
