pub mod Api
mod AllForms
mod BlockWalks
mod Kept
mod Likeness
mod Standing
mod Statements
mod TreeWalks
mod Walking
