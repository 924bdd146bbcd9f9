pub mod Api
mod Fronts
mod Lists
mod Maps
mod Ranges
mod Spreads
