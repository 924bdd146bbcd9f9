pub mod Api
mod EdgeRates
mod FirstRings
mod Fits
mod Left
mod Onward
mod OwnEdges
mod Rows
mod Said
mod Stated
