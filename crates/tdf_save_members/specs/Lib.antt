pub mod Laws
pub mod OfFlat
