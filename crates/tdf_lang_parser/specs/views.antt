pub mod Kinds
pub mod PlaceViews
pub mod RowViews
