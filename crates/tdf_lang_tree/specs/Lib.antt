pub mod Alike
pub mod Below
pub mod Forms
pub mod Kept
pub mod Kinds
pub mod LinesIn
pub mod Pure
pub mod Views
