pub mod Dialect
pub mod FirstFault
pub mod Longest
pub mod Pieces
pub mod Rows
pub mod Text
pub mod Token
pub mod Words
pub mod machine
pub use Rattle.tdf_base.specs.Limits.{longest_line, longest_text}
