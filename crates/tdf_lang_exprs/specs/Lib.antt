pub mod Numbers
pub mod Literals
pub mod Index
pub mod Formats
pub mod Paths
pub mod SpellsExpr
pub mod Fits
pub mod FormatEnds
pub mod Laws
pub mod machine
pub mod views
pub use Rattle.tdf_lang_lexer.specs.Token.{Tok, tok}
pub use Rattle.tdf_lang_tree.specs.Views.{pure_expr}
