pub use Rattle.tdf_lang_lexer.specs.Token.{tok}
pub mod FitsLine
pub mod FormViews
pub mod Laws
pub mod SpellsLine
pub mod machine
