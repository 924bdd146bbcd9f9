pub mod Laws
pub mod Texts
pub use Rattle.tdf_base.specs.Limits.{longest_line}
pub use Rattle.tdf_lang_parser.specs.Faults.{HasFault}
pub use Rattle.tdf_lang_parser.specs.Laws.{NoFault, OneFault, OneTree, TreeOrFault}
pub use Rattle.tdf_lang_parser.specs.Refused.{SpellsText}
pub use Rattle.tdf_lang_parser.specs.SpellsTree.{SpellsTree}
pub use Rattle.tdf_lang_exprs.specs.SpellsExpr.{SpellsExpr}
pub use Rattle.tdf_lang_printer.specs.Canon.{canon}
pub use Rattle.tdf_lang_printer.specs.Exprs.{expr_text}
pub use Rattle.tdf_lang_lexer.specs.Dialect.{token_of}
pub use Rattle.tdf_lang_lexer.specs.Pieces.{without_comment, pieces_of}
pub use Rattle.tdf_lang_lexer.specs.Rows.{Row, rows_of}
pub use Rattle.tdf_lang_lexer.specs.Text.{fault_of, is_allowed_byte, lines_of}
pub use Rattle.tdf_lang_tree.specs.Alike.{Alike}
pub use Rattle.tdf_lang_tree.specs.Pure.{PureExpr, PureTree}
