-- The lemmas that the crates above use.
pub use Rattle.tdf_lang_parser.proofs.FormedLaws.{text_formed}
pub use Rattle.tdf_lang_parser.proofs.KeptLaws.{text_keeps, text_order}
pub use Rattle.tdf_lang_parser.proofs.LangLaws.{never_both, one_line_at_fault, one_of_both, one_tree}
