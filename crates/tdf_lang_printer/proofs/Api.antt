-- What the laws of the language need of the canonical text.
pub use Rattle.tdf_lang_printer.proofs.StmtTexts.{lines_append, end_text}
