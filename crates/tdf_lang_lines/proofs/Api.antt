-- The lemmas that the crates above use.
pub use Rattle.tdf_lang_lines.proofs.FormReads.{form_is}
pub use Rattle.tdf_lang_lines.proofs.KeepLaws.{KeepsForm, line_keeps}
pub use Rattle.tdf_lang_lines.proofs.KindLaws.{line_fits, line_of_kind}
pub use Rattle.tdf_lang_lines.proofs.ReadForms.{form_means}
