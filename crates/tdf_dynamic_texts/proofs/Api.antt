-- The lemmas that the crates above use.
pub use Rattle.tdf_dynamic_texts.proofs.Texts.{kept_after, texts_next}
