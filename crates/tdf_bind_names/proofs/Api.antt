-- The lemmas that the crates above use.
pub use Rattle.tdf_bind_names.proofs.Bounds.{binds_all, refers_back}
pub use Rattle.tdf_bind_names.proofs.Few.{counts_all}
