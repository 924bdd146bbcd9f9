-- The lemmas that other crates may use.
pub use Rattle.tdf_expr_cuts.proofs.Keeping.{raised_small}
pub use Rattle.tdf_expr_cuts.proofs.Powers.{small_power}
