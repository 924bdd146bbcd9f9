-- The lemmas that other crates may use.
pub use Rattle.tdf_expr_flat.proofs.InOrder.{steps_append, safe_append}
