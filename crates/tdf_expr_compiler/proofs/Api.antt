-- The lemmas that other crates may use.
pub use Rattle.tdf_expr_compiler.proofs.Lists.{faultless}
