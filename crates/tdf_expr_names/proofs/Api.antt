-- The lemmas that the crates above use.
pub use Rattle.tdf_expr_names.proofs.FaultLines.{faults_stand}
pub use Rattle.tdf_expr_names.proofs.NamesOnce.{names_once}
