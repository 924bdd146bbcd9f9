-- The lemmas that the crates above use.
pub use Rattle.tdf_exec_firing.proofs.Begins.{wire_cases}
pub use Rattle.tdf_exec_firing.proofs.Moves.{Passes, any_cases, writer_cases}
