-- The lemmas that the crates above use.
pub use Rattle.tdf_sim_runs.proofs.Answering.{always_ok, if_ok, then_ok}
pub use Rattle.tdf_sim_runs.proofs.Counting.{counts_from, counts_other}
pub use Rattle.tdf_sim_runs.proofs.Noting.{plans_part}
pub use Rattle.tdf_sim_runs.proofs.WholeRun.{have_to, head_part, runs_whole, told_is, told_to}
pub use Rattle.tdf_sim_runs.proofs.OfRun.{own_model, own_start, snapshot_of_run}
