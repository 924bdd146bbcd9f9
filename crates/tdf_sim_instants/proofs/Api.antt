-- The lemmas that other crates may use.
pub use Rattle.tdf_sim_refinement.proofs.Api.{all_at, all_starts_are_at, boundaries_add_none, cluster_there, done_known, entries_inside, passes_trace, takes_time, true_false}
pub use Rattle.tdf_sim_instants.proofs.Boundaries.{counts_all, have_plans}
pub use Rattle.tdf_sim_instants.proofs.Crossed.{crossed_long}
pub use Rattle.tdf_sim_instants.proofs.ToldAt.{told_get, told_long}
