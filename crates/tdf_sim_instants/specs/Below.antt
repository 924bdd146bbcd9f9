-- Definitions of crates below, passed on to those above.
-- Source: the crates that say them.
pub use Rattle.tdf_dynamic.specs.Laws.{BoundariesHaveOne}
pub use Rattle.tdf_sim_refinement.specs.At.{IsAt}
pub use Rattle.tdf_sim_refinement.specs.Begun.{HaveBegun}
pub use Rattle.tdf_sim_refinement.specs.Below.{ClusterOf, IsInPeriod, IsSoundFlat, SampleHasFewPlaces, cluster_state, due_before, next_offset, offset_in}
pub use Rattle.tdf_sim_refinement.specs.Pass.{AreAt, Done, Idle, PassAt, PassHasTurn, RunOf, pass_at, pass_run}
unfoldable pub use Rattle.tdf_sim_refinement.specs.Pass.{HavePassed}
pub use Rattle.tdf_sim_refinement.specs.Samples.{AreSamplesOf, HaveTraced}
unfoldable pub use Rattle.tdf_sim_refinement.specs.Samples.{signal_samples}
