-- Definitions of crates below, passed on to those above.
-- Source: the crates that say them.
pub use Rattle.tdf_sim_refinement.specs.Below.{ClusterOf, IsClusterOf, due_before, turns_from}
pub use Rattle.tdf_sim_refinement.specs.At.{IsAt}
pub use Rattle.tdf_sim_refinement.specs.Pass.{AreAt}
pub use Rattle.tdf_sim_refinement.specs.Samples.{AreSamplesOf, sample_known}
