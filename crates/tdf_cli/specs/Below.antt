-- Definitions of crates below, passed on to those above.
-- Source: the crates that say them.
pub use Rattle.tdf_sim.specs.Accepted.{IsAccepted}
pub use Rattle.tdf_sim.specs.Ends.{HaveAnswers, trace_of}
pub use Rattle.tdf_sim.specs.Runs.{IsAcceptedTree}
pub use Rattle.tdf_sim.specs.declared.sim.Sim.{Sim}
