-- Definitions of crates below, passed on to those above.
-- Source: the crates that say them.
pub use Rattle.tdf_bind_invariants.specs.Limits.{AreWithinLimits, limits_in}
pub use Rattle.tdf_dynamic_first.specs.First.{IsFirstPlan}
pub use Rattle.tdf_dynamic_first.specs.declared.first.First.{First}
