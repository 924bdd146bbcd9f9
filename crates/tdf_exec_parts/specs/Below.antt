-- Definitions of crates below, passed on to those above.
-- Source: the crates that say them.
pub use Rattle.tdf_dynamic_values.specs.Planned.{IsTableFirst}
pub use Rattle.tdf_dynamic_values.specs.States.{IsTableOfStates}
