-- Definitions of crates below, passed on to those above.
-- Source: the crates that say them.
pub use Rattle.tdf_sim_instants.specs.InstantLaws.{IsModelOf}
pub use Rattle.tdf_sim_shown.specs.Below.{IsValid, resumed_world, rows_from_saved}
