-- The lemmas that other crates may use.
pub use Rattle.tdf_places.proofs.Spreads.{gathered, number_inside, place_at, spread_at, spread_elsewhere, spread_found, spread_is, spread_long, spread_nowhere, spread_put, spread_replicate, spread_set, spread_there, stands}
pub use Rattle.tdf_places.proofs.Lists.{rising_apart}
pub use Rattle.tdf_places.proofs.Fronts.{front_more, front_none}
pub use Rattle.tdf_places.proofs.Ranges.{rising_all}
