-- The lemmas that the crates above use.
pub use Rattle.tdf_bind_invariants.proofs.Allowed.{starts_are_allowed}
pub use Rattle.tdf_bind_invariants.proofs.Limits.{flat_is_within_limits}
pub use Rattle.tdf_bind_invariants.proofs.OneStart.{spans_are_one, starts_are_one}
pub use Rattle.tdf_bind_invariants.proofs.Blocks.{apart_differ, stays}
pub use Rattle.tdf_bind_invariants.proofs.Formats.{IsNumberTag, model_tagged, number_is, rows_format, same_format, tags_there}
pub use Rattle.tdf_bind_invariants.proofs.Spaces.{Differ, Pair, found_at, name_in, not_missing, pair, pair_at, pair_found, pairs_plain, place_is, place_next, thing_in, with_pairs}
pub use Rattle.tdf_bind_invariants.proofs.Walked.{IsTagged, rows_tagged}
