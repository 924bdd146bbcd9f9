-- The lemmas that the crates above use.
pub use Rattle.tdf_events_invariants.proofs.Counts.{event_rows_are_few}
pub use Rattle.tdf_events_invariants.proofs.Instances.{instances_have_blocks}
pub use Rattle.tdf_events_invariants.proofs.Owned.{event_rows_have_owners}
pub use Rattle.tdf_events_invariants.proofs.Running.{sound_is_runnable}
pub use Rattle.tdf_events_invariants.proofs.Starts.{signals_start_in_format}
