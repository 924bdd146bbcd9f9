-- The lemmas that other crates may use.
pub use Rattle.tdf_trace.proofs.ColumnPlaces.{First, Last, Pushed, get_last, pushed}
pub use Rattle.tdf_trace.proofs.Alike.{stands_alike}
pub use Rattle.tdf_trace.proofs.Whole.{head_front, makes_whole, rows_front, writes_whole, written_more, written_none}
pub use Rattle.tdf_trace.proofs.Manies.{holds_same, of_kept, samples_append}
pub use Rattle.tdf_trace.proofs.Resumed.{holds_resumed, last_stamps, rest_waits}
pub use Rattle.tdf_trace.proofs.Stated.{get_zip, number_apart}
pub use Rattle.tdf_trace.proofs.Uses.{holds_event, holds_fresh, left_is, started_back, started_since}
