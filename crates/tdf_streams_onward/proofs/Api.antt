-- The lemmas that other crates may use.
pub use Rattle.tdf_streams_onward.proofs.Equal.{same_state}
pub use Rattle.tdf_streams_onward.proofs.Resumed.{After, Inside, Lies, before_plain, entered_not, lies, lies_none, map_id, plain_state, sum_after}
