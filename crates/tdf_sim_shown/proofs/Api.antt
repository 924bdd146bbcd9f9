-- The lemmas that other crates may use.
pub use Rattle.tdf_sim_traces.proofs.Api.{advanced_can_be_taken, cell_known, given_at, later_is_shown, rows_may_be_written, run_agree, span_is, steps_of, told, told_is_shown, tracked_sample, written_is_shown}
pub use Rattle.tdf_sim_resumed.proofs.Api.{done_early}
pub use Rattle.tdf_sim_shown.proofs.Front.{next_late}
