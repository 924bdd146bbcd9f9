-- The lemmas that other crates may use.
pub use Rattle.tdf_sim_traces.proofs.Able.{advanced_can_be_taken, few_of, few_values, sound_can_be_shown, sound_can_start}
pub use Rattle.tdf_sim_traces.proofs.Ahead.{told_is_shown}
pub use Rattle.tdf_sim_traces.proofs.Ending.{driving, run_agree, sample_cell}
pub use Rattle.tdf_sim_traces.proofs.Items.{alike, true_false}
pub use Rattle.tdf_sim_traces.proofs.Kept.{later_is_shown, listed_or, no_change, rows_may_be_written, written_is_shown}
pub use Rattle.tdf_sim_traces.proofs.Pushing.{any_found, any_here}
pub use Rattle.tdf_sim_traces.proofs.Listing.{IsFound, found, samples_same}
pub use Rattle.tdf_sim_traces.proofs.Telling.{few_traces, told}
pub use Rattle.tdf_sim_traces.proofs.Waiting.{cell_known, times_rise, tracked_sample}
pub use Rattle.tdf_sim_traces.proofs.Spans.{span_is, steps_of}
pub use Rattle.tdf_sim_traces.proofs.Starting.{given_at}
