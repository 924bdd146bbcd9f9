-- The lemmas that other crates may use.
pub use Rattle.tdf_trace_rows.proofs.Lists.{shown_list}
pub use Rattle.tdf_trace_rows.proofs.Showing.{shown_is}
pub use Rattle.tdf_trace_rows.proofs.Noting.{last_with_cell, noted_more}
pub use Rattle.tdf_trace_rows.proofs.Positions.{has_times, one_sample, one_span, position_is, time_is}
pub use Rattle.tdf_trace_rows.proofs.Rows.{has_none, has_some, last_kept, last_more, or_true, or_true_right, quiet_text, quiet_time, row_here, text_none, text_one, text_split, without_row}
pub use Rattle.tdf_trace_rows.proofs.Sames.{agree_trans, last_same, stays_below, text_same}
pub use Rattle.tdf_trace_rows.proofs.Stamping.{stamped_begin, stamped_none, stamped_on, stamped_time}
