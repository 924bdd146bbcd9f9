-- The lemmas that other crates may use.
pub use Rattle.tdf_exec_parts.proofs.Api.{own_numbers}
pub use Rattle.tdf_exec_layout.proofs.Api.{edge_row, module_kind, sink_rates, sinks_read}
pub use Rattle.tdf_exec.proofs.Entries.{plan_counts}
pub use Rattle.tdf_exec.proofs.Flags.{DifferInFlags, net_same, plan_same, with_flag}
pub use Rattle.tdf_exec.proofs.Greatest.{due_left, moved_sent, moved_traced}
pub use Rattle.tdf_exec.proofs.Playing.{due_alike, like_sent, like_traced, sizes_alike}
pub use Rattle.tdf_exec.proofs.Totals.{gained_room, sent_total, traced_total}
