-- The lemmas that other crates may use: the laws over all types, and what leads to them.
pub use Rattle.tdf_exec.proofs.Api.{due_alike, due_left, like_sent, like_traced, moved_sent, moved_traced, plan_counts, sizes_alike}
pub use Rattle.tdf_sim_refinement.proofs.Along.{due_here, goes_along, is_spent}
pub use Rattle.tdf_sim_refinement.proofs.Answering.{answers_lead, cluster_there}
pub use Rattle.tdf_sim_refinement.proofs.Arriving.{arrives, done_none, firings_keep_at, in_plan, not_late, place_d}
pub use Rattle.tdf_sim_refinement.proofs.Beginning.{counted_in, start_at, starts_are_at}
pub use Rattle.tdf_sim_refinement.proofs.Crossing.{all_at, all_done, boundary_at, record_now}
pub use Rattle.tdf_sim_refinement.proofs.Due.{by_offset, due_counted, due_is, some_next, true_false}
pub use Rattle.tdf_sim_refinement.proofs.Firings.{due_fire, few_end, get_set_same, none_fire, set_own}
pub use Rattle.tdf_sim_refinement.proofs.Passing.{all_along, due_offset, get_set_other, later, none_due, part_is_spent, pass_is_spent, passes_along, same_or_not, set_is}
pub use Rattle.tdf_sim_refinement.proofs.Renewing.{new_record}
pub use Rattle.tdf_sim_refinement.proofs.Roomy.{pass_rooms, pass_sent, pass_traced, room_at}
pub use Rattle.tdf_sim_refinement.proofs.Sampling.{reads_kept, reads_long, sampler_reads}
pub use Rattle.tdf_sim_refinement.proofs.Sinking.{drop_at, here_next, here_stands, keeps_to, stands_next, turns_next}
pub use Rattle.tdf_sim_refinement.proofs.Starting.{all_starts_are_at}
pub use Rattle.tdf_sim_refinement.proofs.Taking.{have_one, sinks_take_one, takes_one}
pub use Rattle.tdf_sim_refinement.proofs.Writing.{begins, done_all, enough, entry_in, given_here, sinks_write, turns_here}
pub use Rattle.tdf_sim_refinement.proofs.Inside.{entries_inside, needs_inside, offset_by, offset_inside}
pub use Rattle.tdf_sim_refinement.proofs.Lasting.{takes_time}
pub use Rattle.tdf_sim_refinement.proofs.Answered.{answers_are_told}
pub use Rattle.tdf_sim_refinement.proofs.Knowing.{column_more, done_known, held, known_to, none_done, outputs_known}
pub use Rattle.tdf_sim_refinement.proofs.Passes.{passes_trace}
pub use Rattle.tdf_sim_refinement.proofs.Picked.{samples_append, samples_none}
pub use Rattle.tdf_sim_refinement.proofs.Sampled.{boundaries_add_none, boundary_adds_none, cell_of_samples, starts_have_samples}
pub use Rattle.tdf_sim_refinement.proofs.Emitted.{emitted_to}
pub use Rattle.tdf_sim_refinement.proofs.Ports.{in_range, own_module, ports_have_events}
pub use Rattle.tdf_sim_refinement.proofs.Settled.{settled_inputs}
