-- The lemmas that other crates may use.
pub use Rattle.tdf_dynamic.proofs.Api.{get_inside, none_some}
pub use Rattle.tdf_sim_history.proofs.Once.{one_history}
pub use Rattle.tdf_sim_history.proofs.Told.{first_answers, first_told, history_told, more_answers, more_told, starts_told, turns_told}
pub use Rattle.tdf_sim_history.proofs.Twice.{next_is, told_twice}
pub use Rattle.tdf_sim_history.proofs.Unchanged.{unchanged_stay}
pub use Rattle.tdf_sim_history.proofs.Instants.{end_lies, fault_ends, happens, reached, skipped, spent_ends, starts}
pub use Rattle.tdf_sim_history.proofs.Turns.{turns_fault, turns_more, turns_none, turns_past}
pub use Rattle.tdf_sim_history.proofs.Tables.{answers_agree, attributes_alike, attributes_at, boundaries_have_tables, first_attributes}
pub use Rattle.tdf_sim_history.proofs.Texts.{answers_below, cells_same, end_same, notes_same, states_close, states_end, states_leave, states_on, to_same, told_alike, told_below, trace_same, untold_told}
pub use Rattle.tdf_sim_history.proofs.Below.{cell_stays, known_less, sample_stays, whole_plan}
pub use Rattle.tdf_sim_history.proofs.Clusters.{continues_refl, continues_trans, goes_refl, goes_trans, new_goes, read_goes, same_goes, step_goes}
pub use Rattle.tdf_sim_history.proofs.Staying.{cells_agree, port_cluster, signal_cell_stays}
pub use Rattle.tdf_sim_history.proofs.Worlds.{all_refl, all_trans, firings_lead, go_on, instant_leads}
pub use Rattle.tdf_sim_history.proofs.Leading.{AllBy, LeadsBy, all_itself, all_through, boundaries_by, firing_by, firings_by, instant_by, then_by, turns_by}
pub use Rattle.tdf_sim_history.proofs.Known.{done_before, sample_value, whole_sum}
pub use Rattle.tdf_sim_history.proofs.Positions.{column_push, column_total, held_long, some_periods, stamps_total}
pub use Rattle.tdf_sim_history.proofs.Staying.{marks_are_settled}
pub use Rattle.tdf_sim_history.proofs.Records.{last_record, later_at, past_of, record_at, records_push}
pub use Rattle.tdf_sim_history.proofs.Stamps.{first_time, stamps_chain, stamps_early, stamps_late}
unfoldable pub use Rattle.tdf_sim_history.proofs.Stamps.{AreRising}
