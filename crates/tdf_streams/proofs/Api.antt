-- The lemmas that other crates may use.
pub use Rattle.tdf_dynamic_first.proofs.Api.{net_clusters, net_fit}
pub use Rattle.tdf_streams.proofs.Along.{bound_at, done_next, entry_active, list_along, list_within, plan_present, present_at, record_present, room_at}
pub use Rattle.tdf_streams.proofs.Carried.{begin_as_read, driven_is, edges_carry, outputs_are}
pub use Rattle.tdf_streams.proofs.Edges.{are_rates, is_plannable, is_wired, one_cluster}
pub use Rattle.tdf_streams.proofs.Orders.{alike_orders, complete_plays, ends_whole, firing_known, heads_whole, list_counts, order_stands, played_grounded, ungrounded_stops}
pub use Rattle.tdf_streams.proofs.Plans.{first_record, plan_grounded, table_record, text_attributes}
pub use Rattle.tdf_streams.proofs.Sound.{active_inside, all_known, are_sound, before_and_left, fed_known, is_sound, more_keeps, rates_positive, whole_sound}
pub use Rattle.tdf_streams.proofs.Standing.{are_active, cluster_stands}
pub use Rattle.tdf_streams.proofs.Starts.{edges_all, text_has_lists, text_holds_delays, text_list}
pub use Rattle.tdf_streams.proofs.Times.{steps_whole, times_inside, times_rise}
pub use Rattle.tdf_streams.proofs.Known.{find_more, known_more, place_kept, place_more, reads_keep, state_more}
pub use Rattle.tdf_streams.proofs.Fed.{fed_are_known}
pub use Rattle.tdf_streams.proofs.Firing.{find_now, fired_turn, firing_keeps}
pub use Rattle.tdf_streams.proofs.Boundary.{change_crosses, install_stands}
pub use Rattle.tdf_streams.proofs.Lists.{get_high, get_inside, get_low, get_made_at, some_same}
pub use Rattle.tdf_streams.proofs.Playing.{any_order, order_keeps, played_turns, same_where_done, step_keeps}
pub use Rattle.tdf_streams.proofs.Played.{played_are_grounded}
pub use Rattle.tdf_streams.proofs.Plays.{order_plays}
pub use Rattle.tdf_streams.proofs.FlowStarts.{start_stands}
pub use Rattle.tdf_streams.proofs.Steps.{none_some}
pub use Rattle.tdf_streams.proofs.Lacks.{CanFire, IsAt, some_can_fire}
pub use Rattle.tdf_streams.proofs.Values.{all_are_known, lists_begin_whole, lists_end_whole, whole_past}
