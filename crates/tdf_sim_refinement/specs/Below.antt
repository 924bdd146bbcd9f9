-- Definitions of crates below, passed on to those above.
-- Source: the crates that say them.
pub use Rattle.tdf_exec.specs.Below.{AreTableGroups, HoldEdges, IsFilledTo, IsInPeriod, IsStateAt, IsStateUnder, due_before, edge_format, held_by_state}
pub use Rattle.tdf_exec.specs.Cluster.{ClusterOf, is_next_due, is_offset, next_offset, offset_in}
pub use Rattle.tdf_exec.specs.Crossing.{AreCellsOf, CanInstall, HasBegunPeriod, HasCrossed, HasNoChanges, StandsAfter, values_at}
pub use Rattle.tdf_exec.specs.Gained.{IsSentOf, SampleHasFewPlaces, sent_size, traced_size}
unfoldable pub use Rattle.tdf_exec.specs.Gained.{size_due}
pub use Rattle.tdf_exec.specs.Laws.{RoomIsForOwn}
pub use Rattle.tdf_exec.specs.Layout.{HasLayoutOf, KeepsLayouts, LayoutOf}
pub use Rattle.tdf_exec.specs.Made.{HasRows, IsClusterOf}
pub use Rattle.tdf_exec.specs.Played.{AreDone, AreInputsFor, IsMoved, IsPeriodOf, play_of, runner_cells, turns_from}
pub use Rattle.tdf_exec.specs.Restored.{IsAtState, IsStateStart, StandsAtState}
pub use Rattle.tdf_exec.specs.Saved.{cluster_state, edge_states, module_state, nums_of, own_edges}
pub use Rattle.tdf_exec.specs.Starts.{IsSoundFlat}
pub use Rattle.tdf_exec.specs.Telling.{IsMostOf}
pub use Rattle.tdf_exec.specs.declared.runners.Runner.{Runner}
pub use Rattle.tdf_exec.specs.declared.runners.Runner.TheVariants.{Module, Outside, Sampler, Sink}
pub use Rattle.tdf_exec.specs.declared.telling.Room.{Room}
