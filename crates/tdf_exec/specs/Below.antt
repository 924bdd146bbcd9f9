-- Definitions of crates below, passed on to those above.
-- Source: the crates that say them.
pub use Rattle.tdf_cluster_plans.specs.Groups.{AreTableGroups}
pub use Rattle.tdf_dynamic.specs.Change.{Asks, asks_of, table_after}
pub use Rattle.tdf_dynamic.specs.Laws.{IsBoundary}
pub use Rattle.tdf_dynamic_first.specs.First.{IsFirstPlan}
pub use Rattle.tdf_dynamic_first.specs.declared.first.First.{First}
pub use Rattle.tdf_exec_layout.specs.Edges.{IsActorAt, IsEdgeRow}
pub use Rattle.tdf_exec_layout.specs.Samples.{edge_format, format_of_port}
pub use Rattle.tdf_exec_layout.specs.Traced.{SignalsHaveOnePort, is_out, is_trace_of, is_traced, number_if_traced}
pub use Rattle.tdf_exec_layout.specs.Wiring.{IsEdgeOf, Reads, Writes, port_of_row}
pub use Rattle.tdf_exec_parts.specs.Restored.{held_by_state}
pub use Rattle.tdf_exec_parts.specs.States.{HoldEdges, IsFilledTo, IsInPeriod, IsStateAt, IsStateUnder, due_before}
