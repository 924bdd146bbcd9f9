use Rattle.tdf_sim_traces.proofs.events.event_columns.Given as goal
use Rattle.tdf_sim_traces.specs.Calls.{start_values}
use Rattle.tdf_sim_traces.specs.machine.Pushing.{AreColumnsTo}

abbrev pub invariant-loop-column : goal.invariant-loop-column
invariant-loop-column l = AreColumnsTo l.tables.traces (start_values l.tables) l.column l.list.items
