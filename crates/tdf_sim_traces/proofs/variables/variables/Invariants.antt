use Rattle.std.proofs.Common.{◌≡◌, take}
use Rattle.std.specs.Prelude.{filter_map}
use Rattle.tdf_sim_traces.proofs.variables.variables.Given as goal
use Rattle.tdf_sim_traces.specs.Variables.{trace_variable}

abbrev pub invariant-loop-c : goal.invariant-loop-c
invariant-loop-c l = l.list.items ≡ filter_map (trace_variable l.tables) (take l.c l.tables.traces)
