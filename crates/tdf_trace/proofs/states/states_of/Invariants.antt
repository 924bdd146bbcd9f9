use Rattle.std.proofs.Common.{◌≡◌, take, map}
use Rattle.tdf_trace.proofs.states.states_of.Given as goal
use Rattle.tdf_trace.specs.States.{column_state}

abbrev pub invariant-loop-i : goal.invariant-loop-i
invariant-loop-i l = l.states.items ≡ map column_state (take l.i l.columns.items)
