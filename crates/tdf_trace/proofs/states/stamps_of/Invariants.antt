use Rattle.std.proofs.Common.{◌≡◌, take}
use Rattle.tdf_trace.proofs.states.stamps_of.Given as goal
use Rattle.tdf_trace.specs.States.{stamps_held}

abbrev pub invariant-loop-i : goal.invariant-loop-i
invariant-loop-i l = l.list.items ≡ stamps_held (take l.i l.held.items)
