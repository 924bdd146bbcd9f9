use Rattle.std.proofs.Common.{◌≡◌, take, map}
use Rattle.tdf_events.proofs.state.nums_of.Given as goal

abbrev pub invariant-loop-i : goal.invariant-loop-i
invariant-loop-i l = l.nums.items ≡ map (λ value. value.num) (take l.i l.values)
