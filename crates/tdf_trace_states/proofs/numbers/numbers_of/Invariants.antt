use Rattle.std.proofs.Common.{◌≡◌, take, map}
use Rattle.tdf_trace_states.proofs.numbers.numbers_of.Given as goal

abbrev pub invariant-loop-i : goal.invariant-loop-i
invariant-loop-i l = l.nums.items ≡ map (λ v. v.num) (take l.i l.values.items)
