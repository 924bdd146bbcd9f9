use Rattle.std.proofs.Common.{◌≡◌, ◌≤◌, ℕ, length, slice_get, Some}
use Rattle.tdf_trace.specs.declared.column.Held.{Held}
use Rattle.tdf_trace.proofs.column.place_of.Given as goal

abbrev pub invariant-loop-k : goal.invariant-loop-k
invariant-loop-k l = record {
  within : l.k ≤ length l.held.items;
  after : (i : ℕ) (x : Held) → l.k ≤ i → slice_get l.held.items i ≡ Some x → l.time ≤ x.time;
}

abbrev pub decreases-loop-k : goal.decreases-loop-k
decreases-loop-k l = l.k
