use Rattle.std.proofs.Common.{◌≡◌, take}
use Rattle.tdf_exec.specs.Saved.{nums_of}
use Rattle.tdf_exec.proofs.saving.nums_of.Given as goal

abbrev pub invariant-loop-i : goal.invariant-loop-i
invariant-loop-i l = l.nums.items ≡ nums_of (take l.i l.ring.samples)
