use Rattle.std.proofs.Common.{◌≡◌, map, take}
use Rattle.tdf_exec_parts.specs.machine.Restoring.{sample_of}
use Rattle.tdf_rings.specs.Rings.{ring_of}
use Rattle.tdf_exec_parts.proofs.restoring.put_nums.Given as goal

abbrev pub invariant-loop-i : goal.invariant-loop-i
invariant-loop-i l = l.ring ≡ ring_of (map (sample_of l.frac) (take l.i l.nums)) l.initial.ring.capacity
