use Rattle.std.proofs.Common.{◌≡◌, take}
use Rattle.tdf_rings.specs.Rings.{ring_of}
use Rattle.tdf_exec_parts.proofs.filling.put_samples.Given as goal

abbrev pub invariant-loop-i : goal.invariant-loop-i
invariant-loop-i l = l.ring ≡ ring_of (take l.i l.samples) l.initial.ring.capacity
