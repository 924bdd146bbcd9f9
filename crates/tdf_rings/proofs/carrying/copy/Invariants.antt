use Rattle.std.proofs.Common.{◌≡◌, take}
use Rattle.tdf_rings.specs.Rings.{ring_of}
use Rattle.tdf_rings.proofs.carrying.copy.Given as goal

abbrev pub invariant-loop-i : goal.invariant-loop-i
invariant-loop-i l = l.to ≡ ring_of (take l.i l.from.samples) l.initial.to.capacity
