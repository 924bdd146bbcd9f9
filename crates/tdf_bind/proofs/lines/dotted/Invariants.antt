use Rattle.std.proofs.Common.{◌≡◌, take}
use Rattle.tdf_bind.proofs.lines.dotted.Given as goal
use Rattle.tdf_bind.specs.Flat.{dotted}

abbrev pub invariant-loop-place : goal.invariant-loop-place
invariant-loop-place l = l.text.items ≡ dotted (take l.place l.names)
