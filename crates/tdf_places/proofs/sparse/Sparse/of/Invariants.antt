use Rattle.std.proofs.Common.{◌≡◌, take}
use Rattle.tdf_places.proofs.sparse.Sparse.of.Given as goal

abbrev pub invariant-loop-i : goal.invariant-loop-i
invariant-loop-i l = l.list.items ≡ take l.i l.values
