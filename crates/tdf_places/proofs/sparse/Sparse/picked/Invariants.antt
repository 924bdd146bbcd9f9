use Rattle.std.proofs.Common.{◌≡◌, map, take}
use Rattle.std.specs.Prelude.{slice_index}
use Rattle.tdf_places.proofs.sparse.Sparse.picked.Given as goal

abbrev pub invariant-loop-i : goal.invariant-loop-i
invariant-loop-i l = l.own.items ≡ map (slice_index l.self.items) (take l.i l.places)
