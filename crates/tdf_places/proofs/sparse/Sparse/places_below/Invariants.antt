use Rattle.std.proofs.Common.{◌≡◌, take}
use Rattle.tdf_places.specs.views.Kept.{places_of}
use Rattle.tdf_places.proofs.sparse.Sparse.places_below.Given as goal

abbrev pub invariant-loop-i : goal.invariant-loop-i
invariant-loop-i l = l.places.items ≡ take l.i (places_of l.self-inside.kept.items)
