use Rattle.std.proofs.Common.{◌≡◌, ◌++◌, drop, map, take}
use Rattle.tdf_places.specs.views.Kept.{moved_by}
use Rattle.tdf_places.proofs.sparse.move_all.Given as goal

abbrev pub invariant-loop-i : goal.invariant-loop-i
invariant-loop-i l = l.kept.items ≡ map (moved_by l.places) (take l.i l.initial.kept.items) ++ drop l.i l.initial.kept.items
