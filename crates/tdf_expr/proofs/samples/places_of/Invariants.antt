use Rattle.std.proofs.Common.{◌≡◌, ◌++◌, drop}
use Rattle.std.specs.Prelude.{map}
use Rattle.tdf_expr.proofs.samples.places_of.Given as goal
use Rattle.tdf_expr.specs.machine.Zeroed.{sample_place}

abbrev pub invariant-loop-span : goal.invariant-loop-span
invariant-loop-span l = l.list.items ++ map sample_place (drop l.span-index l.spans) ≡ map sample_place l.spans
