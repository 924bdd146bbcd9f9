use Rattle.std.proofs.Common.{map, ◌≡◌, ◌≤◌, ◌^◌, ◌++◌, drop}
use Rattle.tdf_expr.proofs.ports.port_plan.Given as goal
use Rattle.tdf_expr.specs.Plans.{place_of_span, places_from, port_places}
use Rattle.tdf_expr_semantics.specs.Places.{before, samples_of}

abbrev pub invariant-loop-place : goal.invariant-loop-place
invariant-loop-place l = record {
  spans : map place_of_span l.spans.items ++ places_from l.scope.own l.samples (drop l.place l.scope.own.things) ≡ port_places l.scope.own;
  samples : l.samples ≡ before (samples_of l.scope.own) l.scope.own.things l.place;
  few : l.samples ≤ 2 ^ 31;
}
