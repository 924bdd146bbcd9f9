use Rattle.std.proofs.Common.{◌≡◌, ◌++◌, drop}
use Rattle.std.specs.List.{flat_map}
use Rattle.tdf_expr.proofs.rates.rate_plan.Given as goal
use Rattle.tdf_expr.specs.Plans.{rate_span, rate_spans}

abbrev pub invariant-loop-place : goal.invariant-loop-place
invariant-loop-place l = l.spans.items ++ flat_map rate_span (drop l.place l.scope.own.things) ≡ rate_spans l.scope.own
