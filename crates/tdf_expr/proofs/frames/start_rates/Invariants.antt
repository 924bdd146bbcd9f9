use Rattle.std.proofs.Common.{◌≡◌, ◌++◌, drop}
use Rattle.std.specs.Prelude.{map}
use Rattle.tdf_expr.proofs.frames.start_rates.Given as goal

abbrev pub invariant-loop-span : goal.invariant-loop-span
invariant-loop-span l = l.rates.items ++ map (λ r. r.start) (drop l.span-index l.spans) ≡ map (λ r. r.start) l.spans
