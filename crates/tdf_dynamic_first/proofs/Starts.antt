-- The starting values of a block without a rate variable.
use Rattle.std.proofs.Common.{◌≡◌, List, [], ◌∷◌, length, map, refl, arith}
use Rattle.tdf_expr.specs.declared.spans.RateSpan.{RateSpan}

pub no_starts : (spans : List RateSpan) → length spans ≡ 0 → [] ≡ map (λ (r : RateSpan). r.start) spans
no_starts [] none = refl
no_starts (x ∷ spans) none = absurd (omega (arith, none))
