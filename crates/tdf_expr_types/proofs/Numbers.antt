-- Comparing numbers that are counted up to the greatest.
use Rattle.std.proofs.Common.{◌≡◌, ◌∙◌, ℕ, ◌<◌, ◌≤◌, min, sym, ⊎_elim, arith}
use Rattle.std.specs.Prelude.{nat_lt}
use Rattle.std.proofs.lemmas.Bool.{cases_lt, lt-ltb, le-ltb}

-- a number below the greatest is above what is capped exactly where it is above it
pub below_capped : (n m size : ℕ) → size ≤ m → nat_lt (min n m) size ≡ nat_lt n size
below_capped n m size few = ⊎_elim
    (λ (l : n < size). let k : min n m < size = omega (arith, l, few) in lt-ltb _ _ k ∙ sym (lt-ltb _ _ l))
    (λ (l : size ≤ n). let k : size ≤ min n m = omega (arith, l, few) in le-ltb _ _ k ∙ sym (le-ltb _ _ l))
    (cases_lt n size)

pub ruleset number_laws = (below_capped)
