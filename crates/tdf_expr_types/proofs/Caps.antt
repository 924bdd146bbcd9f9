-- Widths up to the greatest number.
use Rattle.std.proofs.Common.{◌≡◌, ◌∙◌, ℕ, ◌+◌, ◌<◌, ◌≤◌, min, sym, ⊎_elim, arith}
use Rattle.std.specs.Prelude.{nat_lt, max}
use Rattle.std.proofs.lemmas.Bool.{cases_lt, lt-ltb, le-ltb}
use Rattle.tdf_expr_symbols.specs.Faults.{is_wide}
use Rattle.tdf_expr_symbols.specs.Width.{Width}

pub same_wide : (m : ℕ) (w : Width) → 120 < m → nat_lt 120 (min (min w.whole m + min w.part m) m) ≡ is_wide w
unfolding is_wide
same_wide m w big = ⊎_elim
    (λ (l : 120 < w.whole + w.part). let k : 120 < min (min w.whole m + min w.part m) m = omega (arith, l, big) in lt-ltb _ _ k ∙ sym (lt-ltb _ _ l))
    (λ (l : w.whole + w.part ≤ 120). let k : min (min w.whole m + min w.part m) m ≤ 120 = omega (arith, l, big) in le-ltb _ _ k ∙ sym (le-ltb _ _ l))
    (cases_lt 120 (w.whole + w.part))

pub same_wide_cast : (m f : ℕ) (w : Width) → 120 < m → f ≤ m
    → nat_lt 120 (min (min w.whole m + max (min w.part m) f) m) ≡ nat_lt 120 (w.whole + max w.part f)
same_wide_cast m f w big few = ⊎_elim
    (λ (l : 120 < w.whole + max w.part f). let k : 120 < min (min w.whole m + max (min w.part m) f) m = omega (arith, l, big, few) in lt-ltb _ _ k ∙ sym (lt-ltb _ _ l))
    (λ (l : w.whole + max w.part f ≤ 120). let k : min (min w.whole m + max (min w.part m) f) m ≤ 120 = omega (arith, l, big, few) in le-ltb _ _ k ∙ sym (le-ltb _ _ l))
    (cases_lt 120 (w.whole + max w.part f))

pub ruleset wide_laws = (same_wide, same_wide_cast)
