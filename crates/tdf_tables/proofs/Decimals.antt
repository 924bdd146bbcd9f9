-- The last digit of a list of digits.
use Rattle.std.proofs.Common.{◌≡◌, ℕ, suc, ◌-◌, ◌<◌, false, nat_eq, List, [], ◌∷◌, length, get_or, refl, arith, ◌∙◌, ap}
use Rattle.tdf_tables.specs.machine.Scan.{ends_in_zero}

pub ends_none : (digits : List ℕ) → length digits ≡ 0 → ends_in_zero digits ≡ false
unfolding ends_in_zero
ends_none [] h = refl
ends_none (c ∷ cs) h = absurd (omega (arith, h))

pub ends_some : (digits : List ℕ) (d : ℕ) → 0 < length digits
    → ends_in_zero digits ≡ nat_eq (get_or digits (length digits - 1) d) 48
unfolding ends_in_zero
ends_some [] d h = absurd (omega (arith, h))
ends_some (c ∷ []) d h = refl
ends_some (c ∷ (e ∷ cs)) d h =
    let f : suc (length cs) - 1 ≡ length cs = omega arith in
    let g : suc (suc (length cs)) - 1 ≡ suc (length cs) = omega arith in
    let same : get_or (e ∷ cs) (length (e ∷ cs) - 1) d ≡ get_or (c ∷ (e ∷ cs)) (length (c ∷ (e ∷ cs)) - 1) d = rw (f, g) refl in
    ends_some (e ∷ cs) d (omega arith) ∙ ap (λ x. nat_eq x 48) same

pub ruleset end_laws = (ends_none, ends_some)
