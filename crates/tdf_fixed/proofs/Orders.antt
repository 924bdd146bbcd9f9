-- No rounding turns the order of two fractions round.
use Rattle.std.proofs.Common.{◌≡◌, ℕ, ◌+◌, ◌-◌, ◌*◌, ◌/◌, ◌%◌, ◌<◌, ◌≤◌, Bool, true, false, nat_eq, ℤ, pos, negsuc, ◌+ℤ◌, ◌≤ℤ◌, ⊎_elim, ◌⊎◌, inl, inr, if◌then◌else◌, refl, sym, ap, arith}
use Rattle.std.proofs.lemmas.Bool.{cases_lt, cases_Bool}
use Rattle.std.proofs.lemmas.Bool.Decides.{nat_tests}
use Rattle.std.proofs.lemmas.Int.{ints}
use Rattle.std.proofs.lemmas.Nat.{div-add-mod', le-div}
use Rattle.std.proofs.Math.Nat.{div-mul-le_self}
use Rattle.tdf_fixed.specs.CastLaws.{IsMonotone}
use Rattle.tdf_fixed.specs.Quantise.{is_odd, goes_up, rounded_whole}
use Rattle.tdf_fixed.specs.declared.quant.Quant.{Quant}
use Rattle.tdf_fixed.specs.declared.quant.Quant.TheVariants.{Trn, TrnZero, Rnd, RndZero, RndMinInf, RndInf, RndConv}

up_grows : (quant : Quant) (negative odd : Bool) (s t d : ℕ) → s ≤ t → goes_up quant negative odd s d ≡ true → goes_up quant negative odd t d ≡ true
up_grows Trn negative odd s t d le up = up
up_grows TrnZero negative odd s t d le up = up
up_grows Rnd negative odd s t d le up = grind (arith, nat_tests)
up_grows RndZero negative odd s t d le up = grind (arith, nat_tests)
up_grows RndMinInf negative odd s t d le up = grind (arith, nat_tests)
up_grows RndInf negative odd s t d le up = grind (arith, nat_tests)
up_grows RndConv negative odd s t d le up = grind (arith, nat_tests)

pub settled_low : (quant : Quant) (negative : Bool) (whole : ℤ) (rest d : ℕ) → whole ≤ℤ rounded_whole quant negative whole rest d
unfolding rounded_whole
settled_low quant negative whole rest d =
    elim (nat_eq rest 0) as (λ b. whole ≤ℤ (if b then whole else if goes_up quant negative (is_odd whole) (2 * rest) d then whole +ℤ pos 1 else whole)) [
      | true ↦ omega (arith, ints)
      | false ↦ elim (goes_up quant negative (is_odd whole) (2 * rest) d) as (λ b. whole ≤ℤ (if b then whole +ℤ pos 1 else whole))
          [ true ↦ omega (arith, ints) | false ↦ omega (arith, ints) ]
    ]

pub settled_high : (quant : Quant) (negative : Bool) (whole : ℤ) (rest d : ℕ) → rounded_whole quant negative whole rest d ≤ℤ (whole +ℤ pos 1)
unfolding rounded_whole
settled_high quant negative whole rest d =
    elim (nat_eq rest 0) as (λ b. (if b then whole else if goes_up quant negative (is_odd whole) (2 * rest) d then whole +ℤ pos 1 else whole) ≤ℤ (whole +ℤ pos 1)) [
      | true ↦ omega (arith, ints)
      | false ↦ elim (goes_up quant negative (is_odd whole) (2 * rest) d) as (λ b. (if b then whole +ℤ pos 1 else whole) ≤ℤ (whole +ℤ pos 1))
          [ true ↦ omega (arith, ints) | false ↦ omega (arith, ints) ]
    ]

settled_down : (quant : Quant) (negative : Bool) (whole : ℤ) (rest d : ℕ) → goes_up quant negative (is_odd whole) (2 * rest) d ≡ false → rounded_whole quant negative whole rest d ≡ whole
unfolding rounded_whole
settled_down quant negative whole rest d down = rw down (elim (nat_eq rest 0) as (λ b. (if b then whole else whole) ≡ whole) [ true ↦ refl | false ↦ refl ])

settled_up : (quant : Quant) (negative : Bool) (whole : ℤ) (rest d : ℕ) → nat_eq rest 0 ≡ false → goes_up quant negative (is_odd whole) (2 * rest) d ≡ true
    → rounded_whole quant negative whole rest d ≡ whole +ℤ pos 1
unfolding rounded_whole
settled_up quant negative whole rest d some up = rw (some, up) refl

settled_none : (quant : Quant) (negative : Bool) (whole : ℤ) (rest d : ℕ) → nat_eq rest 0 ≡ true → rounded_whole quant negative whole rest d ≡ whole
unfolding rounded_whole
settled_none quant negative whole rest d none = rw none refl

-- between the same neighbours
settled_grows : (quant : Quant) (negative : Bool) (whole : ℤ) (r s d : ℕ) → r ≤ s → rounded_whole quant negative whole r d ≤ℤ rounded_whole quant negative whole s d
settled_grows quant negative whole r s d le =
    let low = settled_low quant negative whole s d in
    ⊎_elim
    (λ (none : nat_eq r 0 ≡ true). rw (settled_none quant negative whole r d none) low)
    (λ (some : nat_eq r 0 ≡ false). ⊎_elim
    (λ (up : goes_up quant negative (is_odd whole) (2 * r) d ≡ true).
    let more : nat_eq s 0 ≡ false = grind (arith, nat_tests) in
    let higher = up_grows quant negative (is_odd whole) (2 * r) (2 * s) d (omega arith) up in
    rw (settled_up quant negative whole r d some up, settled_up quant negative whole s d more higher) (omega (arith, ints)))
    (λ (down : goes_up quant negative (is_odd whole) (2 * r) d ≡ false). rw (settled_down quant negative whole r d down) low)
    (cases_Bool (goes_up quant negative (is_odd whole) (2 * r) d)))
    (cases_Bool (nat_eq r 0))

-- between lower and higher neighbours
settled_apart : (quant : Quant) (n m : Bool) (v w : ℤ) (r s d : ℕ) → (v +ℤ pos 1) ≤ℤ w → rounded_whole quant n v r d ≤ℤ rounded_whole quant m w s d
settled_apart quant n m v w r s d less =
    let high = settled_high quant n v r d in let low = settled_low quant m w s d in omega (arith, ints)

settled_order : (quant : Quant) (negative : Bool) (v w : ℤ) (r s d : ℕ) → ((v ≡ w) × (r ≤ s)) ⊎ ((v +ℤ pos 1) ≤ℤ w)
    → rounded_whole quant negative v r d ≤ℤ rounded_whole quant negative w s d
settled_order quant negative v w r s d order = ⊎_elim
    (λ (same : (v ≡ w) × (r ≤ s)). rw same.0 (settled_grows quant negative w r s d same.1))
    (λ (less : (v +ℤ pos 1) ≤ℤ w). settled_apart quant negative negative v w r s d less)
    order

-- quotients and rests of two numbers in order
quotients : (a b d : ℕ) → 0 < d → a ≤ b → ((a / d ≡ b / d) × (a % d ≤ b % d)) ⊎ (a / d + 1 ≤ b / d)
quotients a b d some le =
    let qa = div-add-mod' a d in let qb = div-add-mod' b d in
    let within : a / d ≤ b / d = le-div (a / d) b d some (omega (arith, div-mul-le_self a d)) in
    ⊎_elim
    (λ (less : a / d < b / d). inr (omega arith))
    (λ (not_less : b / d ≤ a / d).
    let same : a / d ≡ b / d = omega arith in
    let products : a / d * d ≡ b / d * d = ap (λ q. q * d) same in
    inl (same, omega arith))
    (cases_lt (a / d) (b / d))

pub monotone : IsMonotone
monotone quant (pos a) (pos b) d some le = settled_order quant false (pos (a / d)) (pos (b / d)) (a % d) (b % d) d
    (⊎_elim
    (λ (same : (a / d ≡ b / d) × (a % d ≤ b % d)). inl (ap pos same.0, same.1))
    (λ (less : a / d + 1 ≤ b / d). inr (omega (arith, ints)))
    (quotients a b d some (omega (arith, ints))))
monotone quant (pos a) (negsuc b) d some le = absurd (omega (arith, ints))
monotone quant (negsuc a) (pos b) d some le = settled_apart quant true false (negsuc (a / d)) (pos (b / d)) (d - 1 - a % d) (b % d) d (omega (arith, ints))
monotone quant (negsuc a) (negsuc b) d some le = settled_order quant true (negsuc (a / d)) (negsuc (b / d)) (d - 1 - a % d) (d - 1 - b % d) d
    (⊎_elim
    (λ (same : (b / d ≡ a / d) × (b % d ≤ a % d)). inl (ap negsuc (sym same.0), omega arith))
    (λ (less : b / d + 1 ≤ a / d). inr (omega (arith, ints)))
    (quotients b a d some (omega (arith, ints))))
