-- Casts go by the value; exact literals cast as their value; how far a rounding goes.
use Rattle.std.proofs.Common.{◌≡◌, ℕ, zero, suc, ◌+◌, ◌-◌, ◌*◌, ◌^◌, ◌<◌, ◌≤◌, Bool, true, false, nat_eq, ℤ, pos, neg_ℤ, ◌+ℤ◌, ◌-ℤ◌, ◌*ℤ◌, ◌≤ℤ◌, ◌<ℤ◌, ⊎_elim, sym, ap, ◌∙◌, arith}
use Rattle.std.proofs.lemmas.Bool.{cases_Bool}
use Rattle.std.proofs.lemmas.Bool.Decides.{nat_tests}
use Rattle.std.proofs.lemmas.Int.{ints}
use Rattle.std.proofs.lemmas.Nat.{pow_pos, pow-add}
use Rattle.std.specs.Prelude.{unsigned_abs}
use Rattle.tdf_base.proofs.Api.{power_some}
use Rattle.tdf_fixed.specs.Cast.{cast_of, fraction_of}
use Rattle.tdf_fixed.specs.CastLaws.{is_nearest, RoundsToNearest, RoundsDown, IsByValue, CastsExactly}
use Rattle.tdf_fixed.specs.Literal.{literal_cast, literal_count, literal_parts, placed_fraction}
use Rattle.tdf_fixed.specs.Overflow.{overflowed}
use Rattle.tdf_fixed.specs.Quantise.{below, above_by, is_negative, is_odd, goes_up, rounded_whole, quantised, requantised}
use Rattle.tdf_fixed.specs.declared.quant.Quant.{Quant}
use Rattle.tdf_fixed.specs.declared.quant.Quant.TheVariants.{Trn, TrnZero, Rnd, RndZero, RndMinInf, RndInf, RndConv}
use Rattle.tdf_fixed.proofs.Scaling.{quantised_scaled, times_both}
use Rattle.tdf_fixed.proofs.Wraps.{neighbours, one_more}
use Rattle.tdf_fixed.proofs.Shorts.{trn_is}

-- ---- by the value

pub turned : (z : ℤ) (a b : ℕ) → (z *ℤ pos a) *ℤ pos b ≡ (z *ℤ pos b) *ℤ pos a
turned z a b =
    let swap : a * b ≡ b * a = grind arith in
    sym (times_both z a b) ∙ ap (λ m. z *ℤ pos m) swap ∙ times_both z b a

placed_value : (quant : Quant) (num : ℤ) (frac k to : ℕ) → requantised quant (num *ℤ pos (2 ^ k)) (frac + k) to ≡ requantised quant num frac to
unfolding requantised
placed_value quant num frac k to =
    ap (λ z. quantised quant z (2 ^ (frac + k))) (turned num (2 ^ k) (2 ^ to))
    ∙ ap (λ d. quantised quant ((num *ℤ pos (2 ^ to)) *ℤ pos (2 ^ k)) d) (pow-add 2 frac k)
    ∙ quantised_scaled quant (num *ℤ pos (2 ^ to)) (2 ^ frac) (2 ^ k) (pow_pos frac) (pow_pos k)

pub by_value : IsByValue
unfolding cast_of
by_value f num frac k = ap (overflowed f.over f.signed f.wl) (placed_value f.quant num frac k (fraction_of f))

-- ---- exact literals

same_fraction : (quant : Quant) (c z : ℤ) (p e t : ℕ) → 0 < p → 0 < e → z *ℤ pos p ≡ c *ℤ pos e
    → quantised quant (c *ℤ pos t) p ≡ quantised quant (z *ℤ pos t) e
same_fraction quant c z p e t some more same =
    let swap : p * e ≡ e * p = grind arith in
    sym (quantised_scaled quant (c *ℤ pos t) p e some more)
    ∙ ap (λ x. quantised quant x (p * e)) (turned c t e ∙ ap (λ x. x *ℤ pos t) (sym same) ∙ turned z p t)
    ∙ ap (λ d. quantised quant ((z *ℤ pos t) *ℤ pos p) d) swap
    ∙ quantised_scaled quant (z *ℤ pos t) e p more some

pub casts_exactly : CastsExactly
unfolding literal_cast placed_fraction cast_of requantised
casts_exactly f l num frac whole =
    ap (overflowed f.over f.signed f.wl)
    (same_fraction f.quant (literal_count l) num (literal_parts l) (2 ^ frac) (2 ^ fraction_of f) (power_some _) (pow_pos frac) whole)

-- ---- how far

stays_near : (quant : Quant) (negative odd : Bool) (rest d : ℕ) → is_nearest quant ≡ true → goes_up quant negative odd (2 * rest) d ≡ false → 2 * rest ≤ d
stays_near Trn negative odd rest d near up = absurd (cc)
stays_near TrnZero negative odd rest d near up = absurd (cc)
stays_near Rnd negative odd rest d near up = grind (arith, nat_tests)
stays_near RndZero negative odd rest d near up = grind (arith, nat_tests)
stays_near RndMinInf negative odd rest d near up = grind (arith, nat_tests)
stays_near RndInf negative odd rest d near up = grind (arith, nat_tests)
stays_near RndConv negative odd rest d near up = grind (arith, nat_tests)

goes_near : (quant : Quant) (negative odd : Bool) (rest d : ℕ) → is_nearest quant ≡ true → goes_up quant negative odd (2 * rest) d ≡ true → d ≤ 2 * rest
goes_near Trn negative odd rest d near up = absurd (cc)
goes_near TrnZero negative odd rest d near up = absurd (cc)
goes_near Rnd negative odd rest d near up = grind (arith, nat_tests)
goes_near RndZero negative odd rest d near up = grind (arith, nat_tests)
goes_near RndMinInf negative odd rest d near up = grind (arith, nat_tests)
goes_near RndInf negative odd rest d near up = grind (arith, nat_tests)
goes_near RndConv negative odd rest d near up = grind (arith, nat_tests)

abs_neg : (rest d : ℕ) → 2 * rest ≤ d → 2 * unsigned_abs (neg_ℤ (pos rest)) ≤ d
abs_neg zero d near = omega arith
abs_neg (suc rest) d near = omega arith

away_low : (p n : ℤ) (rest d : ℕ) → p +ℤ pos rest ≡ n → 2 * rest ≤ d → 2 * unsigned_abs (p -ℤ n) ≤ d
away_low p n rest d parts near = let same : p -ℤ n ≡ neg_ℤ (pos rest) = omega (arith, ints) in rw same (abs_neg rest d near)

away_high : (p q n : ℤ) (rest d : ℕ) → p +ℤ pos rest ≡ n → q ≡ p +ℤ pos d → rest < d → d ≤ 2 * rest → 2 * unsigned_abs (q -ℤ n) ≤ d
away_high p q n rest d parts up less near = let same : q -ℤ n ≡ pos (d - rest) = omega (arith, ints) in rw same (omega arith)

settled_near : (quant : Quant) (negative : Bool) (whole n : ℤ) (rest d : ℕ) → is_nearest quant ≡ true → whole *ℤ pos d +ℤ pos rest ≡ n → rest < d
    → 2 * unsigned_abs (rounded_whole quant negative whole rest d *ℤ pos d -ℤ n) ≤ d
unfolding rounded_whole
settled_near quant negative whole n rest d near parts less = ⊎_elim
    (λ (none : nat_eq rest 0 ≡ true). rw none (away_low (whole *ℤ pos d) n rest d parts (grind (arith, nat_tests))))
    (λ (some : nat_eq rest 0 ≡ false). ⊎_elim
    (λ (up : goes_up quant negative (is_odd whole) (2 * rest) d ≡ true).
    rw (some, up) (away_high (whole *ℤ pos d) ((whole +ℤ pos 1) *ℤ pos d) n rest d parts (one_more whole d) less
    (goes_near quant negative (is_odd whole) rest d near up)))
    (λ (down : goes_up quant negative (is_odd whole) (2 * rest) d ≡ false).
    rw (some, down) (away_low (whole *ℤ pos d) n rest d parts (stays_near quant negative (is_odd whole) rest d near down)))
    (cases_Bool (goes_up quant negative (is_odd whole) (2 * rest) d)))
    (cases_Bool (nat_eq rest 0))

pub nearest_half : RoundsToNearest
nearest_half quant n d some near =
    let both = neighbours n d some in
    settled_near quant (is_negative n) (below n d) n (above_by n d) d near both.0 both.1

down_parts : (p n : ℤ) (rest d : ℕ) → p +ℤ pos rest ≡ n → rest < d → (p ≤ℤ n) × (n <ℤ (p +ℤ pos d))
down_parts p n rest d parts less = (omega (arith, ints), omega (arith, ints))

pub rounds_down : RoundsDown
rounds_down n d some =
    let both = neighbours n d some in
    rw (trn_is n d) (down_parts (below n d *ℤ pos d) n (above_by n d) d both.0 both.1)
