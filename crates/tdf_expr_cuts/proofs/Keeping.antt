-- Casts that need no more than a cut: the neighbour below, where it lies in the range.
use Rattle.std.proofs.Common.{◌≡◌, ◌∙◌, ℕ, ◌+◌, ◌-◌, ◌*◌, ◌/◌, ◌%◌, ◌^◌, ◌<◌, ◌≤◌, Bool, true, false, ℤ, pos, negsuc, ◌*ℤ◌, ◌≤ℤ◌, neg_ℤ, nat_eq, if◌then◌else◌, refl, sym, ap, subst, inl, inr, ◌⊎◌, arith}
use Rattle.std.proofs.Math.Nat.{mul-le-mul_right, pow-le-pow_right}
use Rattle.std.proofs.lemmas.Int.{ints, unsigned_abs-mul}
use Rattle.std.proofs.lemmas.Nat.{div-add-mod', div_below, mod_below, pow_pos, pow-add}
use Rattle.std.specs.Int.{w64}
use Rattle.std.specs.Prelude.{unsigned_abs, FitsSigned}
use Rattle.tdf_expr_cuts.proofs.Powers.{small_power}
use Rattle.tdf_fixed.proofs.Api.{cast_keeps, in_width, kept, placed_up, placed_down}
use Rattle.tdf_fixed.specs.Cast.{cast_of, fraction_of}
use Rattle.tdf_fixed.specs.CastLaws.{least_kept}
use Rattle.tdf_fixed.specs.Overflow.{IsOfWidth, least, overflowed}
use Rattle.tdf_fixed.specs.Quantise.{above_by, below, quantised, rounded_whole}
use Rattle.tdf_fixed.specs.declared.format.Format.{Format}
use Rattle.tdf_expr_cuts.specs.Cuts.{IsCutOf}
use Rattle.tdf_fixed.specs.declared.quant.Quant.TheVariants.{Trn}

-- ---- ranges

none_above : (n d : ℕ) → 0 < d → n / d ≡ 0 → n < d
none_above n d some none =
    let sum : n / d * d + n % d ≡ n = div-add-mod' n d in
    let gone : n / d * d ≡ 0 * d = ap (λ q. q * d) none in
    let rest : n % d < d = mod_below n d some in
    omega (arith, sum, gone, rest)

abbrev part : ℤ → ℕ
part (pos n) = n
part (negsuc n) = n

pub in_low : (num : ℤ) (wl : ℕ) → below num (2 ^ (wl - 1)) ≡ pos 0 → IsOfWidth true wl num
in_low (pos n) wl none =
    let quotient : n / 2 ^ (wl - 1) ≡ 0 = ap part none in
    let less : n < 2 ^ (wl - 1) = none_above n (2 ^ (wl - 1)) (pow_pos (wl - 1)) quotient in
    record { low = omega (arith, ints, less); high = omega (arith, ints, less) }
in_low (negsuc n) wl none = absurd (omega (arith, ints, none))

pub in_high : (num : ℤ) (wl : ℕ) → below num (2 ^ (wl - 1)) ≡ negsuc 0 → IsOfWidth true wl num
in_high (pos n) wl none = absurd (omega (arith, ints, none))
in_high (negsuc n) wl none =
    let quotient : n / 2 ^ (wl - 1) ≡ 0 = ap part none in
    let less : n < 2 ^ (wl - 1) = none_above n (2 ^ (wl - 1)) (pow_pos (wl - 1)) quotient in
    record { low = omega (arith, ints, less); high = omega (arith, ints, less) }

pub in_unsigned : (num : ℤ) (wl : ℕ) → below num (2 ^ wl) ≡ pos 0 → IsOfWidth false wl num
in_unsigned (pos n) wl none =
    let quotient : n / 2 ^ wl ≡ 0 = ap part none in
    let less : n < 2 ^ wl = none_above n (2 ^ wl) (pow_pos wl) quotient in
    record { low = omega (arith, ints, less); high = omega (arith, ints, less) }
in_unsigned (negsuc n) wl none = absurd (omega (arith, ints, none))

pub small_low : (num : ℤ) (places : ℕ) → below num (2 ^ places) ≡ pos 0 → unsigned_abs num ≤ 2 ^ places
small_low (pos n) places none =
    let less : n < 2 ^ places = none_above n (2 ^ places) (pow_pos places) (ap part none) in omega (arith, less)
small_low (negsuc n) places none = absurd (omega (arith, ints, none))

pub small_high : (num : ℤ) (places : ℕ) → below num (2 ^ places) ≡ negsuc 0 → unsigned_abs num ≤ 2 ^ places
small_high (pos n) places none = absurd (omega (arith, ints, none))
small_high (negsuc n) places none =
    let less : n < 2 ^ places = none_above n (2 ^ places) (pow_pos places) (ap part none) in omega (arith, less)

none_in : (n d : ℕ) → n < d → n / d ≡ 0
none_in n d less =
    let some : 0 < d = omega (arith, less) in
    let one : n / d < 1 = div_below n d 1 some (omega (arith, less)) in omega (arith, one)

pub seen_small : (num : ℤ) (places : ℕ) → unsigned_abs num < 2 ^ places → (below num (2 ^ places) ≡ pos 0) ⊎ (below num (2 ^ places) ≡ negsuc 0)
seen_small (pos n) places less = inl (ap pos (none_in n (2 ^ places) less))
seen_small (negsuc n) places less = let small : n < 2 ^ places = omega (arith, less) in inr (ap negsuc (none_in n (2 ^ places) small))

pub ruleset size_laws = (small_low, small_high, seen_small)

pub raised_small : (m bits : ℕ) → bits ≤ 61 → m ≤ 2 ^ (61 - bits) → m * 2 ^ bits ≤ 2 ^ 61
raised_small m bits few less =
    let times : m * 2 ^ bits ≤ 2 ^ (61 - bits) * 2 ^ bits = mul-le-mul_right (2 ^ bits) less in
    let all : (61 - bits) + bits ≡ 61 = omega arith in
    let power : 2 ^ 61 ≡ 2 ^ (61 - bits) * 2 ^ bits = ap (λ k. 2 ^ k) (sym all) ∙ pow-add 2 (61 - bits) bits in
    omega (arith, times, power)

width_abs : (num : ℤ) (wl : ℕ) → IsOfWidth true wl num → unsigned_abs num ≤ 2 ^ (wl - 1)
width_abs (pos n) wl range = let high = range.high in let some = pow_pos (wl - 1) in omega (arith, ints, some, high)
width_abs (negsuc n) wl range = let low = range.low in let some = pow_pos (wl - 1) in omega (arith, ints, some, low)

-- a number of a signed range moved up
pub range_raised : (num : ℤ) (wl bits : ℕ) → 1 ≤ wl → bits + wl ≤ 62 → IsOfWidth true wl num → unsigned_abs num * 2 ^ bits ≤ 2 ^ 61
range_raised num wl bits some few range =
    let half : unsigned_abs num ≤ 2 ^ (wl - 1) = width_abs num wl range in
    let times : unsigned_abs num * 2 ^ bits ≤ 2 ^ (wl - 1) * 2 ^ bits = mul-le-mul_right (2 ^ bits) half in
    let power : 2 ^ (wl - 1 + bits) ≡ 2 ^ (wl - 1) * 2 ^ bits = pow-add 2 (wl - 1) bits in
    let below_all : wl - 1 + bits ≤ 61 = omega (arith, some, few) in
    let most : 2 ^ (wl - 1 + bits) ≤ 2 ^ 61 = pow-le-pow_right (omega arith) below_all in
    omega (arith, times, power, most)

pub raised_abs : (num z : ℤ) (bits : ℕ) → z ≡ num *ℤ pos (2 ^ bits) → unsigned_abs num * 2 ^ bits ≤ 2 ^ 61 → unsigned_abs z ≤ 2 ^ 61
raised_abs num z bits is small = rw (is, unsigned_abs-mul num (pos (2 ^ bits))) small

pub seen_signed : (num : ℤ) (wl : ℕ) → IsOfWidth true wl num → (below num (2 ^ (wl - 1)) ≡ pos 0) ⊎ (below num (2 ^ (wl - 1)) ≡ negsuc 0)
seen_signed (pos n) wl range =
    let some = pow_pos (wl - 1) in
    let high = range.high in
    let less : n < 2 ^ (wl - 1) = omega (arith, ints, some, high) in inl (ap pos (none_in n (2 ^ (wl - 1)) less))
seen_signed (negsuc n) wl range =
    let some = pow_pos (wl - 1) in
    let low = range.low in
    let less : n < 2 ^ (wl - 1) = omega (arith, ints, some, low) in inr (ap negsuc (none_in n (2 ^ (wl - 1)) less))

pub seen_unsigned : (num : ℤ) (wl : ℕ) → IsOfWidth false wl num → below num (2 ^ wl) ≡ pos 0
seen_unsigned (pos n) wl range =
    let some = pow_pos wl in
    let high = range.high in
    let less : n < 2 ^ wl = omega (arith, ints, some, high) in ap pos (none_in n (2 ^ wl) less)
seen_unsigned (negsuc n) wl range = let low = range.low in absurd (omega (arith, ints, low))

-- a number of a range of few bits fits 64
pub width_fits : (signed : Bool) (wl : ℕ) (num : ℤ) → 1 ≤ wl → wl ≤ 62 → IsOfWidth signed wl num → FitsSigned w64 num
width_fits signed wl num some few range =
    let less = in_width signed wl num some range in
    let power = small_power wl few in
    go num (2 ^ wl) less power
  where
    go : (num : ℤ) (m : ℕ) → unsigned_abs num < m → m ≤ 2 ^ 62 → FitsSigned w64 num
    go (pos n) m less power = record { sfits = omega (arith, less, power) }
    go (negsuc n) m less power = record { sfits = omega (arith, less, power) }

pub ruleset range_laws = (in_low, in_high, in_unsigned, seen_signed, seen_unsigned)

-- ---- casts

trn_is : (num : ℤ) (d : ℕ) → quantised Trn num d ≡ below num d
unfolding rounded_whole
trn_is num d = elim (nat_eq (above_by num d) 0) as (λ b. (if b then below num d else below num d) ≡ below num d) [ true ↦ refl | false ↦ refl ]

pub cut_is : (f : Format) (num : ℤ) (frac : ℕ) → f.quant ≡ Trn → ((signed : Bool) (wl : ℕ) → least_kept f.over signed wl ≡ least signed wl)
    → fraction_of f ≤ frac → IsOfWidth f.signed f.wl (below num (2 ^ (frac - fraction_of f))) → cast_of f num frac ≡ below num (2 ^ (frac - fraction_of f))
unfolding cast_of
cut_is f num frac trn plain places range =
    let d = 2 ^ (frac - fraction_of f) in
    let z = below num d in
    ap (overflowed f.over f.signed f.wl) (placed_down f.quant num frac (fraction_of f) places ∙ ap (λ q. quantised q num d) trn ∙ trn_is num d)
    ∙ kept f.over f.signed f.wl z f.some_bits (subst (λ l. l ≤ℤ z) (sym (plain f.signed f.wl)) range.low) range.high

pub raised_is : (f : Format) (num : ℤ) (frac : ℕ) → ((signed : Bool) (wl : ℕ) → least_kept f.over signed wl ≡ least signed wl)
    → frac ≤ fraction_of f → IsOfWidth f.signed f.wl (num *ℤ pos (2 ^ (fraction_of f - frac))) → cast_of f num frac ≡ num *ℤ pos (2 ^ (fraction_of f - frac))
unfolding cast_of
raised_is f num frac plain places range =
    let z = num *ℤ pos (2 ^ (fraction_of f - frac)) in
    ap (overflowed f.over f.signed f.wl) (placed_up f.quant num frac (fraction_of f) places)
    ∙ kept f.over f.signed f.wl z f.some_bits (subst (λ l. l ≤ℤ z) (sym (plain f.signed f.wl)) range.low) range.high

below_one : (num : ℤ) → below num 1 ≡ num
below_one (pos n) = let one : n / 1 ≡ n = omega arith in ap pos one
below_one (negsuc n) = let one : n / 1 ≡ n = omega arith in ap negsuc one

same_is : (f : Format) (num : ℤ) (frac : ℕ) → ((signed : Bool) (wl : ℕ) → least_kept f.over signed wl ≡ least signed wl)
    → fraction_of f ≡ frac → IsOfWidth f.signed f.wl (below num (2 ^ (frac - fraction_of f))) → cast_of f num frac ≡ below num (2 ^ (frac - fraction_of f))
same_is f num frac plain same range =
    let none : frac - fraction_of f ≡ 0 = omega (arith, same) in
    let whole : below num (2 ^ (frac - fraction_of f)) ≡ num = ap (λ k. below num (2 ^ k)) none ∙ below_one num in
    let inside : IsOfWidth f.signed f.wl num = subst (λ z. IsOfWidth f.signed f.wl z) whole range in
    subst (λ k. cast_of f num k ≡ num) same (cast_keeps f num (subst (λ l. l ≤ℤ num) (sym (plain f.signed f.wl)) inside.low) inside.high) ∙ sym whole

pub kept_is : (f : Format) (num : ℤ) (frac : ℕ) → ((signed : Bool) (wl : ℕ) → least_kept f.over signed wl ≡ least signed wl)
    → frac ≡ fraction_of f → f.signed ≡ true → IsOfWidth true f.wl num → cast_of f num frac ≡ num
kept_is f num frac plain same signed range =
    let inside : IsOfWidth f.signed f.wl num = subst (λ b. IsOfWidth b f.wl num) (sym signed) range in
    subst (λ k. cast_of f num k ≡ num) (sym same) (cast_keeps f num (subst (λ l. l ≤ℤ num) (sym (plain f.signed f.wl)) inside.low) inside.high)

-- the range of fewer bits lies in that of more
pub wider_in : (num : ℤ) (bits wl : ℕ) → bits < wl → IsOfWidth true (bits + 1) num → IsOfWidth true wl num
wider_in num bits wl less range =
    let power : 2 ^ bits ≤ 2 ^ (wl - 1) = pow-le-pow_right (omega arith) (omega (arith, less)) in
    let one : bits + 1 - 1 ≡ bits = omega arith in
    let low : neg_ℤ (pos (2 ^ bits)) ≤ℤ num = subst (λ k. neg_ℤ (pos (2 ^ k)) ≤ℤ num) one range.low in
    let high : num ≤ℤ pos (2 ^ bits - 1) = subst (λ k. num ≤ℤ pos (2 ^ k - 1)) one range.high in
    let both = go num (2 ^ bits) (2 ^ (wl - 1)) power low high in
    record { low = both.0; high = both.1 }
  where
    go : (z : ℤ) (m k : ℕ) → m ≤ k → neg_ℤ (pos m) ≤ℤ z → z ≤ℤ pos (m - 1) → (neg_ℤ (pos k) ≤ℤ z) × (z ≤ℤ pos (k - 1))
    go z m k more low high = (omega (arith, ints, more, low), omega (arith, ints, more, high))

pub keeps_is : (f : Format) (num : ℤ) (bits frac : ℕ) → ((signed : Bool) (wl : ℕ) → least_kept f.over signed wl ≡ least signed wl)
    → f.signed ≡ true → frac ≡ fraction_of f → bits < f.wl → IsOfWidth true (bits + 1) num → cast_of f num frac ≡ num
keeps_is f num bits frac plain signed same few range = kept_is f num frac plain same signed (wider_in num bits f.wl few range)

pub ruleset keeps_laws = (keeps_is)

pub cut_same : (f : Format) (frac : ℕ) → f.wl ≤ 62 → ((signed : Bool) (wl : ℕ) → least_kept f.over signed wl ≡ least signed wl) → fraction_of f ≡ frac
    → IsCutOf (record { shift = frac - fraction_of f; signed = f.signed; wl = f.wl }) f frac
cut_same f frac small plain same = record { few = omega (arith, same); some = f.some_bits; small = small; casts = λ num range. same_is f num frac plain same range }

pub cut_trn : (f : Format) (frac : ℕ) → f.wl ≤ 62 → ((signed : Bool) (wl : ℕ) → least_kept f.over signed wl ≡ least signed wl) → fraction_of f ≤ frac
    → frac - fraction_of f ≤ 62 → f.quant ≡ Trn → IsCutOf (record { shift = frac - fraction_of f; signed = f.signed; wl = f.wl }) f frac
cut_trn f frac small plain places few trn = record { few = few; some = f.some_bits; small = small; casts = λ num range. cut_is f num frac trn plain places range }

pub ruleset cut_laws = (cut_same, cut_trn)
