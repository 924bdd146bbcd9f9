-- Rests by multiplication, as the casts of 64-bit values take them.
use Rattle.std.proofs.Common.{◌≡◌, ℕ, zero, suc, ◌+◌, ◌-◌, ◌*◌, ◌/◌, ◌%◌, ◌^◌, ◌<◌, ◌≤◌, ℤ, pos, negsuc, neg_ℤ, ◌-ℤ◌, ◌*ℤ◌, refl, sym, ap, ◌∙◌, arith, rules, ⊎_elim, Bool, true, false, nat_eq, if◌then◌else◌}
use Rattle.std.proofs.Math.Nat.{pow-le-pow_right, div-mul-le_self, mul-le-mul_right, pow-succ'}
use Rattle.std.proofs.lemmas.Bool.{cases_lt, lt-ltb, le-ltb}
use Rattle.std.proofs.lemmas.Int.{ints}
use Rattle.std.proofs.lemmas.Nat.{pow_pos, pow-add, div-add-mod', mod_below, div_below}
use Rattle.std.specs.Int.{w64}
use Rattle.std.specs.Prelude.{unsigned_abs, FitsSigned}
use Rattle.tdf_fixed.specs.Quantise.{below, above_by, rounded_whole, quantised}
use Rattle.tdf_fixed.specs.Overflow.{half_of, wrapped, overflowed}
use Rattle.tdf_fixed.specs.declared.over.Over.TheVariants.{Wrap}
use Rattle.tdf_fixed.specs.declared.quant.Quant.TheVariants.{Trn}
use Rattle.tdf_fixed.proofs.Ranges.{above_below, half}
use Rattle.tdf_base.proofs.Api.{of_parts}
use Rattle.tdf_fixed.proofs.Wraps.{neighbours}

pub small_power : (s : ℕ) → s ≤ 62 → 2 ^ s ≤ 2 ^ 62
small_power s few = pow-le-pow_right (omega arith) few

-- the rest is what the neighbour below leaves
pub rest_is : (num : ℤ) (s : ℕ) → num -ℤ below num (2 ^ s) *ℤ pos (2 ^ s) ≡ pos (above_by num (2 ^ s))
rest_is num s =
    let both = neighbours num (2 ^ s) (pow_pos s) in
    let parts = both.0 in omega (arith, ints, parts)

pub rest_below : (num : ℤ) (s : ℕ) → above_by num (2 ^ s) < 2 ^ s
rest_below num s = above_below num (2 ^ s) (pow_pos s)

pub ruleset rest_lemmas = (rest_is, rest_below, small_power)

-- the multiple below fits where the number does
negative_fits : (m : ℕ) → m ≤ 2 ^ 63 → FitsSigned w64 (neg_ℤ (pos m))
negative_fits zero small = search rules
negative_fits (suc m) small = let less : m < 2 ^ 63 = omega arith in record { sfits = less }

quotient_below : (n d k : ℕ) → 0 < d → n < k * d → n / d < k
quotient_below n d k some less = div_below n d k some (omega (arith, less))

places : (s : ℕ) → s ≤ 62 → 2 ^ 63 ≡ 2 ^ (63 - s) * 2 ^ s
places s few = let all : (63 - s) + s ≡ 63 = omega arith in ap (λ k. 2 ^ k) (sym all) ∙ pow-add 2 (63 - s) s

pub back_fits : (num : ℤ) (s : ℕ) → s ≤ 62 → FitsSigned w64 num → FitsSigned w64 (below num (2 ^ s) *ℤ pos (2 ^ s))
back_fits (pos n) s few fits =
    let small : n < 2 ^ 63 = fits.sfits in
    let less : n / 2 ^ s * 2 ^ s < 2 ^ 63 = omega (arith, small, div-mul-le_self n (2 ^ s)) in
    record { sfits = less }
back_fits (negsuc n) s few fits =
    let small : n < 2 ^ 63 = fits.sfits in
    let wide : n < 2 ^ (63 - s) * 2 ^ s = omega (arith, small, places s few) in
    let quotient : n / 2 ^ s < 2 ^ (63 - s) = quotient_below n (2 ^ s) (2 ^ (63 - s)) (pow_pos s) wide in
    let times : suc (n / 2 ^ s) * 2 ^ s ≤ 2 ^ (63 - s) * 2 ^ s = mul-le-mul_right (2 ^ s) quotient in
    negative_fits (suc (n / 2 ^ s) * 2 ^ s) (omega (arith, times, places s few))

-- a number between two neighbours has places after its point, so its neighbours are half as far
half_quotient : (n s : ℕ) → n < 2 ^ 63 → n / 2 ^ suc s < 2 ^ 62
half_quotient n s small =
    let two : 2 ^ suc s ≡ 2 * 2 ^ s = pow-succ' 2 s in
    let some : 0 < 2 ^ s = pow_pos s in
    quotient_below n (2 ^ suc s) (2 ^ 62) (pow_pos (suc s)) (omega (arith, small, two, some))

pub below_half : (num : ℤ) (s : ℕ) → FitsSigned w64 num → 0 < above_by num (2 ^ s) → unsigned_abs (below num (2 ^ s)) ≤ 2 ^ 62
below_half num zero fits some = absurd (let none = above_below num 1 (omega arith) in omega (arith, none, some))
below_half (pos n) (suc s) fits some = let small : n < 2 ^ 63 = fits.sfits in omega (arith, half_quotient n s small)
below_half (negsuc n) (suc s) fits some = let small : n < 2 ^ 63 = fits.sfits in omega (arith, half_quotient n s small)

pub trn_is : (num : ℤ) (d : ℕ) → quantised Trn num d ≡ below num d
unfolding rounded_whole
trn_is num d = elim (nat_eq (above_by num d) 0) as (λ b. (if b then below num d else below num d) ≡ below num d) [ true ↦ refl | false ↦ refl ]

pub ruleset quantise_lemmas = (small_power, rest_below, below_half, trn_is)

-- ---- wrap

none_over : (rest h d : ℕ) → rest + h < d → (rest + h) / d * d ≡ 0
none_over rest h d less = let none = (of_parts (rest + h) d 0 (rest + h) (omega arith) less).0 in ap (λ q. q * d) none ∙ omega arith

one_over : (rest h d : ℕ) → d ≤ rest + h → rest + h < 2 * d → (rest + h) / d * d ≡ d
one_over rest h d more less =
    let one = (of_parts (rest + h) d 1 (rest + h - d) (omega arith) (omega arith)).0 in ap (λ q. q * d) one ∙ omega arith

pub excess_small : (signed : Bool) (wl rest : ℕ) → 1 ≤ wl → rest < 2 ^ wl → (rest + half_of signed wl) / 2 ^ wl * 2 ^ wl ≤ 2 ^ wl
excess_small true wl rest some less =
    let h = 2 ^ (wl - 1) in let twice = half wl some in
    ⊎_elim
    (λ (low : rest < h). omega (arith, none_over rest h (2 ^ wl) (omega (arith, low, twice))))
    (λ (high : h ≤ rest). omega (arith, one_over rest h (2 ^ wl) (omega (arith, high, twice)) (omega (arith, less, twice))))
    (cases_lt rest h)
excess_small false wl rest some less = omega (arith, none_over rest 0 (2 ^ wl) (omega (arith, less)))

pub wrapped_rest : (signed : Bool) (wl : ℕ) (z : ℤ) → 1 ≤ wl
    → pos (above_by z (2 ^ wl)) -ℤ pos ((above_by z (2 ^ wl) + half_of signed wl) / 2 ^ wl * 2 ^ wl) ≡ wrapped signed wl z
unfolding wrapped
wrapped_rest true wl z some =
    let d = 2 ^ wl in let h = 2 ^ (wl - 1) in let rest = above_by z d in
    let less = above_below z d (pow_pos wl) in let twice = half wl some in
    ⊎_elim
    (λ (low : rest < h). rw (lt-ltb rest h low, none_over rest h d (omega (arith, low, twice))) (omega (arith, ints)))
    (λ (high : h ≤ rest). rw (le-ltb rest h high, one_over rest h d (omega (arith, high, twice)) (omega (arith, less, twice))) refl)
    (cases_lt rest h)
wrapped_rest false wl z some =
    let rest = above_by z (2 ^ wl) in let less = above_below z (2 ^ wl) (pow_pos wl) in
    rw (none_over rest 0 (2 ^ wl) (omega (arith, less))) (omega (arith, ints))

pub ruleset wrap_lemmas = (small_power, excess_small, wrapped_rest)

-- ---- larger places

pub raised_within : (m s : ℕ) → s ≤ 61 → m / 2 ^ (61 - s) ≡ 0 → m * 2 ^ s ≤ 2 ^ 61
raised_within m s few none =
    let d = 2 ^ (61 - s) in
    let sum : m / d * d + m % d ≡ m = div-add-mod' m d in
    let gone : m / d * d ≡ 0 * d = ap (λ q. q * d) none in
    let rest : m % d < d = mod_below m d (pow_pos (61 - s)) in
    let less : m ≤ d = omega (arith, sum, gone, rest) in
    let times : m * 2 ^ s ≤ d * 2 ^ s = mul-le-mul_right (2 ^ s) less in
    let all : (61 - s) + s ≡ 61 = omega arith in
    let power : 2 ^ 61 ≡ d * 2 ^ s = ap (λ k. 2 ^ k) (sym all) ∙ pow-add 2 (61 - s) s in
    omega (arith, times, power)

-- ---- words for the tactics

pub overflowed_wrap : (signed : Bool) (wl : ℕ) (z : ℤ) → overflowed Wrap signed wl z ≡ wrapped signed wl z
unfolding overflowed
overflowed_wrap signed wl z = refl
