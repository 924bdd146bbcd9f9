-- A decimal fraction whole + part/d is rounded by the quotient and rest of part alone.
use Rattle.std.proofs.Common.{◌≡◌, ℕ, zero, suc, ◌+◌, ◌-◌, ◌*◌, ◌/◌, ◌%◌, ◌^◌, ◌<◌, true, false, ℤ, pos, negsuc, neg_ℤ, refl, sym, ap, ◌∙◌, arith}
use Rattle.std.proofs.Math.Nat.{zero-div, zero-mod, zero-mul, suc-mul}
use Rattle.std.proofs.lemmas.Nat.{div-add-mod', mod_below}
use Rattle.tdf_fixed.specs.Literal.{placed_fraction}
use Rattle.tdf_fixed.specs.Quantise.{rounded_whole, quantised}
use Rattle.tdf_fixed.specs.declared.quant.Quant.{Quant}
use Rattle.tdf_base.proofs.Api.{of_parts, times_div, times_mod}
use Rattle.tdf_fixed.proofs.Scaling.{negative_times}

-- below 0, between two neighbours
quantised_between : (quant : Quant) (x m r d : ℕ) → x ≡ m * d + r → 0 < r → r < d → quantised quant (neg_ℤ (pos x)) d ≡ rounded_whole quant true (negsuc m) (d - r) d
quantised_between quant zero m r d is some small = absurd (omega arith)
quantised_between quant (suc j) m r d is some small =
    let parts = of_parts j d m (r - 1) (omega arith) (omega arith) in
    let rest : d - 1 - (r - 1) ≡ d - r = omega arith in
    rw (parts.0, parts.1) (ap (λ s. rounded_whole quant true (negsuc m) s d) rest)

-- below 0, and whole
quantised_exactly : (quant : Quant) (x m d : ℕ) → 0 < d → x ≡ m * d → quantised quant (neg_ℤ (pos x)) d ≡ neg_ℤ (pos m)
unfolding rounded_whole
quantised_exactly quant zero zero d some is = rw (zero-div d, zero-mod d) refl
quantised_exactly quant zero (suc m) d some is = absurd (omega (arith, suc-mul m d))
quantised_exactly quant (suc j) zero d some is = absurd (omega (arith, zero-mul d))
quantised_exactly quant (suc j) (suc m) d some is =
    let parts = of_parts j d m (d - 1) (omega (arith, suc-mul m d)) (omega arith) in
    let rest : d - 1 - (d - 1) ≡ 0 = omega arith in
    rw (parts.0, parts.1, rest) refl

pub all_parts : (w p d e : ℕ) → 0 < d → (w * d + p) * e ≡ (w * e + p * e / d) * d + p * e % d
all_parts w p d e some =
    sym (div-add-mod' ((w * d + p) * e) d) ∙ rw (times_div w p d e some, times_mod w p d e some) refl

pub placed_positive : (quant : Quant) (w p d to up wh : ℕ) (z s : ℤ) → 0 < d → up ≡ p * 2 ^ to → wh ≡ w * 2 ^ to
    → z ≡ pos (wh + up / d) → s ≡ rounded_whole quant false z (up % d) d → s ≡ placed_fraction quant false (w * d + p) d to
unfolding placed_fraction
placed_positive quant w p d to up wh z s some is_up is_whole is_z is_s =
    is_s ∙ rw (is_z, is_up, is_whole, times_div w p d (2 ^ to) some, times_mod w p d (2 ^ to) some) refl

pub placed_exactly : (quant : Quant) (w p d to up wh : ℕ) (s : ℤ) → 0 < d → up ≡ p * 2 ^ to → wh ≡ w * 2 ^ to
    → up % d ≡ 0 → s ≡ neg_ℤ (pos (wh + up / d)) → s ≡ placed_fraction quant true (w * d + p) d to
unfolding placed_fraction
placed_exactly quant w p d to up wh s some is_up is_whole none is_s =
    let e = 2 ^ to in
    let rest : p * e % d ≡ 0 = ap (λ u. u % d) (sym is_up) ∙ none in
    let all : (w * d + p) * e ≡ (w * e + p * e / d) * d = all_parts w p d e some ∙ (let m = (w * e + p * e / d) * d in omega (arith, rest)) in
    is_s ∙ ap (λ u. neg_ℤ (pos (wh + u / d))) is_up ∙ ap (λ u. neg_ℤ (pos (u + p * e / d))) is_whole
    ∙ sym (quantised_exactly quant ((w * d + p) * e) (w * e + p * e / d) d some all)
    ∙ ap (λ n. quantised quant n d) (sym (negative_times (w * d + p) e))

pub placed_between : (quant : Quant) (w p d to up wh : ℕ) (z s : ℤ) → 0 < d → up ≡ p * 2 ^ to → wh ≡ w * 2 ^ to
    → 0 < up % d → z ≡ negsuc (wh + up / d) → s ≡ rounded_whole quant true z (d - up % d) d → s ≡ placed_fraction quant true (w * d + p) d to
unfolding placed_fraction
placed_between quant w p d to up wh z s some is_up is_whole rest is_z is_s =
    let e = 2 ^ to in
    let left : 0 < p * e % d = rw (← is_up) rest in
    is_s ∙ ap (λ y. rounded_whole quant true y (d - up % d) d) is_z
    ∙ ap (λ u. rounded_whole quant true (negsuc (wh + u / d)) (d - u % d) d) is_up
    ∙ ap (λ u. rounded_whole quant true (negsuc (u + p * e / d)) (d - p * e % d) d) is_whole
    ∙ sym (quantised_between quant ((w * d + p) * e) (w * e + p * e / d) (p * e % d) d (all_parts w p d e some) left (mod_below (p * e) d some))
    ∙ ap (λ n. quantised quant n d) (sym (negative_times (w * d + p) e))
