-- `wrap` gives the one number of the range that differs by a multiple of 2 ^ wl; a number of the range is left alone.
use Rattle.std.proofs.Common.{◌≡◌, ℕ, zero, suc, ◌+◌, ◌-◌, ◌*◌, ◌/◌, ◌^◌, ◌<◌, ◌≤◌, Bool, true, false, ℤ, pos, negsuc, ◌+ℤ◌, ◌-ℤ◌, ◌*ℤ◌, ◌≤ℤ◌, ◌<ℤ◌, ⊎_elim, refl, sym, ap, ◌∙◌, arith}
use Rattle.std.proofs.Math.Nat.{suc-mul, zero-mul}
use Rattle.std.proofs.lemmas.Bool.{cases_lt, lt-ltb, le-ltb}
use Rattle.std.proofs.lemmas.Int.{ints, clamps, by_lt_z}
use Rattle.std.specs.Int.{int_max, int_min}
use Rattle.std.proofs.lemmas.Nat.{div-add-mod', mod_below, pow_pos}
use Rattle.std.specs.Prelude.{unsigned_abs}
use Rattle.tdf_fixed.specs.Cast.{cast_of, fraction_of}
use Rattle.tdf_fixed.specs.CastLaws.{AreNeighbours, CastKeepsValue, IsIdempotent, IsNearest, DifferBy, IsWrap, IsOnlyWrap, least_kept}
use Rattle.tdf_fixed.specs.Overflow.{least, most, least_symmetric, wrapped, wrapped_signed, overflowed, IsOfWidth}
use Rattle.tdf_fixed.specs.Quantise.{below, above_by, requantised}
use Rattle.tdf_fixed.specs.declared.over.Over.{Over}
use Rattle.tdf_fixed.specs.declared.over.Over.TheVariants.{Wrap, Sat, SatZero, SatSym}
use Rattle.tdf_fixed.specs.declared.quant.Quant.{Quant}
use Rattle.tdf_fixed.proofs.Ranges.{half, above_below, in_range}
use Rattle.tdf_fixed.proofs.Scaling.{placed_up}

-- ---- neighbours

parts_again : (n : ℤ) (d : ℕ) → 0 < d → below n d *ℤ pos d +ℤ pos (above_by n d) ≡ n
parts_again (pos n) d some = ap pos (div-add-mod' n d)
parts_again (negsuc n) d some = omega (arith, ints, suc-mul (n / d) d, div-add-mod' n d, mod_below n d some)

pub neighbours : AreNeighbours
neighbours n d some = (parts_again n d some, above_below n d some)

-- ---- wrap

one_less : (b d : ℕ) → negsuc b *ℤ pos d ≡ negsuc (suc b) *ℤ pos d +ℤ pos d
one_less b d = omega (arith, ints, suc-mul b d, suc-mul (suc b) d)

pub one_more : (b : ℤ) (d : ℕ) → (b +ℤ pos 1) *ℤ pos d ≡ b *ℤ pos d +ℤ pos d
one_more (pos b) d = let wide : (b + 1) * d ≡ b * d + d = grind arith in ap pos wide
one_more (negsuc zero) d = omega (arith, ints, zero-mul d, suc-mul zero d)
one_more (negsuc (suc b)) d =
    let up : negsuc (suc b) +ℤ pos 1 ≡ negsuc b = omega (arith, ints) in
    ap (λ z. z *ℤ pos d) up ∙ one_less b d

differ_low : (z b p : ℤ) (rest : ℕ) → p +ℤ pos rest ≡ z → z ≡ pos rest +ℤ p
differ_low z b p rest e = omega (arith, ints)

differ_high : (z p q : ℤ) (rest d : ℕ) → p +ℤ pos rest ≡ z → q ≡ p +ℤ pos d → z ≡ (pos rest -ℤ pos d) +ℤ q
differ_high z p q rest d e f = omega (arith, ints)

wrap_signed : (z : ℤ) (wl : ℕ) → DifferBy (2 ^ wl) z (wrapped_signed (above_by z (2 ^ wl)) wl)
wrap_signed z wl =
    let d = 2 ^ wl in let rest = above_by z d in let b = below z d in
    ⊎_elim
    (λ (less : rest < 2 ^ (wl - 1)). rw (lt-ltb rest (2 ^ (wl - 1)) less)
    (b, differ_low z b (b *ℤ pos d) rest (parts_again z d (pow_pos wl))))
    (λ (more : 2 ^ (wl - 1) ≤ rest). rw (le-ltb rest (2 ^ (wl - 1)) more)
    (b +ℤ pos 1, differ_high z (b *ℤ pos d) ((b +ℤ pos 1) *ℤ pos d) rest d (parts_again z d (pow_pos wl)) (one_more b d)))
    (cases_lt rest (2 ^ (wl - 1)))

wrap_differs : (signed : Bool) (wl : ℕ) (z : ℤ) → DifferBy (2 ^ wl) z (wrapped signed wl z)
unfolding wrapped
wrap_differs true wl z = wrap_signed z wl
wrap_differs false wl z =
    let d = 2 ^ wl in
    (below z d, differ_low z (below z d) (below z d *ℤ pos d) (above_by z d) (parts_again z d (pow_pos wl)))

wrap_in : (signed : Bool) (wl : ℕ) (z : ℤ) → 1 ≤ wl → IsOfWidth signed wl (wrapped signed wl z)
unfolding overflowed
wrap_in signed wl z some = in_range Wrap signed wl z some

pub wrap_is : IsWrap
wrap_is signed wl z some = (wrap_in signed wl z some, wrap_differs signed wl z)

near : (x y k : ℤ) (m : ℕ) → x ≡ y +ℤ k *ℤ pos m → x <ℤ (y +ℤ pos m) → y <ℤ (x +ℤ pos m) → x ≡ y
near x y (pos zero) m e low high = omega (arith, ints, zero-mul m)
near x y (pos (suc k)) m e low high = absurd (omega (arith, ints, suc-mul k m))
near x y (negsuc k) m e low high = absurd (omega (arith, ints, suc-mul k m))

apart : (signed : Bool) (wl : ℕ) (x y : ℤ) → 1 ≤ wl → IsOfWidth signed wl x → IsOfWidth signed wl y → x <ℤ (y +ℤ pos (2 ^ wl))
apart true wl x y some in_x in_y = let h = half wl some in let p = pow_pos (wl - 1) in omega (arith, ints)
apart false wl x y some in_x in_y = let p = pow_pos wl in omega (arith, ints)

pub only_wrap : IsOnlyWrap
only_wrap signed wl x y some in_x in_y differ =
    near x y differ.0 (2 ^ wl) differ.1 (apart signed wl x y some in_x in_y) (apart signed wl y x some in_y in_x)

-- ---- numbers of the range

wrap_keeps : (signed : Bool) (wl : ℕ) (z : ℤ) → 1 ≤ wl → IsOfWidth signed wl z → wrapped signed wl z ≡ z
wrap_keeps signed wl z some in_z = sym (only_wrap signed wl z (wrapped signed wl z) some in_z (wrap_in signed wl z some) (wrap_differs signed wl z))

pub kept : (over : Over) (signed : Bool) (wl : ℕ) (z : ℤ) → 1 ≤ wl → least_kept over signed wl ≤ℤ z → z ≤ℤ most signed wl → overflowed over signed wl z ≡ z
unfolding overflowed
kept Wrap signed wl z some low high = wrap_keeps signed wl z some (record { low = low; high = high })
kept Sat signed wl z some low high = omega (arith, ints, clamps)
kept SatZero signed wl z some low high = grind (arith, ints)
kept SatSym signed wl z some low high = omega (arith, ints, clamps)

one_power : (k : ℕ) → k ≡ 0 → 2 ^ k ≡ 1
one_power k none = rw none refl

times_one : (n : ℤ) → n *ℤ pos 1 ≡ n
times_one (pos n) = omega (arith, ints)
times_one (negsuc n) = omega (arith, ints)

placed_same : (quant : Quant) (num : ℤ) (frac : ℕ) → requantised quant num frac frac ≡ num
placed_same quant num frac =
    let none : 2 ^ (frac - frac) ≡ 1 = one_power (frac - frac) (omega arith) in
    placed_up quant num frac frac (omega arith) ∙ ap (λ e. num *ℤ pos e) none ∙ times_one num

pub cast_keeps : CastKeepsValue
unfolding cast_of
cast_keeps f num low high =
    ap (overflowed f.over f.signed f.wl) (placed_same f.quant num (fraction_of f)) ∙ kept f.over f.signed f.wl num f.some_bits low high

symmetric_in : (signed : Bool) (wl : ℕ) (z : ℤ) → 1 ≤ wl → least_symmetric signed wl ≤ℤ overflowed SatSym signed wl z
unfolding overflowed
symmetric_in true wl z some = let h = pow_pos (wl - 1) in omega (arith, ints, clamps)
symmetric_in false wl z some = omega (arith, ints, clamps)

low_kept : (over : Over) (signed : Bool) (wl : ℕ) (z : ℤ) → 1 ≤ wl → least_kept over signed wl ≤ℤ overflowed over signed wl z
low_kept Wrap signed wl z some = (in_range Wrap signed wl z some).low
low_kept Sat signed wl z some = (in_range Sat signed wl z some).low
low_kept SatZero signed wl z some = (in_range SatZero signed wl z some).low
low_kept SatSym signed wl z some = symmetric_in signed wl z some

pub cast_again : IsIdempotent
unfolding cast_of
cast_again f num frac =
    let first = requantised f.quant num frac (fraction_of f) in
    ap (overflowed f.over f.signed f.wl) (placed_same f.quant (overflowed f.over f.signed f.wl first) (fraction_of f))
    ∙ kept f.over f.signed f.wl (overflowed f.over f.signed f.wl first) f.some_bits (low_kept f.over f.signed f.wl first f.some_bits)
    (in_range f.over f.signed f.wl first f.some_bits).high

-- ---- the nearest

abs_up : (a b : ℤ) → pos 0 ≤ℤ a → a ≤ℤ b → unsigned_abs a ≤ unsigned_abs b
abs_up (pos a) (pos b) h k = omega (arith, ints)
abs_up (pos a) (negsuc b) h k = absurd (omega (arith, ints))
abs_up (negsuc a) b h k = absurd (omega (arith, ints))

abs_down : (a b : ℤ) → a ≤ℤ pos 0 → b ≤ℤ a → unsigned_abs a ≤ unsigned_abs b
abs_down (pos a) b h k = let none : a ≡ 0 = omega (arith, ints) in rw none (omega arith)
abs_down (negsuc a) (pos b) h k = absurd (omega (arith, ints))
abs_down (negsuc a) (negsuc b) h k = omega (arith, ints)

clamp_nearest : (low high z y : ℤ) → low ≤ℤ y → y ≤ℤ high → unsigned_abs (z -ℤ int_max low (int_min z high)) ≤ unsigned_abs (z -ℤ y)
clamp_nearest low high z y above below_it =
    by_lt_z z low
    (λ less. abs_down (z -ℤ int_max low (int_min z high)) (z -ℤ y) (omega (arith, ints, clamps)) (omega (arith, ints, clamps)))
    (λ more. by_lt_z high z
    (λ greater. abs_up (z -ℤ int_max low (int_min z high)) (z -ℤ y) (omega (arith, ints, clamps)) (omega (arith, ints, clamps)))
    (λ within. let same : z -ℤ int_max low (int_min z high) ≡ pos 0 = omega (arith, ints, clamps) in rw same (omega arith)))

pub nearest : IsNearest
unfolding overflowed
nearest signed wl z y some in_y = clamp_nearest (least signed wl) (most signed wl) z y in_y.low in_y.high
