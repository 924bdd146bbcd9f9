-- What every overflow mode gives lies in the range, and a number of the range is left alone.
use Rattle.std.proofs.Common.{◌≡◌, ℕ, suc, ◌-◌, ◌*◌, ◌^◌, ◌<◌, ◌≤◌, Bool, true, false, ℤ, pos, negsuc, ⊎_elim, refl, ap, ◌∙◌, arith}
use Rattle.std.proofs.Math.Nat.{pow-succ', pow-le-pow_right}
use Rattle.std.proofs.lemmas.Bool.{cases_lt, lt-ltb, le-ltb}
use Rattle.std.proofs.lemmas.Int.{ints, clamps}
use Rattle.std.proofs.lemmas.Nat.{mod_below, pow_pos}
use Rattle.std.specs.Prelude.{unsigned_abs}
use Rattle.tdf_fixed.specs.Cast.{cast_of, fraction_of}
use Rattle.tdf_fixed.specs.declared.format.Format.{Format}
use Rattle.tdf_fixed.specs.Overflow.{wrapped, wrapped_signed, overflowed, IsOfWidth}
use Rattle.tdf_fixed.specs.Quantise.{above_by, requantised}
use Rattle.tdf_fixed.specs.declared.over.Over.{Over}
use Rattle.tdf_fixed.specs.declared.over.Over.TheVariants.{Wrap, Sat, SatZero, SatSym}

pub half : (wl : ℕ) → 1 ≤ wl → 2 ^ wl ≡ 2 * 2 ^ (wl - 1)
half wl some = let last : wl ≡ suc (wl - 1) = omega arith in ap (λ k. 2 ^ k) last ∙ pow-succ' 2 (wl - 1)

pub above_below : (n : ℤ) (d : ℕ) → 0 < d → above_by n d < d
above_below (pos n) d some = mod_below n d some
above_below (negsuc n) d some = omega arith

wrapped_in : (h rest wl : ℕ) → h ≡ 2 ^ (wl - 1) → 0 < h → 2 ^ wl ≡ 2 * h → rest < 2 ^ wl → IsOfWidth true wl (wrapped_signed rest wl)
wrapped_in h rest wl is some whole small = ⊎_elim
    (λ (less : rest < 2 ^ (wl - 1)). rw (lt-ltb rest (2 ^ (wl - 1)) less) (record { low = omega (arith, ints); high = omega (arith, ints) }))
    (λ (more : 2 ^ (wl - 1) ≤ rest). rw (le-ltb rest (2 ^ (wl - 1)) more) (record { low = omega (arith, ints); high = omega (arith, ints) }))
    (cases_lt rest (2 ^ (wl - 1)))

pub in_range : (over : Over) (signed : Bool) (wl : ℕ) (z : ℤ) → 1 ≤ wl → IsOfWidth signed wl (overflowed over signed wl z)
unfolding overflowed wrapped
in_range Wrap true wl z some = wrapped_in (2 ^ (wl - 1)) (above_by z (2 ^ wl)) wl refl (pow_pos (wl - 1)) (half wl some) (above_below z (2 ^ wl) (pow_pos wl))
in_range Wrap false wl z some =
    let small : above_by z (2 ^ wl) < 2 ^ wl = above_below z (2 ^ wl) (pow_pos wl) in
    record { low = omega (arith, ints); high = omega (arith, ints) }
in_range Sat true wl z some = let h = pow_pos (wl - 1) in record { low = omega (arith, ints, clamps); high = omega (arith, ints, clamps) }
in_range Sat false wl z some = let h = pow_pos wl in record { low = omega (arith, ints, clamps); high = omega (arith, ints, clamps) }
in_range SatZero true wl z some = let h = pow_pos (wl - 1) in record { low = grind (arith, ints); high = grind (arith, ints) }
in_range SatZero false wl z some = let h = pow_pos wl in record { low = grind (arith, ints); high = grind (arith, ints) }
in_range SatSym true wl z some = let h = pow_pos (wl - 1) in record { low = omega (arith, ints, clamps); high = omega (arith, ints, clamps) }
in_range SatSym false wl z some = let h = pow_pos wl in record { low = omega (arith, ints, clamps); high = omega (arith, ints, clamps) }

pub cast_in : (f : Format) (num : ℤ) (frac : ℕ) → IsOfWidth f.signed f.wl (cast_of f num frac)
unfolding cast_of
cast_in f num frac = in_range f.over f.signed f.wl (requantised f.quant num frac (fraction_of f)) f.some_bits

-- a number of the range by its bits: below 2 ^ wl, and at most 2 ^ (wl - 1) where it has a sign
pub in_width : (signed : Bool) (wl : ℕ) (z : ℤ) → 1 ≤ wl → IsOfWidth signed wl z → unsigned_abs z < 2 ^ wl
in_width true wl (pos n) some h = let p = pow_pos (wl - 1) in omega (arith, ints, half wl some)
in_width true wl (negsuc n) some h = let p = pow_pos (wl - 1) in omega (arith, ints, half wl some)
in_width false wl (pos n) some h = let p = pow_pos wl in omega (arith, ints)
in_width false wl (negsuc n) some h = absurd (omega (arith, ints))

pub in_small : (signed : Bool) (wl : ℕ) (z : ℤ) → 1 ≤ wl → wl ≤ 64 → IsOfWidth signed wl z → unsigned_abs z < 2 ^ 64
in_small signed wl z some few h =
    let width : 2 ^ wl ≤ 2 ^ 64 = pow-le-pow_right (omega arith) few in
    omega (arith, in_width signed wl z some h)
