-- A literal in a format is of that format, so a second cast leaves it.
use Rattle.std.proofs.Common.{◌≡◌, ◌∙◌, ℕ, ◌-◌, ◌^◌, Bool, true, false, length, Option, Some, None, refl, sym, ap, arith, ℤ, pos, negsuc, ◌≤ℤ◌, ◌*ℤ◌}
use Rattle.std.proofs.lemmas.Int.{ints}
use Rattle.tdf_base.specs.Number.{Numeral, numeral_of, scaled_count}
use Rattle.tdf_expr.specs.Plans.{shape_of_format}
use Rattle.tdf_expr_semantics.specs.Value.{cast_number, literal_in, literal_number, of_shape}
use Rattle.tdf_fixed.proofs.Api.{cast_again, kept, placed_up}
use Rattle.tdf_fixed.specs.Cast.{cast_of, fraction_of}
use Rattle.tdf_fixed.specs.CastLaws.{least_kept}
use Rattle.tdf_fixed.specs.Literal.{placed_fraction}
use Rattle.tdf_fixed.specs.Overflow.{most, overflowed}
use Rattle.tdf_fixed.specs.Quantise.{requantised}
use Rattle.tdf_fixed.specs.declared.format.Format.{Format}
use Rattle.tdf_fixed.specs.declared.over.Over.{Over}
use Rattle.tdf_fixed.specs.declared.over.Over.TheVariants.{Wrap, Sat, SatZero, SatSym}
use Rattle.tdf_fixed.specs.declared.quant.Quant.{Quant}
use Rattle.tdf_lang_tree.specs.declared.names.Lit.{Lit}

times_one : (n : ℤ) → n *ℤ pos 1 ≡ n
times_one (pos n) = omega (arith, ints)
times_one (negsuc n) = omega (arith, ints)

one_power : (k : ℕ) → k ≡ 0 → 2 ^ k ≡ 1
one_power k none = rw none refl

placed_same : (quant : Quant) (num : ℤ) (frac : ℕ) → requantised quant num frac frac ≡ num
placed_same quant num frac =
    let none : 2 ^ (frac - frac) ≡ 1 = one_power (frac - frac) (omega arith) in
    placed_up quant num frac frac (omega arith) ∙ ap (λ e. num *ℤ pos e) none ∙ times_one num

-- a number that overflowed is kept by a second cast
again : (f : Format) (z : ℤ) → overflowed f.over f.signed f.wl (requantised f.quant (overflowed f.over f.signed f.wl z) (fraction_of f) (fraction_of f)) ≡ overflowed f.over f.signed f.wl z
unfolding cast_of
again f z =
    let once : overflowed f.over f.signed f.wl (requantised f.quant z (fraction_of f) (fraction_of f)) ≡ overflowed f.over f.signed f.wl z = ap (overflowed f.over f.signed f.wl) (placed_same f.quant z (fraction_of f)) in
    ap (λ (y : ℤ). overflowed f.over f.signed f.wl (requantised f.quant y (fraction_of f) (fraction_of f))) (sym once)
    ∙ cast_again f z (fraction_of f) ∙ once

zero_low : (over : Over) (signed : Bool) (wl : ℕ) → least_kept over signed wl ≤ℤ pos 0
zero_low SatSym true wl = omega (arith, ints)
zero_low SatSym false wl = omega (arith, ints)
zero_low Wrap true wl = omega (arith, ints)
zero_low Wrap false wl = omega (arith, ints)
zero_low Sat true wl = omega (arith, ints)
zero_low Sat false wl = omega (arith, ints)
zero_low SatZero true wl = omega (arith, ints)
zero_low SatZero false wl = omega (arith, ints)

zero_high : (signed : Bool) (wl : ℕ) → pos 0 ≤ℤ most signed wl
zero_high true wl = omega (arith, ints)
zero_high false wl = omega (arith, ints)

zero_again : (f : Format) → overflowed f.over f.signed f.wl (requantised f.quant (pos 0) (fraction_of f) (fraction_of f)) ≡ pos 0
zero_again f = ap (overflowed f.over f.signed f.wl) (placed_same f.quant (pos 0) (fraction_of f)) ∙ kept f.over f.signed f.wl (pos 0) f.some_bits (zero_low f.over f.signed f.wl) (zero_high f.signed f.wl)

number_again : (f : Format) (minus : Bool) (o : Option Numeral) → cast_number (shape_of_format f) (of_shape (Some (shape_of_format f)) (literal_number (shape_of_format f) minus o)) ≡ literal_number (shape_of_format f) minus o
number_again f minus None = zero_again f
number_again f minus (Some n) = again f (placed_fraction f.quant minus (scaled_count n) (10 ^ length n.fraction) (fraction_of f))

pub literal_again : (f : Format) (lit : Lit) → cast_number (shape_of_format f) (literal_in (Some (shape_of_format f)) lit) ≡ (literal_in (Some (shape_of_format f)) lit).num
literal_again f lit = number_again f lit.minus (numeral_of lit.digits)
