-- Formats and literals.
use Rattle.std.proofs.Common.{◌≡◌, ℕ, Bool, true, List, ◌∷◌, Option, Some, None, Ok, refl}
use Rattle.std.specs.Prelude.{if◌then◌else◌}
use Rattle.tdf_base.proofs.Api.{reads_numerals}
use Rattle.tdf_base.specs.Number.{Numeral, numeral_of, is_number, is_short_numeral}
use Rattle.tdf_expr_compiler.specs.Formats.{IsFormatOf}
use Rattle.tdf_fixed.proofs.Api.{reads_literals}
use Rattle.tdf_fixed.specs.Cast.{cast_of, fraction_of}
use Rattle.tdf_fixed.specs.Literal.{Literal, literal_of, literal_cast, decimal_of, decimal_with}
use Rattle.tdf_fixed.specs.declared.format.Format.{Format}
use Rattle.tdf_fixed.specs.declared.raw.Raw.{Raw}
use Rattle.tdf_expr_semantics.specs.Value.{cast_number, literal_number}
use Rattle.tdf_expr_symbols.specs.Width.{fraction_bits}
use Rattle.tdf_lang_tree.specs.declared.shapes.Shape.{Shape}

pub same_fraction : (shape : Shape) (f : Format) → IsFormatOf shape f → fraction_of f ≡ fraction_bits shape
same_fraction shape f is = rw (is.wl, is.iwl) refl

-- a cast to a format is that to what a line wrote
pub same_cast : (shape : Shape) (f : Format) (a : Raw) → IsFormatOf shape f → cast_of f a.num a.frac ≡ cast_number shape a
unfolding cast_of
same_cast shape f a is = rw (is.over, is.signed, is.wl, is.quant, is.iwl) refl

same_literal : (shape : Shape) (f : Format) (minus : Bool) (n : Numeral) → IsFormatOf shape f
    → literal_cast f (record { minus = minus; numeral = n }) ≡ literal_number shape minus (Some n)
unfolding literal_cast
same_literal shape f minus n is = rw (is.over, is.signed, is.wl, is.quant, is.iwl) refl

-- a literal reads as its number in a format
pub literal_read : (shape : Shape) (f : Format) (minus : Bool) (digits text : List ℕ) → IsFormatOf shape f → is_number digits ≡ true
    → text ≡ (if minus then 45 ∷ digits else digits) → decimal_of f text ≡ Ok (record { num = literal_number shape minus (numeral_of digits); frac = fraction_of f })
unfolding is_number decimal_of
literal_read shape f minus digits text is number spelled = go (numeral_of digits) refl number
  where
    go : (o : Option Numeral) → numeral_of digits ≡ o → is_short_numeral o ≡ true
        → decimal_with f (literal_of text) ≡ Ok (record { num = literal_number shape minus (numeral_of digits); frac = fraction_of f })
    go None at short = absurd cc
    go (Some n) at short =
        let l : Literal = record { minus = minus; numeral = n } in
        let reads : literal_of text ≡ Some l = (reads_literals text l).1 (digits, spelled, (reads_numerals digits n).0 at) in
        rw (reads, short, same_literal shape f minus n is, at) refl
