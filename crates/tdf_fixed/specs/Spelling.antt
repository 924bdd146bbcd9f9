-- How literals are spelled, apart from how they are read (own).
use Rattle.std.specs.Prelude.{◌≡◌, ℕ, ◌*◌, ◌^◌, ◌≤◌, ◌↔◌, if◌then◌else◌, Some, Result, Ok, Err, List, ◌∷◌, ◌<◌, ℤ, pos, ◌*ℤ◌, unsigned_abs}
use Rattle.tdf_base.specs.Limits.{most_digits}
use Rattle.tdf_base.specs.Spelling.{SpellsNumeral}
use Rattle.tdf_fixed.specs.Literal.{Literal, literal_of, literal_count, literal_parts, literal_exact, exact_of}
use Rattle.tdf_fixed.specs.Decimal.{value_text}
use Rattle.tdf_fixed.specs.declared.literals.NumErr.{NumErr}
use Rattle.tdf_fixed.specs.declared.literals.NumErr.TheVariants.{Inexact}
use Rattle.tdf_fixed.specs.declared.raw.Raw.{Raw}

-- a numeral, or `-` directly in front of one
abbrev pub SpellsLiteral : List ℕ → Literal → Type 0
SpellsLiteral text l =
    (rest : List ℕ) × (text ≡ (if l.minus then 45 ∷ rest else rest)) × SpellsNumeral rest l.numeral

-- a literal is read exactly where it is spelled so
abbrev pub ReadsLiterals : Type 0
ReadsLiterals = (text : List ℕ) (l : Literal) → (literal_of text ≡ Some l) ↔ SpellsLiteral text l

-- at this count of fraction bits the literal is the whole number num
abbrev pub IsWholeAt : Literal → ℤ → ℕ → Type 0
IsWholeAt l num frac = num *ℤ pos (literal_parts l) ≡ literal_count l *ℤ pos (2 ^ frac)

-- the exact value at the least count of fraction bits; and inexact only where there is none
abbrev pub IsExact : Literal → Result Raw NumErr → Type 0
IsExact l (Ok r) =
    IsWholeAt l r.num r.frac × ((num : ℤ) (frac : ℕ) → IsWholeAt l num frac → r.frac ≤ frac)
IsExact l (Err e) = (e ≡ Inexact) × ((num : ℤ) (frac : ℕ) → IsWholeAt l num frac → ⊥)

abbrev pub ReadsExactly : Type 0
ReadsExactly = (l : Literal) → IsExact l (literal_exact l)

-- the same value, over two counts of fraction bits
abbrev pub IsSameValue : ℤ → ℕ → Raw → Type 0
IsSameValue num frac r = r.num *ℤ pos (2 ^ frac) ≡ num *ℤ pos (2 ^ r.frac)

-- the text of a value below 10 ^ 18 with at most 18 fraction bits reads back as that value
abbrev pub ReadsBack : Type 0
ReadsBack = (num : ℤ) (frac : ℕ) → frac ≤ most_digits
    → unsigned_abs num < 10 ^ most_digits * 2 ^ frac
    → (r : Raw) × (exact_of (value_text num frac) ≡ Ok r) × IsSameValue num frac r
