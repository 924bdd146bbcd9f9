-- What holds of rounding, overflow and casts, whatever the numbers (own).
use Rattle.std.specs.Prelude.{◌≡◌, ℕ, ◌+◌, ◌*◌, ◌<◌, ◌≤◌, Bool, ℤ, pos, ◌+ℤ◌, ◌-ℤ◌, ◌*ℤ◌, ◌≤ℤ◌, ◌<ℤ◌, unsigned_abs, ◌^◌, true, false}
use Rattle.tdf_fixed.specs.Cast.{cast_of, fraction_of}
use Rattle.tdf_fixed.specs.Overflow.{least, least_symmetric, most, overflowed, wrapped, IsOfWidth}
use Rattle.tdf_fixed.specs.Quantise.{below, above_by, quantised}
use Rattle.tdf_fixed.specs.declared.format.Format.{Format}
use Rattle.tdf_fixed.specs.declared.over.Over.{Over}
use Rattle.tdf_fixed.specs.declared.over.Over.TheVariants.{Sat, SatSym}
use Rattle.tdf_fixed.specs.Literal.{Literal, literal_cast}
use Rattle.tdf_fixed.specs.Spelling.{IsWholeAt}
use Rattle.tdf_fixed.specs.declared.quant.Quant.{Quant}
use Rattle.tdf_fixed.specs.declared.quant.Quant.TheVariants.{Trn, TrnZero}

-- the neighbour below n/d and the distance from it are the quotient and rest of n by d
abbrev pub AreNeighbours : Type 0
AreNeighbours = (n : ℤ) (d : ℕ) → 0 < d
    → (below n d *ℤ pos d +ℤ pos (above_by n d) ≡ n) × (above_by n d < d)

-- rounding keeps the order of two fractions
abbrev pub IsMonotone : Type 0
IsMonotone = (quant : Quant) (m n : ℤ) (d : ℕ) → 0 < d → m ≤ℤ n
    → quantised quant m d ≤ℤ quantised quant n d

-- the five modes that round to the nearest whole number
abbrev pub is_nearest : Quant → Bool
is_nearest Trn = false
is_nearest TrnZero = false
is_nearest _ = true

-- they give a number at most half a last place away
abbrev pub RoundsToNearest : Type 0
RoundsToNearest = (quant : Quant) (n : ℤ) (d : ℕ) → 0 < d → is_nearest quant ≡ true
    → 2 * unsigned_abs (quantised quant n d *ℤ pos d -ℤ n) ≤ d

-- `trn` gives one that is less than one last place below
abbrev pub RoundsDown : Type 0
RoundsDown = (n : ℤ) (d : ℕ) → 0 < d
    → ((quantised Trn n d *ℤ pos d) ≤ℤ n) × (n <ℤ (quantised Trn n d *ℤ pos d +ℤ pos d))

-- a cast goes by the value alone: num / 2 ^ frac, however it is written
abbrev pub IsByValue : Type 0
IsByValue = (f : Format) (num : ℤ) (frac k : ℕ)
    → cast_of f (num *ℤ pos (2 ^ k)) (frac + k) ≡ cast_of f num frac

-- a literal that is exact at some count of fraction bits casts as that value
abbrev pub CastsExactly : Type 0
CastsExactly = (f : Format) (l : Literal) (num : ℤ) (frac : ℕ) → IsWholeAt l num frac
    → literal_cast f l ≡ cast_of f num frac

-- the least number that an overflow mode leaves alone: all but `sat_sym` keep the signed minimum
abbrev pub least_kept : Over → Bool → ℕ → ℤ
least_kept SatSym signed wl = least_symmetric signed wl
least_kept _ signed wl = least signed wl

-- a cast leaves a value of the format alone
abbrev pub CastKeepsValue : Type 0
CastKeepsValue = (f : Format) (num : ℤ)
    → least_kept f.over f.signed f.wl ≤ℤ num → num ≤ℤ most f.signed f.wl
    → cast_of f num (fraction_of f) ≡ num

-- a second cast changes nothing
abbrev pub IsIdempotent : Type 0
IsIdempotent = (f : Format) (num : ℤ) (frac : ℕ)
    → cast_of f (cast_of f num frac) (fraction_of f) ≡ cast_of f num frac

-- no number of the range is nearer than the one that `sat` gives
abbrev pub IsNearest : Type 0
IsNearest = (signed : Bool) (wl : ℕ) (z y : ℤ) → 1 ≤ wl → IsOfWidth signed wl y
    → unsigned_abs (z -ℤ overflowed Sat signed wl z) ≤ unsigned_abs (z -ℤ y)

-- two numbers that differ by a multiple of m
abbrev pub DifferBy : ℕ → ℤ → ℤ → Type 0
DifferBy m x y = (k : ℤ) × (x ≡ y +ℤ k *ℤ pos m)

-- `wrap` gives a number of the range that differs by a multiple of 2 ^ wl
abbrev pub IsWrap : Type 0
IsWrap = (signed : Bool) (wl : ℕ) (z : ℤ) → 1 ≤ wl
    → IsOfWidth signed wl (wrapped signed wl z) × DifferBy (2 ^ wl) z (wrapped signed wl z)

-- and there is no other
abbrev pub IsOnlyWrap : Type 0
IsOnlyWrap = (signed : Bool) (wl : ℕ) (x y : ℤ) → 1 ≤ wl
    → IsOfWidth signed wl x → IsOfWidth signed wl y
    → DifferBy (2 ^ wl) x y → x ≡ y
