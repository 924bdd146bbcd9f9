-- Fitting a whole number into a format's range: overflow modes (IEEE 1666-2011, 7.10); the result
-- of `sat_sym` on the exact signed minimum is as in SystemC's library (own).
use Rattle.std.specs.Prelude.{ℕ, ◌-◌, ◌^◌, Bool, ◌&&◌, nat_lt, int_le, if◌then◌else◌, ℤ, pos, ◌-ℤ◌, neg_ℤ, ◌≤ℤ◌}
use Rattle.std.specs.Int.{int_min, int_max}
use Rattle.tdf_fixed.specs.Quantise.{above_by}
use Rattle.tdf_fixed.specs.declared.over.Over.{Over}
use Rattle.tdf_fixed.specs.declared.over.Over.TheVariants.{Wrap, Sat, SatZero, SatSym}

-- the least and the greatest number of a format's range, in units of its last place
abbrev pub least : Bool → ℕ → ℤ
least signed wl = if signed then neg_ℤ (pos (2 ^ (wl - 1))) else pos 0

abbrev pub most : Bool → ℕ → ℤ
most signed wl = if signed then pos (2 ^ (wl - 1) - 1) else pos (2 ^ wl - 1)

-- the opposite of the greatest number of a signed range, else 0
abbrev pub least_symmetric : Bool → ℕ → ℤ
least_symmetric signed wl = if signed then neg_ℤ (pos (2 ^ (wl - 1) - 1)) else pos 0

-- half of a signed range, else 0
abbrev pub half_of : Bool → ℕ → ℕ
half_of signed wl = if signed then 2 ^ (wl - 1) else 0

-- the number of the signed range that differs from n by a multiple of 2 ^ wl
abbrev pub wrapped_signed : ℕ → ℕ → ℤ
wrapped_signed rest wl = if nat_lt rest (2 ^ (wl - 1)) then pos rest else pos rest -ℤ pos (2 ^ wl)

-- the number of the range that differs from n by a multiple of 2 ^ wl
unfoldable pub wrapped : Bool → ℕ → ℤ → ℤ
wrapped signed wl n =
    if signed then wrapped_signed (above_by n (2 ^ wl)) wl else pos (above_by n (2 ^ wl))

unfoldable pub overflowed : Over → Bool → ℕ → ℤ → ℤ
overflowed Wrap signed wl n = wrapped signed wl n
overflowed Sat signed wl n = int_max (least signed wl) (int_min n (most signed wl))
overflowed SatZero signed wl n =
    if int_le (least signed wl) n && int_le n (most signed wl) then n else pos 0
overflowed SatSym signed wl n = int_max (least_symmetric signed wl) (int_min n (most signed wl))

-- a number of the range
pub record IsOfWidth (signed : Bool) (wl : ℕ) (z : ℤ) : Type 0 where
  pub low : least signed wl ≤ℤ z
  pub high : z ≤ℤ most signed wl
