-- A cast: rounding first, overflow second (IEEE 1666-2011, 7.10).
use Rattle.std.specs.Prelude.{ℕ, ◌-◌, ◌≤◌, ℤ}
use Rattle.tdf_fixed.specs.Overflow.{overflowed}
use Rattle.tdf_fixed.specs.Quantise.{requantised}
use Rattle.tdf_fixed.specs.declared.format.Format.{Format}

-- the word lengths that a format may have
pub record IsLegal (wl iwl : ℕ) : Type 0 where
  pub some_bits : 1 ≤ wl
  pub few_bits : wl ≤ 64
  pub whole_bits : iwl ≤ wl
  pub fraction_bits : wl - iwl ≤ 63

-- the bits after the point of a format
abbrev pub fraction_of : Format → ℕ
fraction_of f = f.wl - f.iwl

-- the cast of num / 2 ^ frac, in units of the format's last place
unfoldable pub cast_of : Format → ℤ → ℕ → ℤ
cast_of f num frac = overflowed f.over f.signed f.wl (requantised f.quant num frac (fraction_of f))
