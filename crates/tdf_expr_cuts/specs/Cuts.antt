-- Casts that only cut bits off.
use Rattle.std.specs.Prelude.{◌≡◌, ℕ, ◌^◌, ◌≤◌, ℤ}
use Rattle.tdf_fixed.specs.Cast.{cast_of}
use Rattle.tdf_fixed.specs.Overflow.{IsOfWidth}
use Rattle.tdf_fixed.specs.Quantise.{below}
use Rattle.tdf_fixed.specs.declared.format.Format.{Format}
use Rattle.tdf_expr_cuts.specs.declared.cuts.Cut.{Cut}

-- the cast of a number is its neighbour below, where that lies in the range
pub record IsCutOf (c : Cut) (f : Format) (frac : ℕ) : Type 0 where
  pub few : c.shift ≤ 62
  pub some : 1 ≤ c.wl
  pub small : c.wl ≤ 62
  pub casts : (num : ℤ) → IsOfWidth c.signed c.wl (below num (2 ^ c.shift))
      → cast_of f num frac ≡ below num (2 ^ c.shift)
