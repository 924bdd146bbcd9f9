-- The bits of two's complement as text (own).
use Rattle.std.specs.Prelude.{ℕ, zero, suc, ◌+◌, ◌^◌, List, [], ◌∷◌, ℤ}
use Rattle.tdf_fixed.specs.Quantise.{below, above_by}

-- the digit of one bit: whether num / 2 ^ place, rounded down, is odd
abbrev pub bit_at : ℤ → ℕ → ℕ
bit_at num place = 48 + above_by (below num (2 ^ place)) 2

-- the low bits, the highest first
unfoldable pub bits_text : ℤ → ℕ → List ℕ
bits_text num zero = []
bits_text num (suc width) = bit_at num width ∷ bits_text num width
