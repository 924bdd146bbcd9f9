-- Counts as the code has them, one for each block from those of earlier blocks: a count that does
-- not fit is the greatest one (own).
use Rattle.std.specs.Prelude.{◌≡◌, ◌<◌, ◌+◌, ◌-◌, ◌^◌, ℕ, zero, suc, min, Bool, true, false, List, [], ◌∷◌, length, Option, Some, None, slice_get, slice_index}
use Rattle.tdf_bind_hierarchy.specs.Blocks.{InstanceOf, BlockOf}

unfoldable pub capped : ℕ → ℕ
capped n = min n (2 ^ 64 - 1)

abbrev pub own_signals : Bool → ℕ → ℕ
own_signals true count = count
own_signals false count = 0

-- the count by depth, with no path in it
abbrev pub size_all : (weights : List ℕ) → (ℕ → ℕ) → List InstanceOf → ℕ
size_all weights go [] = 0
size_all weights go (i ∷ is) =
    (slice_index weights i.block + go i.block) + size_all weights go is

abbrev pub size_in : Bool → (weights : List ℕ) → (ℕ → ℕ) → Option BlockOf → ℕ
size_in signals weights go None = 0
size_in signals weights go (Some b) =
    own_signals signals (length b.signals) + size_all weights go b.instances

abbrev pub size : Bool → (weights : List ℕ) → List BlockOf → (depth block : ℕ) → ℕ
size signals weights blocks zero k = 0
size signals weights blocks (suc depth) k =
    size_in signals weights (λ m. size signals weights blocks depth m) (slice_get blocks k)

-- the sum of the code
abbrev pub counted : (counts weights : List ℕ) → ℕ → List InstanceOf → ℕ
counted counts weights total [] = total
counted counts weights total (i ∷ is) =
    counted counts weights
    (capped (total + capped (slice_index weights i.block + slice_index counts i.block))) is

-- the counts of the first `n` blocks
pub record AreCounts (n : ℕ) (signals : Bool) (weights : List ℕ) (blocks : List BlockOf)
    (counts : List ℕ) : Type 0 where
  pub long : length counts ≡ n
  pub each : (k : ℕ) → k < n
      → slice_index counts k ≡ capped (size signals weights blocks (length blocks) k)
