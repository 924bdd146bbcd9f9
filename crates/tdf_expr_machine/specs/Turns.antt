-- The turns of a loop (own), and what makes each of them safe.
use Rattle.std.specs.Prelude.{ℕ, zero, suc, ◌+◌, ◌-◌, ◌<◌, ◌≤◌}
use Rattle.tdf_expr_state.specs.State.{State}

-- `count` turns, the first at `from`
abbrev pub repeated : (ℕ → State → State) → (from count : ℕ) → State → State
repeated turn from zero s = s
repeated turn from (suc count) s = turn (from + count) (repeated turn from count s)

-- the state after the turns from `from` up to and not including `end`
unfoldable pub turned : (ℕ → State → State) → (from end : ℕ) → State → State
turned turn from end s = repeated turn from (end - from) s

-- each turn is safe at the state that the turns before it leave
unfoldable pub AreTurnsSafe : (ℕ → State → State) → (ℕ → State → Type 0) → (from end : ℕ)
    → State → Type 0
AreTurnsSafe turn IsFine from end s =
    (i : ℕ) → from ≤ i → i < end → IsFine i (turned turn from i s)
