-- Lists of numbers most of which are 0.
-- Source: own.
use Rattle.std.specs.List.{filter, range_with_len}
use Rattle.std.specs.Prelude.{ℕ, List, nat_lt, slice_index}

pub record SparseOf : Type 0 where
  pub items : List ℕ

-- the places below `count` of the numbers that are not 0
abbrev pub set_below : (count : ℕ) → List ℕ → List ℕ
set_below count items =
    filter (λ e. nat_lt 0 (slice_index items e)) (range_with_len 0 count)
