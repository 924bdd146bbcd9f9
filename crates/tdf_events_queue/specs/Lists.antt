-- A list of numbers for each number (own), as the processes that are sensitive to a signal.
-- Source: own.
use Rattle.std.specs.Prelude.{ℕ, List, [], slice_index_or}

-- the list of a number
abbrev pub list_at : List (List ℕ) → ℕ → List ℕ
list_at lists n = slice_index_or lists n []
