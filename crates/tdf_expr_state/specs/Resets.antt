-- Lists set back to how an activation begins (own), each with as many places as before.
use Rattle.std.specs.Prelude.{ℕ, ◌+◌, Bool, false, List, ◌++◌, Option, None, ℤ, pos, length, take, drop, replicate}

-- no flag is set
abbrev pub none_set : List Bool → List Bool
none_set flags = replicate (length flags) false

-- no time stands
abbrev pub no_times : List (Option ℕ) → List (Option ℕ)
no_times times = replicate (length times) None

-- `count` numbers from a place on are 0
abbrev pub with_zeros : (from count : ℕ) → List ℤ → List ℤ
with_zeros from count nums = take from nums ++ (replicate count (pos 0) ++ drop (from + count) nums)
