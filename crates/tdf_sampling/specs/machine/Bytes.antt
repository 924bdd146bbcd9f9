-- How numbers are compared by their bytes. Source: own.
use Rattle.std.specs.Cmp.Lexicographic.{slice_cmp}
use Rattle.std.specs.List.{position_or_len}
use Rattle.std.specs.Ordering.{is_le, nat_cmp}
use Rattle.std.specs.Prelude.{ℕ, Bool, true, false, nat_eq, nat_lt, if◌then◌else◌}
use Rattle.std.specs.Prelude.{List, Option, Some, None}
use Rattle.tdf_sampling.specs.Order.{without_sign}

abbrev pub is_point : ℕ → Bool
is_point byte = nat_eq byte 46

-- the length of the whole part
abbrev pub whole_len : List ℕ → ℕ
whole_len text = position_or_len is_point text

-- without a sign: the shorter whole part first, and else byte by byte
abbrev pub comes_within : (a b : List ℕ) → Bool
comes_within a b = if nat_eq (whole_len a) (whole_len b)
    then is_le (slice_cmp nat_cmp a b) else nat_lt (whole_len a) (whole_len b)

abbrev pub comes_first_by : (a b : List ℕ) → (below other : Option (List ℕ)) → Bool
comes_first_by a b None None = comes_within a b
comes_first_by a b None (Some y) = false
comes_first_by a b (Some x) None = true
comes_first_by a b (Some x) (Some y) = comes_within y x

unfoldable pub comes_first : (a b : List ℕ) → Bool
comes_first a b = comes_first_by a b (without_sign a) (without_sign b)
