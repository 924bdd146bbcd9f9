-- A number without needless zeros (own).
use Rattle.std.specs.Prelude.{ℕ, ◌-◌, Bool, nat_eq, List, [], ◌∷◌, ◌++◌, length, take, drop}
use Rattle.std.specs.List.{prefix_len, suffix_len, before_first, after_first}
pub use Rattle.tdf_base.specs.Spelling.{after_point}

abbrev pub is_zero : ℕ → Bool
is_zero c = nat_eq c 48

abbrev pub is_point : ℕ → Bool
is_point c = nat_eq c 46

abbrev pub without_first_zeros : List ℕ → List ℕ
without_first_zeros whole = drop (prefix_len is_zero whole) whole

abbrev pub without_last_zeros : List ℕ → List ℕ
without_last_zeros fraction = take (length fraction - suffix_len is_zero fraction) fraction

-- a whole part has a digit
abbrev pub or_zero_digit : List ℕ → List ℕ
or_zero_digit [] = 48 ∷ []
or_zero_digit (c ∷ cs) = c ∷ cs

-- the number without needless zeros: those in front of its whole part, but for a last one, and those at the end of its fraction
unfoldable pub trimmed : List ℕ → List ℕ
trimmed text = or_zero_digit (without_first_zeros (before_first is_point text)) ++ after_point (without_last_zeros (after_first is_point text))
