-- The order of cells by value. Source: own.
use Rattle.std.specs.Prelude.{ℕ, ◌*◌, ◌^◌, Bool, true, false, nat_eq, nat_le, if◌then◌else◌}
use Rattle.std.specs.Prelude.{List, [], ◌∷◌, length, Option, Some, None, unwrap_or}
use Rattle.tdf_base.specs.Number.{Numeral, numeral_of, scaled_count}

-- the digits of a number without a sign, on both sides of its point
abbrev pub digits_of : List ℕ → Numeral
digits_of text = unwrap_or (numeral_of text) (record { whole = []; fraction = [] })

-- numbers without a sign: each is a count over a power of ten, so both are taken over both powers
abbrev pub is_magnitude_within : (a b : Numeral) → Bool
is_magnitude_within a b =
    nat_le (scaled_count a * 10 ^ length b.fraction) (scaled_count b * 10 ^ length a.fraction)

-- a number below 0, without its sign
abbrev pub without_sign : List ℕ → Option (List ℕ)
without_sign [] = None
without_sign (c ∷ cs) = if nat_eq c 45 then Some cs else None

-- a number below 0 comes before the others; of two below 0 the one further from 0 is the lesser
abbrev pub is_at_most_by : (a b : List ℕ) → (below other : Option (List ℕ)) → Bool
is_at_most_by a b None None = is_magnitude_within (digits_of a) (digits_of b)
is_at_most_by a b None (Some y) = false
is_at_most_by a b (Some x) None = true
is_at_most_by a b (Some x) (Some y) = is_magnitude_within (digits_of y) (digits_of x)

-- the first number is at most the second
unfoldable pub is_at_most : (a b : List ℕ) → Bool
is_at_most a b = is_at_most_by a b (without_sign a) (without_sign b)
