-- The form and the value of a decimal text, apart from how it is made (own).
use Rattle.std.specs.Prelude.{◌≡◌, ℕ, suc, ◌+◌, ◌*◌, ◌^◌, ◌<◌, ◌↔◌, true, List, [], ◌∷◌, ◌++◌, length, slice_index, ℤ, pos, negsuc, unsigned_abs}
use Rattle.std.specs.List.{list_all}
use Rattle.tdf_fixed.specs.Decimal.{value_text, places_of, seconds_text, seconds_text_at}
use Rattle.tdf_base.specs.declared.resolution.Resolution.{Resolution}
use Rattle.tdf_base.specs.declared.resolution.Resolution.TheVariants.{Ps}
use Rattle.tdf_base.specs.Digits.{is_digit, number}
use Rattle.tdf_base.specs.Spelling.{after_point}

-- digits without leading zeros: one or more, and `0` first only alone
pub record IsWholePart (digits : List ℕ) : Type 0 where
  pub all : list_all is_digit digits ≡ true
  pub some : 0 < length digits
  pub plain : slice_index digits 0 ≡ 48 → length digits ≡ 1

-- the last digit, if there is one, isn't 0
abbrev pub EndsWell : List ℕ → Type 0
EndsWell [] = Unit {0}
EndsWell (c ∷ []) = 48 < c
EndsWell (c ∷ (e ∷ cs)) = EndsWell (e ∷ cs)

-- the text has the form of a decimal without a sign, and its value is n/d
pub record IsMagnitude (text : List ℕ) (n d : ℕ) : Type 0 where
  pub whole : List ℕ
  pub fraction : List ℕ
  pub spells : text ≡ whole ++ after_point fraction
  pub plain : IsWholePart whole
  pub all : list_all is_digit fraction ≡ true
  pub ends : EndsWell fraction
  pub value : (number whole * 10 ^ length fraction + number fraction) * d ≡ n * 10 ^ length fraction

-- the text has the form of a decimal, with `-` in front where it is below 0, and its value is
-- num / 2 ^ frac
abbrev pub IsDecimal : List ℕ → ℤ → ℕ → Type 0
IsDecimal text (pos n) frac = IsMagnitude text n (2 ^ frac)
IsDecimal text (negsuc n) frac =
    (rest : List ℕ) × (text ≡ 45 ∷ rest) × IsMagnitude rest (suc n) (2 ^ frac)

-- the text of a value is the one decimal of that value
abbrev pub IsValueText : Type 0
IsValueText = (text : List ℕ) (num : ℤ) (frac : ℕ) → unsigned_abs num < 2 ^ 128
    → IsDecimal text num frac ↔ (text ≡ value_text num frac)

-- the text of a time is the one decimal of that many counts in seconds; that of picoseconds is the
-- case of that resolution
abbrev pub IsTimeText : Type 0
IsTimeText = (resolution : Resolution) (text : List ℕ) (time : ℕ) → time < 2 ^ 128
    → (IsMagnitude text time (10 ^ places_of resolution) ↔ (text ≡ seconds_text_at resolution time))
    × (seconds_text time ≡ seconds_text_at Ps time)
