-- The code's two sides of a numeral, as the definitions see them (own).
use Rattle.std.specs.Prelude.{ℕ, ◌≡◌, true, List}
use Rattle.std.specs.List.{list_all}
use Rattle.tdf_base.specs.Digits.{is_digit}
use Rattle.tdf_base.specs.Number.{Numeral}
use Rattle.tdf_base.specs.declared.numerals.Numeral.{Numeral as Sides}

abbrev pub spelt : Sides → Numeral
spelt p = record { whole = p.whole.now; fraction = p.fraction.now }

-- both sides hold digits alone
pub record AreDigits (whole fraction : List ℕ) : Type 0 where
  pub before : list_all is_digit whole ≡ true
  pub after : list_all is_digit fraction ≡ true
