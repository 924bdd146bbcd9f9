-- Cells of a table: decimals, and `*` where a value is unknown.
-- Source: own.
use Rattle.std.specs.Prelude.{◌≢◌, ℕ, List, ◌∷◌, codes}
use Rattle.tdf_base.specs.Number.{Numeral}
use Rattle.tdf_base.specs.Spelling.{SpellsNumeral}
use Rattle.tdf_fixed.specs.DecimalLaws.{IsWholePart, EndsWell}

-- no needless zero: neither in front, nor after the point at the end
pub record IsPlain (n : Numeral) : Type 0 where
  pub whole : IsWholePart n.whole
  pub ends : EndsWell n.fraction

-- a number without needless zeros
pub record SpellsPlain (text : List ℕ) : Type 0 where
  pub numeral : Numeral
  pub spells : SpellsNumeral text numeral
  pub plain : IsPlain numeral

-- `*`, a number, or `-` and a number that isn't 0
pub data IsCell : List ℕ → Type 0 where
  Unknown : IsCell (codes "*")
  Number : {text : List ℕ} → SpellsPlain text → IsCell text
  Negative : {text : List ℕ} → SpellsPlain text → text ≢ codes "0" → IsCell (45 ∷ text)
