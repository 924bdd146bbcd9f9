-- What holds of choices and of the least number. Source: own.
use Rattle.std.specs.Prelude.{ℕ, ◌≡◌, ◌≢◌, ◌*◌, ◌^◌, ◌<◌, ◌↔◌, ◌⊎◌, true, codes, length}
use Rattle.std.specs.Prelude.{ℤ, pos, neg_ℤ, ◌*ℤ◌, int_le, None}
use Rattle.std.specs.Prelude.{List, [], ◌∷◌, Option, Some}
use Rattle.std.specs.List.{AllByRecursion}
use Rattle.tdf_base.specs.Number.{scaled_count}
use Rattle.tdf_sampling.specs.Choice.{nth}
use Rattle.tdf_sampling.specs.Order.{digits_of, is_at_most, without_sign}
use Rattle.tdf_sampling.specs.Statistics.{greatest_cell, least_cell}
use Rattle.tdf_tables.specs.Cells.{IsCell}
use Rattle.tdf_tables.specs.Tables.{TableRow}

-- every row is all rows
abbrev pub ChoosesAll : Type 0
ChoosesAll = (rows : List TableRow) → nth 1 rows ≡ rows

-- a choice of a choice is one choice
abbrev pub ChoosesTwice : Type 0
ChoosesTwice = (a b : ℕ) (rows : List TableRow) → 0 < a → 0 < b
    → nth a (nth b rows) ≡ nth (a * b) rows

-- a cell that is a number
pub record IsKnownCell (number : List ℕ) : Type 0 where
  pub is : IsCell number
  pub known : number ≢ codes "*"

-- the value of a number is this count over 10 ^ (places of it)
abbrev pub count_by : List ℕ → Option (List ℕ) → ℤ
count_by number None = pos (scaled_count (digits_of number))
count_by number (Some below) = neg_ℤ (pos (scaled_count (digits_of below)))

abbrev pub signed_count : List ℕ → ℤ
signed_count number = count_by number (without_sign number)

abbrev pub places_by : List ℕ → Option (List ℕ) → ℕ
places_by number None = length (digits_of number).fraction
places_by number (Some below) = length (digits_of below).fraction

abbrev pub places_in : List ℕ → ℕ
places_in number = places_by number (without_sign number)

-- the order is that of the values
abbrev pub OrdersByValue : Type 0
OrdersByValue = (a b : List ℕ) → IsKnownCell a → IsKnownCell b → is_at_most a b
    ≡ int_le (signed_count a *ℤ pos (10 ^ places_in b)) (signed_count b *ℤ pos (10 ^ places_in a))

-- one of some numbers
abbrev pub IsAmongCells : List (List ℕ) → (number : List ℕ) → Type 0
IsAmongCells [] number = ⊥
IsAmongCells (other ∷ numbers) number = (number ≡ other) ⊎ IsAmongCells numbers number

-- one of some numbers, and at most each of them
pub record IsLeastOf (numbers : List (List ℕ)) (number : List ℕ) : Type 0 where
  pub one : IsAmongCells numbers number
  pub each : AllByRecursion (λ other. is_at_most number other ≡ true) numbers

-- one of some numbers, and each of them is at most it
pub record IsGreatest (numbers : List (List ℕ)) (number : List ℕ) : Type 0 where
  pub one : IsAmongCells numbers number
  pub each : AllByRecursion (λ other. is_at_most other number ≡ true) numbers

-- the least of some numbers is this one text
abbrev pub FindsLeast : Type 0
FindsLeast = (numbers : List (List ℕ)) (number : List ℕ) → AllByRecursion IsKnownCell numbers
    → (least_cell numbers ≡ Some number) ↔ IsLeastOf numbers number

-- the greatest, too
abbrev pub FindsGreatest : Type 0
FindsGreatest = (numbers : List (List ℕ)) (number : List ℕ) → AllByRecursion IsKnownCell numbers
    → (greatest_cell numbers ≡ Some number) ↔ IsGreatest numbers number
