-- When a table can't drive a model: too many rows and cells, a driving cell with too many digits, a
-- time that is no count of the model's resolution. They are looked at in this order.
-- Source: own.
use Rattle.std.specs.Prelude.{◌≡◌, ℕ, ◌+◌, ◌*◌, ◌/◌, ◌%◌, Bool, true, false, not, ◌&&◌, ◌||◌, nat_eq, nat_lt, List, [], ◌∷◌, length, is_some, if◌then◌else◌, Option, Some, None}
use Rattle.tdf_base.specs.Limits.{greatest_rate, heaviest_body, time_end}
use Rattle.tdf_base.specs.Number.{Numeral, is_short, numeral_of}
use Rattle.tdf_base.specs.Time.{femtoseconds_in}
use Rattle.tdf_base.specs.declared.resolution.Resolution.{Resolution}
use Rattle.tdf_lang_tree.specs.Pure.{PureTree}
use Rattle.tdf_stim.specs.Signals.{SourceOf, driving, sources_of}
use Rattle.tdf_stim.specs.declared.err.StimErr.{StimErr}
use Rattle.tdf_stim.specs.declared.err.StimErr.TheVariants as why
use Rattle.tdf_tables.specs.Tables.{TableRow, TableOf}

-- there is a driving column, and an array would be too long or the driver's body too heavy
abbrev pub is_too_large : (rows columns : ℕ) → Bool
is_too_large rows columns = nat_lt 0 columns
    && (nat_lt greatest_rate rows || nat_lt heaviest_body (rows * (2 + columns) + 2))

abbrev pub has_too_many : PureTree → TableOf → Bool
has_too_many tree table = is_too_large (length table.rows) (length (driving tree table))

-- more than 18 digits on one side of the point; `*` has none
abbrev pub is_long_numeral : Option Numeral → Bool
is_long_numeral None = false
is_long_numeral (Some numeral) = not (is_short numeral)

abbrev pub without_minus : List ℕ → List ℕ
without_minus [] = []
without_minus (c ∷ cs) = if nat_eq c 45 then cs else c ∷ cs

abbrev pub is_long : (cell : List ℕ) → Bool
is_long cell = is_long_numeral (numeral_of (without_minus cell))

-- a cell of a driving column is too long
unfoldable pub has_long : List (Option SourceOf) → (cells : List (List ℕ)) → Bool
has_long [] cells = false
has_long (source ∷ sources) [] = false
has_long (source ∷ sources) (cell ∷ cells) =
    (is_some source && is_long cell) || has_long sources cells

-- the line of the first row that has something, where the first row stands on this line
unfoldable pub line_from : (line : ℕ) → (TableRow → Bool) → List TableRow → Option ℕ
line_from line has [] = None
line_from line has (row ∷ rows) = if has row then Some line else line_from (line + 1) has rows

-- the same for the rows of a table, whose head is line 1
abbrev pub first_row_line : (TableRow → Bool) → List TableRow → Option ℕ
first_row_line has rows = line_from 2 has rows

abbrev pub long_line : PureTree → TableOf → Option ℕ
long_line tree table = first_row_line (λ row. has_long (sources_of tree table) row.cells) table.rows

-- a time in fs is no whole count of a resolution, or 10^18 counts or more
abbrev pub is_off : Resolution → (time : ℕ) → Bool
is_off unit time = not (nat_eq (time % femtoseconds_in unit) 0)
    || not (nat_lt (time / femtoseconds_in unit) time_end)

abbrev pub off_line : PureTree → TableOf → Option ℕ
off_line tree table = first_row_line (λ row. is_off tree.resolution row.time) table.rows

-- the table can drive the model
pub record IsDrivable (tree : PureTree) (table : TableOf) : Type 0 where
  pub few : has_too_many tree table ≡ false
  pub short : long_line tree table ≡ None
  pub on : off_line tree table ≡ None

-- why it can't: each cause has its own definition, and the first of the three decides; out of
-- memory is free
abbrev pub IsStimRefusal : PureTree → TableOf → StimErr → Type 0
IsStimRefusal tree table why.TooMany = has_too_many tree table ≡ true
IsStimRefusal tree table (why.Digits line) =
    (has_too_many tree table ≡ false) × (long_line tree table ≡ Some line)
IsStimRefusal tree table (why.Time line) = (has_too_many tree table ≡ false)
    × (long_line tree table ≡ None) × (off_line tree table ≡ Some line)
IsStimRefusal tree table why.Memory = Unit {0}
