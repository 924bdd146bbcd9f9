-- How a table is refused, and a choice of its rows; and why it can't drive a model.
-- Source: own.
use Rattle.std.specs.Fmt.{decimal}
use Rattle.std.specs.Prelude.{ℕ, List, ◌++◌, codes}

-- `refused WORD line L`
unfoldable pub line_refusal : (word : List ℕ) → (line : ℕ) → List ℕ
line_refusal word line =
    codes "refused " ++ (word ++ (codes " line " ++ (decimal line ++ codes "\n")))

-- the line at fault of a text that is no table
abbrev pub table_refusal : (line : ℕ) → List ℕ
table_refusal line = line_refusal (codes "TABLE") line

-- a choice of too many rows
abbrev pub grid_refusal : List ℕ
grid_refusal = codes "refused GRID\n"

-- more rows, or rows and columns, than can drive
abbrev pub stimulus_refusal : List ℕ
stimulus_refusal = codes "refused STIMULUS\n"

-- a cell with too many digits for a literal
abbrev pub digits_refusal : (line : ℕ) → List ℕ
digits_refusal line = line_refusal (codes "DIGITS") line

-- a time that is none of the model's resolution
abbrev pub time_refusal : (line : ℕ) → List ℕ
time_refusal line = line_refusal (codes "TIME") line
