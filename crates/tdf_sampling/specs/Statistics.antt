-- Statistics of rows: by column the least and the greatest number, and how often it changes.
-- Source: own.
use Rattle.std.specs.Cmp.Lexicographic.{pointwise}
use Rattle.std.specs.Fmt.{decimal}
use Rattle.std.specs.List.{fold}
use Rattle.std.specs.Prelude.{ℕ, ◌+◌, ◌*◌, ◌/◌, Bool, not, ◌&&◌, nat_eq, nat_le, nat_lt, codes}
use Rattle.std.specs.Prelude.{List, [], ◌∷◌, ◌++◌, length, map, filter, slice_index_or}
use Rattle.std.specs.Prelude.{Option, Some, None, if◌then◌else◌}
use Rattle.tdf_base.specs.declared.resolution.Resolution.TheVariants.{Fs}
use Rattle.tdf_fixed.specs.Decimal.{seconds_text_at}
use Rattle.tdf_io.specs.Bytes.{pieces_text}
use Rattle.tdf_sampling.specs.Choice.{end_time, femtoseconds}
use Rattle.tdf_sampling.specs.Order.{is_at_most}
use Rattle.tdf_tables.specs.Tables.{TableRow, TableOf}

-- the cells of a column
abbrev pub cell_in : (place : ℕ) → TableRow → List ℕ
cell_in place row = slice_index_or row.cells place []

abbrev pub column : (place : ℕ) → List TableRow → List (List ℕ)
column place rows = map (cell_in place) rows

-- a cell is `*`, or a number
abbrev pub is_unknown : List ℕ → Bool
is_unknown cell = pointwise nat_eq cell (codes "*")

abbrev pub unknown : List (List ℕ) → List (List ℕ)
unknown cells = filter is_unknown cells

abbrev pub known : List (List ℕ) → List (List ℕ)
known cells = filter (λ cell. not (is_unknown cell)) cells

-- the least of some numbers, and the greatest
abbrev pub lesser_cell : Option (List ℕ) → List ℕ → Option (List ℕ)
lesser_cell None number = Some number
lesser_cell (Some least) number = if is_at_most least number then Some least else Some number

unfoldable pub least_cell : List (List ℕ) → Option (List ℕ)
least_cell numbers = fold lesser_cell None numbers

abbrev pub greater_cell : Option (List ℕ) → List ℕ → Option (List ℕ)
greater_cell None number = Some number
greater_cell (Some greatest) number =
    if is_at_most number greatest then Some greatest else Some number

unfoldable pub greatest_cell : List (List ℕ) → Option (List ℕ)
greatest_cell numbers = fold greater_cell None numbers

-- how often a cell's text differs from that of the row before
unfoldable pub change_count : List (List ℕ) → ℕ
change_count [] = 0
change_count (a ∷ []) = 0
change_count (a ∷ (b ∷ cells)) = (if pointwise nat_eq a b then 0 else 1) + change_count (b ∷ cells)

-- a number, or `-` where there is none
abbrev pub or_dash : Option (List ℕ) → List ℕ
or_dash None = codes "-"
or_dash (Some number) = number

-- ` cells N unknown U`
unfoldable pub counts_text : (cells unknown : ℕ) → List ℕ
counts_text cells unknown = codes " cells " ++ decimal cells ++ codes " unknown " ++ decimal unknown

-- ` min A max B`
unfoldable pub limits_text : (least greatest : Option (List ℕ)) → List ℕ
limits_text least greatest = codes " min " ++ or_dash least ++ codes " max " ++ or_dash greatest

-- ` changes C` and the end of the line
unfoldable pub change_count_text : (changes : ℕ) → List ℕ
change_count_text changes = codes " changes " ++ decimal changes ++ codes "\n"

-- `LABEL cells N unknown U min A max B changes C`
unfoldable pub stats_line : (label : List ℕ) → List (List ℕ) → List ℕ
stats_line label cells = label ++ counts_text (length cells) (length (unknown cells))
    ++ limits_text (least_cell (known cells)) (greatest_cell (known cells))
    ++ change_count_text (change_count cells)

-- the line of each column of some rows
abbrev pub stats_piece : (labels : List (List ℕ)) → List TableRow → (place : ℕ) → List ℕ
stats_piece labels rows place = stats_line (slice_index_or labels place []) (column place rows)

unfoldable pub group_text : (labels : List (List ℕ)) → List TableRow → List ℕ
group_text labels rows = pieces_text (stats_piece labels rows) (length labels)

-- the rows of window k: from k steps on, and before k + 1 steps
abbrev pub is_inside : (step k : ℕ) → TableRow → Bool
is_inside step k row = nat_le (k * step) row.time && nat_lt row.time ((k + 1) * step)

abbrev pub rows_within : (step k : ℕ) → List TableRow → List TableRow
rows_within step k rows = filter (is_inside step k) rows

-- `window TIME`, the start of a window
unfoldable pub window_line : (start : ℕ) → List ℕ
window_line start = codes "window " ++ seconds_text_at Fs start ++ codes "\n"

-- that line and the lines of the window's rows; nothing of a window without rows
unfoldable pub window_text : (labels : List (List ℕ)) → (step k : ℕ) → List TableRow → List ℕ
window_text labels step k [] = []
window_text labels step k (row ∷ rows) =
    window_line (k * step) ++ group_text labels (row ∷ rows)

abbrev pub window_piece : (labels : List (List ℕ)) → (step : ℕ) → List TableRow → (k : ℕ) → List ℕ
window_piece labels step rows k = window_text labels step k (rows_within step k rows)

-- window by window, up to that of the last row
unfoldable pub windows_text : (labels : List (List ℕ)) → (step : ℕ) → List TableRow → List ℕ
windows_text labels step rows =
    pieces_text (window_piece labels step rows) (end_time rows / step + 1)

-- the statistics of a table, of all its rows or by windows; their step is in ps
abbrev pub stats_text : TableOf → Option ℕ → List ℕ
stats_text table None = group_text table.labels table.rows
stats_text table (Some step) = windows_text table.labels (step * femtoseconds) table.rows
