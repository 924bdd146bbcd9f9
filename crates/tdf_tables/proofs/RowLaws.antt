-- Rows are read exactly.
use Rattle.std.proofs.Common.{◌≡◌, ℕ, ◌<◌, true, false, nat_eq, nat_lt, List, [], ◌∷◌, ◌++◌, refl, arith, ◌∙◌, sym, ap, subst, Some, None, Option, drop, append-nil, append_assoc}
use Rattle.std.proofs.lemmas.Bool.Decides.{nat_tests}
use Rattle.std.proofs.lemmas.Grind.{flat_map-append}
use Rattle.std.proofs.lemmas.List.{take-append-drop}
use Rattle.std.proofs.lemmas.List.Folds.{list_any-append}
use Rattle.std.specs.List.{flat_map, list_any, list_all, before_first, position_or_len}
use Rattle.tdf_base.specs.declared.resolution.Resolution.TheVariants.{Fs}
use Rattle.tdf_fixed.proofs.Api.{time_one}
use Rattle.tdf_fixed.specs.Decimal.{seconds_text_at}
use Rattle.tdf_tables.proofs.CellWords.{cells_sound, cells_told}
use Rattle.tdf_tables.proofs.LineLaws.{append_cancel, cut_once, ends_there}
use Rattle.tdf_tables.proofs.Marks.{cells_marked, is_mark, mark_no_end, mark_no_space, none_of_marks, plain_marks, spaced_no_end}
use Rattle.tdf_tables.proofs.TimeLaws.{time_plain}
use Rattle.tdf_tables.proofs.Words.{word_first, word_rest}
use Rattle.tdf_tables.specs.Tables.{TableRow, FollowsTime, IsRow, last_time, latest, table_row_text, table_rows_text}
use Rattle.tdf_tables.specs.Words.{is_blank, spaced, words_of}
use Rattle.tdf_tables.specs.machine.Scan.{are_cells, is_line_end, is_next}

-- ---- what stands before a line's end

abbrev pub line_text : TableRow → List ℕ
line_text row = seconds_text_at Fs row.time ++ spaced row.cells

seconds_marks : (t : ℕ) → t < latest → list_all is_mark (seconds_text_at Fs t) ≡ true
seconds_marks t small = plain_marks (seconds_text_at Fs t) (time_plain t small)

pub no_end : (columns : ℕ) (row : TableRow) → IsRow columns row → list_any is_line_end (line_text row) ≡ false
no_end columns row h =
    let here : list_any is_line_end (seconds_text_at Fs row.time) ≡ false = none_of_marks is_line_end (seconds_text_at Fs row.time) mark_no_end (seconds_marks row.time h.early) in
    let more = spaced_no_end row.cells (cells_marked row.cells h.cells) in
    list_any-append is_line_end (seconds_text_at Fs row.time) (spaced row.cells) ∙ rw (here, more) refl

pub row_line : (row : TableRow) → table_row_text row ≡ line_text row ++ (10 ∷ [])
row_line row = sym (append_assoc (seconds_text_at Fs row.time) (spaced row.cells) (10 ∷ []))

-- ---- one row

no_space_in : (t : ℕ) → t < latest → list_any is_blank (seconds_text_at Fs t) ≡ false
no_space_in t small = none_of_marks is_blank (seconds_text_at Fs t) mark_no_space (seconds_marks t small)

-- what is told of a line that is a row
pub record Told (columns : ℕ) (line : List ℕ) (row : TableRow) : Type 0 where
  pub time : before_first is_blank line ≡ seconds_text_at Fs row.time
  pub rest : drop (position_or_len is_blank line) line ≡ spaced row.cells
  pub cells : are_cells columns (drop (position_or_len is_blank line) line) ≡ true

pub row_told : (columns : ℕ) (line : List ℕ) (row : TableRow) → IsRow columns row → line ≡ line_text row → Told columns line row
row_told columns line row h e =
    let none = no_space_in row.time h.early in
    let first : before_first is_blank line ≡ seconds_text_at Fs row.time = ap (before_first is_blank) e ∙ word_first (seconds_text_at Fs row.time) row.cells none in
    let rest : drop (position_or_len is_blank line) line ≡ spaced row.cells = ap (λ l. drop (position_or_len is_blank l) l) e ∙ word_rest (seconds_text_at Fs row.time) row.cells none in
    record {
      time = first;
      rest = rest;
      cells = ap (are_cells columns) rest ∙ ap (λ n. are_cells n (spaced row.cells)) (sym h.many) ∙ cells_told row.cells h.cells;
    }

-- a line with its end is a row's text only where the line is the row's
pub line_of_row : (line : List ℕ) (row : TableRow) → line ++ (10 ∷ []) ≡ table_row_text row → line ≡ line_text row
line_of_row line row e = append_cancel line (line_text row) (e ∙ row_line row)

-- cells that are told, with a time, are a row
pub row_is : (columns : ℕ) (cells : List ℕ) (t : ℕ) → t < latest → are_cells columns cells ≡ true
    → IsRow columns (record { time = t; cells = words_of cells })
row_is columns cells t small h =
    let of = cells_sound columns cells h in
    record { early = small; many = of.many; cells = of.cells }

pub row_joined : (columns : ℕ) (line word cells : List ℕ) (t : ℕ) → word ≡ before_first is_blank line → cells ≡ drop (position_or_len is_blank line) line
    → word ≡ seconds_text_at Fs t → are_cells columns cells ≡ true
    → line ++ (10 ∷ []) ≡ table_row_text (record { time = t; cells = words_of cells })
row_joined columns line word cells t a b e h =
    let of = cells_sound columns cells h in
    let joined : line ≡ word ++ cells = sym (take-append-drop (position_or_len is_blank line) line) ∙ ap (λ x. x ++ drop (position_or_len is_blank line) line) (sym a) ∙ ap (λ x. word ++ x) (sym b) in
    let parts : word ++ cells ≡ seconds_text_at Fs t ++ spaced (words_of cells) = ap (λ x. x ++ cells) e ∙ ap (λ x. seconds_text_at Fs t ++ x) of.is in
    ap (λ x. x ++ (10 ∷ [])) (joined ∙ parts) ∙ append_assoc (seconds_text_at Fs t) (spaced (words_of cells)) (10 ∷ [])

pub not_cells : (columns : ℕ) (line cells : List ℕ) (row : TableRow) → IsRow columns row → line ++ (10 ∷ []) ≡ table_row_text row
    → cells ≡ drop (position_or_len is_blank line) line → are_cells columns cells ≡ false → ⊥
not_cells columns line cells row h e rest no_cells =
    let told = row_told columns line row h (line_of_row line row e) in
    let yes_it_is : are_cells columns cells ≡ true = ap (are_cells columns) rest ∙ told.cells in
    let apart : true ≡ false = sym yes_it_is ∙ no_cells in
    cc

pub first_is : (columns : ℕ) (line word : List ℕ) (row : TableRow) → IsRow columns row → line ++ (10 ∷ []) ≡ table_row_text row
    → word ≡ before_first is_blank line → word ≡ seconds_text_at Fs row.time
first_is columns line word row h e is = is ∙ (row_told columns line row h (line_of_row line row e)).time

-- two rows of one text have one time
pub one_time : (columns : ℕ) (a b : TableRow) → IsRow columns a → IsRow columns b → line_text a ≡ line_text b → a.time ≡ b.time
one_time columns a b g h e =
    let x = row_told columns (line_text a) a g refl in
    let y = row_told columns (line_text a) b h e in
    time_one Fs a.time b.time (omega (arith, g.early)) (omega (arith, h.early)) (sym x.time ∙ y.time)

-- ---- the next row

-- a text that a row begins is cut after it
pub record CutAt (line rest : List ℕ) (row : TableRow) (more : List ℕ) : Type 0 where
  pub line_is : line ≡ line_text row
  pub rest_is : rest ≡ more

pub cut_at : (columns : ℕ) (text line rest : List ℕ) (row : TableRow) (more : List ℕ) → text ≡ line ++ (10 ∷ rest) → list_any is_line_end line ≡ false
    → IsRow columns row → text ≡ table_row_text row ++ more → CutAt line rest row more
cut_at columns text line rest row more is none h e =
    let whole : table_row_text row ++ more ≡ line_text row ++ (10 ∷ more) =
    ap (λ x. x ++ more) (row_line row) ∙ append_assoc (line_text row) (10 ∷ []) more in
    let both = cut_once line rest (line_text row) more none (no_end columns row h) (sym is ∙ e ∙ whole) in
    record { line_is = both.0; rest_is = both.1 }

pub none_without_end : (columns : ℕ) (text : List ℕ) (row : TableRow) (more : List ℕ) → list_any is_line_end text ≡ false → text ≡ table_row_text row ++ more → ⊥
none_without_end columns text row more none e =
    let whole : table_row_text row ++ more ≡ line_text row ++ (10 ∷ more) =
    ap (λ x. x ++ more) (row_line row) ∙ append_assoc (line_text row) (10 ∷ []) more in
    let there : list_any is_line_end text ≡ true = ap (list_any is_line_end) (e ∙ whole) ∙ ends_there (line_text row) more in
    let apart : true ≡ false = sym there ∙ none in
    cc

pub next_by : (before : Option ℕ) (time : ℕ) → is_next before time ≡ false → FollowsTime before time → ⊥
next_by None time h e = let f : nat_eq time 0 ≡ true = grind (arith, nat_tests) in let apart : true ≡ false = sym f ∙ h in cc
next_by (Some b) time h e = let f : nat_lt b time ≡ true = grind (arith, nat_tests) in let apart : true ≡ false = sym f ∙ h in cc

-- the row that is read has another time than a next one has
pub not_next : (columns : ℕ) (text line rest : List ℕ) (mine row : TableRow) (more : List ℕ) (before : Option ℕ)
    → text ≡ line ++ (10 ∷ rest) → list_any is_line_end line ≡ false → IsRow columns mine → line ++ (10 ∷ []) ≡ table_row_text mine
    → is_next before mine.time ≡ false → IsRow columns row → FollowsTime before row.time → text ≡ table_row_text row ++ more → ⊥
not_next columns text line rest mine row more before is none g e no_next h next whole =
    let cut = cut_at columns text line rest row more is none h whole in
    let same : line_text mine ≡ line_text row = sym (line_of_row line mine e) ∙ cut.line_is in
    let time = one_time columns mine row g h same in
    next_by before mine.time no_next (subst (FollowsTime before) (sym time) next)

pub not_row : (columns : ℕ) (text line rest : List ℕ) (row : TableRow) (more : List ℕ)
    → text ≡ line ++ (10 ∷ rest) → list_any is_line_end line ≡ false → IsRow columns row → text ≡ table_row_text row ++ more
    → line ++ (10 ∷ []) ≡ table_row_text row
not_row columns text line rest row more is none h whole =
    let cut = cut_at columns text line rest row more is none h whole in
    ap (λ x. x ++ (10 ∷ [])) cut.line_is ∙ sym (row_line row)

-- a row and its end, and what comes after it
pub row_joins : (text line rest : List ℕ) (row : TableRow) → text ≡ line ++ (10 ∷ rest) → line ++ (10 ∷ []) ≡ table_row_text row → text ≡ table_row_text row ++ rest
row_joins text line rest row is e = is ∙ sym (append_assoc line (10 ∷ []) rest) ∙ ap (λ x. x ++ rest) e

-- ---- all rows

pub last_more : (rows : List TableRow) (row : TableRow) → last_time (rows ++ row ∷ []) ≡ Some row.time
unfolding last_time
last_more [] row = refl
last_more (r ∷ []) row = refl
last_more (r ∷ (s ∷ rs)) row = last_more (s ∷ rs) row

pub rows_more : (rows : List TableRow) (row : TableRow) → table_rows_text (rows ++ row ∷ []) ≡ table_rows_text rows ++ table_row_text row
unfolding table_rows_text
rows_more rows row = flat_map-append table_row_text rows (row ∷ []) ∙ ap (λ x. flat_map table_row_text rows ++ x) (append-nil (table_row_text row))

pub none_yet : (rows : List TableRow) → last_time rows ≡ None → rows ≡ []
unfolding last_time
none_yet [] h = refl
none_yet (r ∷ []) h = absurd (cc)
none_yet (r ∷ (s ∷ rs)) h = absurd (let f = none_yet (s ∷ rs) h in cc)
