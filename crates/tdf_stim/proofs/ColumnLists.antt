-- Columns that drive, one after the other: their lines, their labels, their number and their cells.
use Rattle.std.proofs.Common.{◌≡◌, ◌∙◌, ℕ, zero, suc, ◌+◌, ◌-◌, ◌<◌, ◌≤◌, List, [], ◌∷◌, ◌++◌, Option, Some, None, map, length, take, drop, get_or, append_assoc, append-nil, refl, sym, ap, arith}
use Rattle.std.proofs.lemmas.List.{drop-drop, get_or-drop, length-append, length-take-le, map_push, take_more}
use Rattle.std.specs.List.{range_with_len}
use Rattle.std.specs.Prelude.{slice_index_or}
use Rattle.tdf_lang_tree.specs.Pure.{PureStmt}
use Rattle.tdf_lang_tree.specs.declared.names.Lit.{Lit}
use Rattle.tdf_stim.specs.Driver.{bind_line, bind_lines, cell_literal, column_lines, columns_lines, literals, notify_lines, notify}
use Rattle.tdf_stim.specs.Signals.{Column, SourceOf, column_cells, column_of, columns_from}
use Rattle.tdf_stim.specs.machine.Cells.{above, first_words}
use Rattle.tdf_stim.specs.machine.Counted.{count_driving, labels_in}
use Rattle.tdf_tables.specs.Tables.{TableRow}

-- ---- one column more

columns_push : (rows : List TableRow) (place : ℕ) (sources : List (Option SourceOf)) (s : Option SourceOf)
    → columns_from rows place (sources ++ s ∷ []) ≡ columns_from rows place sources ++ column_of rows (place + length sources) s
unfolding columns_from
columns_push rows place [] s =
    let e : place + 0 ≡ place = omega arith in append-nil (column_of rows place s) ∙ ap (λ p. column_of rows p s) (sym e)
columns_push rows place (x ∷ sources) s =
    let e : place + 1 + length sources ≡ place + length (x ∷ sources) = omega arith in
    ap (λ cs. column_of rows place x ++ cs) (columns_push rows (place + 1) sources s ∙ ap (λ p. columns_from rows (place + 1) sources ++ column_of rows p s) e)
    ∙ sym (append_assoc (column_of rows place x) (columns_from rows (place + 1) sources) (column_of rows (place + length (x ∷ sources)) s))

lines_both : (j : ℕ) (cs ds : List Column) → columns_lines j (cs ++ ds) ≡ columns_lines j cs ++ columns_lines (j + length cs) ds
unfolding columns_lines
lines_both j [] ds = let e : j + 0 ≡ j = omega arith in ap (λ k. columns_lines k ds) (sym e)
lines_both j (c ∷ cs) ds =
    let e : j + 1 + length cs ≡ j + length (c ∷ cs) = omega arith in
    ap (λ l. column_lines j c ++ l) (lines_both (j + 1) cs ds ∙ ap (λ k. columns_lines (j + 1) cs ++ columns_lines k ds) e)
    ∙ sym (append_assoc (column_lines j c) (columns_lines (j + 1) cs) (columns_lines (j + length (c ∷ cs)) ds))

-- the lines of the columns so far, and of one more
pub lines_more : (rows : List TableRow) (place : ℕ) (sources : List (Option SourceOf)) (s : SourceOf) (j : ℕ)
    → place ≡ length sources → j ≡ length (columns_from rows 0 sources)
    → columns_lines 0 (columns_from rows 0 (sources ++ Some s ∷ []))
    ≡ columns_lines 0 (columns_from rows 0 sources)
    ++ column_lines j (record { label = s.label; shape = s.shape; start = s.start; cells = column_cells place rows })
unfolding columns_lines
lines_more rows place sources s j place_is j_is =
    ap (columns_lines 0) (columns_push rows 0 sources (Some s))
    ∙ lines_both 0 (columns_from rows 0 sources) (column_of rows (0 + length sources) (Some s))
    ∙ ap (λ l. columns_lines 0 (columns_from rows 0 sources) ++ l)
    (append-nil (column_lines (0 + length (columns_from rows 0 sources)) (record { label = s.label; shape = s.shape; start = s.start; cells = column_cells (0 + length sources) rows }))
    ∙ ap (λ k. column_lines k (record { label = s.label; shape = s.shape; start = s.start; cells = column_cells (0 + length sources) rows })) (let e : 0 + length (columns_from rows 0 sources) ≡ j = omega (arith, j_is) in e)
    ∙ ap (λ p. column_lines j (record { label = s.label; shape = s.shape; start = s.start; cells = column_cells p rows })) (let e : 0 + length sources ≡ place = omega (arith, place_is) in e))

pub lines_skip : (rows : List TableRow) (sources : List (Option SourceOf)) → columns_from rows 0 (sources ++ None ∷ []) ≡ columns_from rows 0 sources
lines_skip rows sources = columns_push rows 0 sources None ∙ append-nil (columns_from rows 0 sources)

pub number_more : (rows : List TableRow) (sources : List (Option SourceOf)) (s : SourceOf) → length (columns_from rows 0 (sources ++ Some s ∷ [])) ≡ length (columns_from rows 0 sources) + 1
number_more rows sources s =
    ap length (columns_push rows 0 sources (Some s)) ∙ length-append (columns_from rows 0 sources) (column_of rows (0 + length sources) (Some s))

-- ---- how many, and their labels

pub count_is : (rows : List TableRow) (place : ℕ) (sources : List (Option SourceOf)) → length (columns_from rows place sources) ≡ count_driving sources
unfolding columns_from count_driving
count_is rows place [] = refl
count_is rows place (None ∷ sources) = count_is rows (place + 1) sources
count_is rows place (Some s ∷ sources) = omega (arith, count_is rows (place + 1) sources)

pub labels_are : (rows : List TableRow) (place : ℕ) (sources : List (Option SourceOf)) → map (λ column. column.label) (columns_from rows place sources) ≡ labels_in sources
unfolding columns_from labels_in
labels_are rows place [] = refl
labels_are rows place (None ∷ sources) = labels_are rows (place + 1) sources
labels_are rows place (Some s ∷ sources) = ap (λ l. s.label ∷ l) (labels_are rows (place + 1) sources)

pub count_push_none : (sources : List (Option SourceOf)) → count_driving (sources ++ None ∷ []) ≡ count_driving sources
unfolding count_driving
count_push_none [] = refl
count_push_none (None ∷ sources) = count_push_none sources
count_push_none (Some s ∷ sources) = ap (λ n. n + 1) (count_push_none sources)

pub count_push_some : (sources : List (Option SourceOf)) (s : SourceOf) → count_driving (sources ++ Some s ∷ []) ≡ count_driving sources + 1
unfolding count_driving
count_push_some [] s = refl
count_push_some (None ∷ sources) s = count_push_some sources s
count_push_some (Some x ∷ sources) s = ap (λ n. n + 1) (count_push_some sources s)

pub count_few : (sources : List (Option SourceOf)) → count_driving sources ≤ length sources
unfolding count_driving
count_few [] = omega arith
count_few (None ∷ sources) = omega (arith, count_few sources)
count_few (Some s ∷ sources) = omega (arith, count_few sources)

pub labels_push_none : (sources : List (Option SourceOf)) → labels_in (sources ++ None ∷ []) ≡ labels_in sources
unfolding labels_in
labels_push_none [] = refl
labels_push_none (None ∷ sources) = labels_push_none sources
labels_push_none (Some s ∷ sources) = ap (λ l. s.label ∷ l) (labels_push_none sources)

pub labels_push_some : (sources : List (Option SourceOf)) (s : SourceOf) → labels_in (sources ++ Some s ∷ []) ≡ labels_in sources ++ s.label ∷ []
unfolding labels_in
labels_push_some [] s = refl
labels_push_some (None ∷ sources) s = labels_push_some sources s
labels_push_some (Some x ∷ sources) s = ap (λ l. x.label ∷ l) (labels_push_some sources s)

pub labels_count : (sources : List (Option SourceOf)) → length (labels_in sources) ≡ count_driving sources
unfolding labels_in count_driving
labels_count [] = refl
labels_count (None ∷ sources) = labels_count sources
labels_count (Some s ∷ sources) = omega (arith, labels_count sources)

-- ---- `bind` lines

pub binds_push : (name : List ℕ) (j : ℕ) (labels : List (List ℕ)) (label : List ℕ)
    → bind_lines name j (labels ++ label ∷ []) ≡ bind_lines name j labels ++ bind_line name (j + length labels) label ∷ []
unfolding bind_lines
binds_push name j [] label = let e : j + 0 ≡ j = omega arith in ap (λ k. bind_line name k label ∷ []) (sym e)
binds_push name j (x ∷ labels) label =
    let e : j + 1 + length labels ≡ j + length (x ∷ labels) = omega arith in
    ap (λ l. bind_line name j x ∷ l) (binds_push name (j + 1) labels label ∙ ap (λ k. bind_lines name (j + 1) labels ++ bind_line name k label ∷ []) e)

-- ---- cells

-- the first cells of what is left of all rows are the cells at a place
pub cells_here : (place : ℕ) (rows : List TableRow) → first_words (map (λ row. drop place row.cells) rows) ≡ column_cells place rows
cells_here place [] = refl
cells_here place (row ∷ rows) =
    let e : place + 0 ≡ place = omega arith in
    ap (λ c. c ∷ first_words (map (λ row. drop place row.cells) rows)) (get_or-drop place row.cells 0 [] ∙ ap (λ p. get_or row.cells p []) e)
    ∙ ap (λ cs. slice_index_or row.cells place [] ∷ cs) (cells_here place rows)

pub cells_after : (place : ℕ) (rows : List TableRow) → map (drop 1) (map (λ row. drop place row.cells) rows) ≡ map (λ row. drop (place + 1) row.cells) rows
cells_after place [] = refl
cells_after place (row ∷ rows) =
    ap (λ c. c ∷ map (drop 1) (map (λ row. drop place row.cells) rows)) (drop-drop 1 place row.cells)
    ∙ ap (λ cs. drop (place + 1) row.cells ∷ cs) (cells_after place rows)

pub cells_all : (rows : List TableRow) → map (λ row. row.cells) rows ≡ map (λ row. drop 0 row.cells) rows
cells_all [] = refl
cells_all (row ∷ rows) = ap (λ cs. row.cells ∷ cs) (cells_all rows)

-- ---- literals

pub literals_push : (start : Lit) (cells : List (List ℕ)) (cell : List ℕ)
    → literals start (cells ++ cell ∷ []) ≡ literals start cells ++ cell_literal (above start (literals start cells)) cell ∷ []
unfolding literals
literals_push start [] cell = refl
literals_push start (x ∷ cells) cell = ap (λ l. cell_literal start x ∷ l) (literals_push (cell_literal start x) cells cell)

pub above_push : (start : Lit) (xs : List Lit) (x : Lit) → above start (xs ++ x ∷ []) ≡ x
above_push start [] x = refl
above_push start (y ∷ xs) x = above_push y xs x

-- ---- numbers and times

pub range_push : (a n : ℕ) → range_with_len a (n + 1) ≡ range_with_len a n ++ (a + n) ∷ []
range_push a zero = let e : a ≡ a + 0 = omega arith in ap (λ k. k ∷ []) e
range_push a (suc n) =
    let e : suc n + 1 ≡ suc (n + 1) = omega arith in
    let f : a + 1 + n ≡ a + suc n = omega arith in
    ap (range_with_len a) e ∙ ap (λ l. a ∷ l) (range_push (a + 1) n ∙ ap (λ k. range_with_len (a + 1) n ++ k ∷ []) f)

pub notifies_push : (i : ℕ) (times : List ℕ) (time : ℕ) → notify_lines i (times ++ time ∷ []) ≡ notify_lines i times ++ notify (i + length times) time ∷ []
unfolding notify_lines
notifies_push i [] time = let e : i + 0 ≡ i = omega arith in ap (λ k. notify k time ∷ []) (sym e)
notifies_push i (t ∷ times) time =
    let e : i + 1 + length times ≡ i + length (t ∷ times) = omega arith in
    ap (λ l. notify i t ∷ l) (notifies_push (i + 1) times time ∙ ap (λ k. notify_lines (i + 1) times ++ notify k time ∷ []) e)

-- the next of numbered things, and the next notification
pub range_next : {A : Type 0} (f : ℕ → A) (a n : ℕ) → map f (range_with_len a n) ++ f (a + n) ∷ [] ≡ map f (range_with_len a (n + 1))
range_next f a n = sym (ap (map f) (range_push a n) ∙ map_push f (range_with_len a n) (a + n))

pub range_zero_next : {A : Type 0} (f : ℕ → A) (n : ℕ) → map f (range_with_len 0 n) ++ f n ∷ [] ≡ map f (range_with_len 0 (n + 1))
range_zero_next f n = let e : 0 + n ≡ n = omega arith in ap (λ k. map f (range_with_len 0 n) ++ f k ∷ []) (sym e) ∙ range_next f 0 n

pub notifies_next : (times : List ℕ) (i d : ℕ) (s : PureStmt) → i < length times → s ≡ notify (i + 1) (get_or times i d)
    → notify_lines 1 (take i times) ++ s ∷ [] ≡ notify_lines 1 (take (i + 1) times)
notifies_next times i d s within is =
    let long : 1 + length (take i times) ≡ i + 1 = omega (arith, length-take-le i times (omega arith)) in
    ap (λ x. notify_lines 1 (take i times) ++ x ∷ []) (is ∙ ap (λ k. notify k (get_or times i d)) (sym long))
    ∙ sym (notifies_push 1 (take i times) (get_or times i d)) ∙ ap (notify_lines 1) (sym (take_more times i d within))

-- the numbers of events so far
pub events_next : {A : Type 0} (f : ℕ → A) (number : ℕ) (before : List A) → 1 ≤ number
    → (before ++ map f (range_with_len 1 (number - 1))) ++ f number ∷ [] ≡ before ++ map f (range_with_len 1 (number + 1 - 1))
events_next f number before some =
    let here : 1 + (number - 1) ≡ number = omega arith in
    let more : number - 1 + 1 ≡ number + 1 - 1 = omega arith in
    append_assoc before (map f (range_with_len 1 (number - 1))) (f number ∷ [])
    ∙ ap (λ l. before ++ l) (ap (λ k. map f (range_with_len 1 (number - 1)) ++ f k ∷ []) (sym here) ∙ range_next f 1 (number - 1) ∙ ap (λ n. map f (range_with_len 1 n)) more)
