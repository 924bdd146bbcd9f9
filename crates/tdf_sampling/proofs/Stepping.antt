-- Rows at the multiples of a step.
use Rattle.std.proofs.Common.{◌≡◌, ℕ, zero, suc, ◌+◌, ◌-◌, ◌*◌, ◌/◌, ◌<◌, ◌≤◌, Bool, true, false, nat_le, List, [], ◌∷◌, ◌++◌, length, take, drop, get_or, refl, arith, ◌∙◌, sym, ap, subst, Option, Some, None, append_assoc, length-append}
use Rattle.std.proofs.Math.Nat.{le-div_iff_mul-le}
use Rattle.std.proofs.lemmas.Bool.{le-leb, leb-false, leb-true, lt-leb}
use Rattle.std.proofs.lemmas.List.{drop-map, map_push, take_rest}
use Rattle.std.proofs.lemmas.List.Elements.{filter-append}
use Rattle.std.proofs.lemmas.List.FromFn.{map-range_with_len_more}
use Rattle.std.specs.List.{AllByRecursion, last_or, prefix_len}
use Rattle.std.specs.Prelude.{filter}
use Rattle.tdf_sampling.proofs.Rising.{all_append, all_end, all_then, first_least, last_more, no_last, rest_later, rising_back}
use Rattle.tdf_sampling.proofs.WindowLaws.{filter_none}
use Rattle.tdf_sampling.specs.Choice.{cells_at, cells_of_row, end_time, every, row_at, rows_upto}
use Rattle.tdf_sampling.specs.machine.Choosing.{HasBegun, IsLeft, every_upto, passed_upto, rows_from}
use Rattle.tdf_sampling.specs.machine.Windows.{AreRising, rows_of}
use Rattle.tdf_tables.specs.Rows.{row_of}
use Rattle.tdf_tables.specs.Words.{words_of}
use Rattle.tdf_tables.specs.Tables.{AreRows, FollowsTime, IsRow, MoreRows, NoRows, TableRow, last_time, latest}
use Rattle.tdf_tables.specs.declared.table.Row.{Row}

abbrev is_upto : ℕ → TableRow → Bool
is_upto time row = nat_le row.time time

-- ---- the code's rows

passed_by : (r : Row) (rs : List Row) (time : ℕ) (b : Bool) → nat_le r.time time ≡ b → passed_upto time rs ≡ prefix_len (is_upto time) (rows_of rs) → passed_upto time (r ∷ rs) ≡ prefix_len (is_upto time) (rows_of (r ∷ rs))
passed_by r rs time true e more = rw e (ap (λ n. 1 + n) more)
passed_by r rs time false e more = rw e refl

passed : (rows : List Row) (time : ℕ) → passed_upto time rows ≡ prefix_len (is_upto time) (rows_of rows)
passed [] time = refl
passed (r ∷ rs) time = passed_by r rs time (nat_le r.time time) refl (passed rs time)

left_by : (rows : List Row) (time n : ℕ) → 0 < length rows → n ≡ passed_upto time (drop 1 rows) → rows_of (drop n rows) ≡ rows_from time (rows_of rows)
left_by [] time n some e = absurd (omega arith)
left_by (r ∷ rs) time n some e = sym (drop-map row_of n (r ∷ rs)) ∙ ap (λ k. drop k (rows_of (r ∷ rs))) (e ∙ passed rs time)

pub left_of : (rows : List Row) (time n : ℕ) → 0 < length rows → n ≡ passed_upto time (take (length rows - 1) (drop 1 rows)) → rows_of (take (length rows - n) (drop n rows)) ≡ rows_from time (rows_of rows)
left_of rows time n some e = ap rows_of (take_rest rows n) ∙ left_by rows time n some (e ∙ ap (passed_upto time) (take_rest rows 1))

-- ---- the last row at or before a time

abbrev pub first_cells : List TableRow → List (List ℕ)
first_cells [] = []
first_cells (row ∷ rows) = row.cells

-- these are left at a time, and the first of them has its cells
pub record IsAt (rows : List TableRow) (time : ℕ) (rest : List TableRow) : Type 0 where
  pub left : IsLeft rows time rest
  pub cells : cells_at rows time ≡ first_cells rest

upto_all : (time : ℕ) (xs : List TableRow) → AllByRecursion (λ row. row.time ≤ time) xs → filter (is_upto time) xs ≡ xs
upto_all time [] h = refl
upto_all time (x ∷ xs) h = rw (le-leb x.time time h.0) (ap (λ l. x ∷ l) (upto_all time xs h.1))

last_of : (o : Option TableRow) (xs : List TableRow) (row : TableRow) → last_or o (xs ++ row ∷ []) ≡ Some row
last_of o [] row = refl
last_of o (x ∷ xs) row = last_of (Some x) xs row

cells_are : (rows front : List TableRow) (row : TableRow) (more : List TableRow) (time : ℕ) → rows ≡ front ++ (row ∷ more) → AllByRecursion (λ r. r.time ≤ time) front
    → row.time ≤ time → filter (is_upto time) more ≡ [] → cells_at rows time ≡ row.cells
unfolding cells_at
cells_are rows front row more time whole before here none =
    let one : filter (is_upto time) (row ∷ more) ≡ row ∷ [] = rw (le-leb row.time time here) (ap (λ l. row ∷ l) none) in
    let all : rows_upto rows time ≡ front ++ (row ∷ []) =
    ap (filter (is_upto time)) whole ∙ filter-append (is_upto time) front (row ∷ more) ∙ ap (λ l. l ++ filter (is_upto time) (row ∷ more)) (upto_all time front before) ∙ ap (λ l. front ++ l) one in
    ap (λ l. cells_of_row (last_or None l)) all ∙ ap cells_of_row (last_of None front row)

later_none : (time from : ℕ) (x : TableRow) (xs : List TableRow) → AreRising from (x ∷ xs) → time < x.time → filter (is_upto time) (x ∷ xs) ≡ []
later_none time from x xs h less = filter_none (is_upto time) (x ∷ xs)
    (all_then (λ r. x.time ≤ r.time) (λ r. is_upto time r ≡ false) (x ∷ xs) (λ r g. lt-leb r.time time (omega arith)) (first_least from x xs h))

goes_by : (rows front : List TableRow) (row x : TableRow) (xs : List TableRow) (time from : ℕ) (b : Bool) → is_upto time x ≡ b
    → (x.time ≤ time → IsAt rows time (drop (prefix_len (is_upto time) xs) (x ∷ xs)))
    → rows ≡ front ++ (row ∷ (x ∷ xs)) → AllByRecursion (λ r. r.time ≤ time) front → row.time ≤ time → AreRising from (x ∷ xs)
    → IsAt rows time (drop (prefix_len (is_upto time) (x ∷ xs)) (row ∷ (x ∷ xs)))
goes_by rows front row x xs time from true e more whole before here h =
    let f : 1 + prefix_len (is_upto time) xs ≡ suc (prefix_len (is_upto time) xs) = omega arith in
    rw (e, f) (more (leb-true x.time time e))
goes_by rows front row x xs time from false e more whole before here h = rw e (record {
  left = record { front = front; whole = whole; before = before; begun = here };
  cells = cells_are rows front row (x ∷ xs) time whole before here (later_none time from x xs h (leb-false x.time time e));
})

goes : (rows front : List TableRow) (row : TableRow) (more : List TableRow) (time from : ℕ) → rows ≡ front ++ (row ∷ more) → AllByRecursion (λ r. r.time ≤ time) front → row.time ≤ time → AreRising from more
    → IsAt rows time (drop (prefix_len (is_upto time) more) (row ∷ more))
goes rows front row [] time from whole before here h = record {
  left = record { front = front; whole = whole; before = before; begun = here };
  cells = cells_are rows front row [] time whole before here refl;
}
goes rows front row (x ∷ xs) time from whole before here h = goes_by rows front row x xs time from (is_upto time x) refl
    (λ next. goes rows (front ++ row ∷ []) x xs time (x.time + 1) (whole ∙ sym (append_assoc front (row ∷ []) (x ∷ xs)))
    (all_append (λ r. r.time ≤ time) front (row ∷ []) before (here, tt)) next (rest_later from x xs h))
    whole before here h

-- one step further
pub goes_on : (rows rest : List TableRow) (time : ℕ) → AreRising 0 rows → IsLeft rows time rest → IsAt rows time (rows_from time rest)
goes_on rows [] time h left = absurd left.begun
goes_on rows (row ∷ more) time h left =
    let rest = rising_back 0 left.front (row ∷ more) (subst (AreRising 0) left.whole h) in
    goes rows left.front row more time (row.time + 1) left.whole left.before left.begun (rest_later rest.0 row more rest.1)

-- what is left at a time is at a later one
pub left_later : (rows rest : List TableRow) (s t : ℕ) → s ≤ t → IsLeft rows s rest → IsLeft rows t rest
left_later rows [] s t less left = absurd left.begun
left_later rows (row ∷ more) s t less left = record {
  front = left.front;
  whole = left.whole;
  before = all_then (λ r. r.time ≤ s) (λ r. r.time ≤ t) left.front (λ r g. omega arith) left.before;
  begun = let b : row.time ≤ s = left.begun in omega arith;
}

pub upto_more : (step : ℕ) (rows : List TableRow) (k : ℕ) → every_upto step rows (k + 1) ≡ every_upto step rows k ++ row_at rows (k * step) ∷ []
upto_more step rows k = map-range_with_len_more (λ n. row_at rows (n * step)) 0 k k (omega arith)

pub every_is : (step : ℕ) (rows : List TableRow) (count : ℕ) → count ≡ end_time rows / step + 1 → every step rows ≡ every_upto step rows count
unfolding every
every_is step rows count e = ap (every_upto step rows) (sym e)

row_by : (a b : TableRow) → a.time ≡ b.time → a.cells ≡ b.cells → a ≡ b
row_by a b t c = let f : ◌≡◌ {A = TableRow} (record { time = a.time; cells = a.cells }) (record { time = b.time; cells = b.cells }) = rw (t, c) refl in f

-- the row of a step
pub row_is : (rows : List TableRow) (time : ℕ) (rest : List TableRow) (row : TableRow) → IsAt rows time rest → row.time ≡ time → row.cells ≡ first_cells rest → row ≡ row_at rows time
row_is rows time rest row at t c = row_by row (row_at rows time) t (c ∙ sym at.cells)

first_of : (rest : List Row) (row d : Row) → 0 < length rest → row.cells.now ≡ (get_or rest 0 d).cells.now → (row_of row).cells ≡ first_cells (rows_of rest)
first_of [] row d some e = absurd (omega arith)
first_of (r ∷ rs) row d some e = ap words_of e

-- a row more is chosen
pub steps_more : (rows : List TableRow) (rest old new : List Row) (row d : Row) (step k time : ℕ) → time ≡ k * step → rows_of old ≡ every_upto step rows k → new ≡ old ++ row ∷ []
    → IsAt rows time (rows_of rest) → row.time ≡ time → 0 < length rest → row.cells.now ≡ (get_or rest 0 d).cells.now → rows_of new ≡ every_upto step rows (k + 1)
steps_more rows rest old new row d step k time e before more at t some cells =
    let is : row_of row ≡ row_at rows time = row_is rows time (rows_of rest) (row_of row) at t (first_of rest row d some cells) in
    ap rows_of more ∙ map_push row_of old row ∙ ap (λ l. l ++ row_of row ∷ []) before ∙ ap (λ r. every_upto step rows k ++ r ∷ []) (is ∙ ap (row_at rows) e) ∙ sym (upto_more step rows k)

-- ---- they are rows of a table

abbrev IsRowOf : (columns : ℕ) → Option TableRow → Type 0
IsRowOf columns None = ⊥
IsRowOf columns (Some row) = IsRow columns row

last_row : (columns : ℕ) (o : Option TableRow) (xs : List TableRow) → IsRowOf columns o → AllByRecursion (IsRow columns) xs → IsRowOf columns (last_or o xs)
last_row columns o [] h all = h
last_row columns o (x ∷ xs) h all = last_row columns (Some x) xs all.0 all.1

filter_by : (columns : ℕ) (p : TableRow → Bool) (x : TableRow) (xs : List TableRow) (b : Bool) → p x ≡ b → IsRow columns x → AllByRecursion (IsRow columns) (filter p xs) → AllByRecursion (IsRow columns) (filter p (x ∷ xs))
filter_by columns p x xs true e h more = rw e (h, more)
filter_by columns p x xs false e h more = rw e more

filter_rows : (columns : ℕ) (p : TableRow → Bool) (xs : List TableRow) → AllByRecursion (IsRow columns) xs → AllByRecursion (IsRow columns) (filter p xs)
filter_rows columns p [] all = tt
filter_rows columns p (x ∷ xs) all = filter_by columns p x xs (p x) refl all.0 (filter_rows columns p xs all.1)

shown_row : (columns : ℕ) (rows : List TableRow) (time : ℕ) → AllByRecursion (IsRow columns) rows → HasBegun time rows → IsRowOf columns (last_or None (rows_upto rows time))
shown_row columns [] time all h = absurd h
shown_row columns (r ∷ rs) time all h = rw (le-leb r.time time h) (last_row columns (Some r) (filter (is_upto time) rs) all.0 (filter_rows columns (is_upto time) rs all.1))

row_of_cells : (columns time : ℕ) (o : Option TableRow) → time < latest → IsRowOf columns o → IsRow columns (record { time = time; cells = cells_of_row o })
row_of_cells columns time None less h = absurd h
row_of_cells columns time (Some row) less h = record { early = less; many = h.many; cells = h.cells }

step_row : (columns : ℕ) (rows : List TableRow) (time : ℕ) → AllByRecursion (IsRow columns) rows → HasBegun time rows → time < latest → IsRow columns (row_at rows time)
unfolding cells_at
step_row columns rows time all h less = row_of_cells columns time (last_or None (rows_upto rows time)) less (shown_row columns rows time all h)

begun_later : (rows : List TableRow) (time : ℕ) → HasBegun 0 rows → HasBegun time rows
begun_later [] time h = h
begun_later (r ∷ rs) time h = omega arith

next_step : (step : ℕ) (rows : List TableRow) (n : ℕ) → 0 < step → FollowsTime (last_time (every_upto step rows n)) (n * step)
next_step step rows zero some = let none : last_time (every_upto step rows 0) ≡ None = no_last in subst (λ o. FollowsTime o (0 * step)) (sym none) (grind arith)
next_step step rows (suc m) some =
    let e : suc m ≡ m + 1 = omega arith in
    let last : last_time (every_upto step rows (suc m)) ≡ Some (m * step) =
    ap (λ n. last_time (every_upto step rows n)) e ∙ ap last_time (upto_more step rows m) ∙ last_more (every_upto step rows m) (row_at rows (m * step)) in
    let f : suc m * step ≡ m * step + step = grind arith in
    subst (λ o. FollowsTime o (suc m * step)) (sym last) (let g : m * step < suc m * step = omega arith in g)

steps_are : (columns step : ℕ) (rows : List TableRow) (n : ℕ) → 0 < step → AllByRecursion (IsRow columns) rows → HasBegun 0 rows → end_time rows < latest → n ≤ end_time rows / step + 1
    → AreRows columns (every_upto step rows n)
steps_are columns step rows zero some all h end within = NoRows
steps_are columns step rows (suc m) some all h end within =
    let e : suc m ≡ m + 1 = omega arith in
    let low : m ≤ end_time rows / step = omega arith in
    let upto : m * step ≤ end_time rows = (le-div_iff_mul-le some).0 low in
    subst (AreRows columns) (sym (ap (every_upto step rows) e ∙ upto_more step rows m))
    (MoreRows (steps_are columns step rows m some all h end (omega arith)) (row_at rows (m * step))
    (step_row columns rows (m * step) all (begun_later rows (m * step) h) (omega arith)) (next_step step rows m some))

pub every_rows : (columns step : ℕ) (rows : List TableRow) → 0 < step → AllByRecursion (IsRow columns) rows → HasBegun 0 rows → 0 < length rows → AreRows columns (every step rows)
every_rows columns step rows some all h more =
    let end : end_time rows < latest = all_end (λ t. t < latest) rows more (all_then (IsRow columns) (λ row. row.time < latest) rows (λ row r. r.early) all) in
    subst (AreRows columns) (sym (every_is step rows (end_time rows / step + 1) refl)) (steps_are columns step rows (end_time rows / step + 1) some all h end (omega arith))

pub every_some : (step : ℕ) (rows : List TableRow) → 0 < length (every step rows)
every_some step rows =
    let e = every_is step rows (end_time rows / step + 1) refl ∙ upto_more step rows (end_time rows / step) in
    omega (arith, ap length e, length-append (every_upto step rows (end_time rows / step)) (row_at rows (end_time rows / step * step) ∷ []))
