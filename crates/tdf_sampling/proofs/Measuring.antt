-- What is kept of cells gives their statistics.
use Rattle.std.proofs.Common.{◌≡◌, ◌≢◌, ℕ, zero, suc, ◌+◌, ◌-◌, ◌^◌, ◌<◌, ◌≤◌, Bool, true, false, not, nat_eq, ◌⊎◌, inl, inr, List, [], ◌∷◌, ◌++◌, length, take, drop, get_or, refl, arith, ◌∙◌, sym, ap, subst, Option, Some, None, codes, if◌then◌else◌}
use Rattle.std.proofs.lemmas.Bool.{cases_eq, false≢true}
use Rattle.std.proofs.lemmas.List.{drop_more, length-map, length-set, length-take, map_more, map_push}
use Rattle.std.proofs.lemmas.Option.{get_or_from_slice_get, slice_get-get_or, slice_get_within}
use Rattle.std.specs.Cmp.Lexicographic.{bytes_decides, pointwise}
use Rattle.std.specs.List.{AllByRecursion, fold}
use Rattle.std.specs.Prelude.{slice_get, slice_set}
use Rattle.tdf_io.specs.Bytes.{pieces_text}
use Rattle.tdf_sampling.proofs.CellOrder.{first_is}
use Rattle.tdf_sampling.proofs.Texts.{pieces_same}
use Rattle.tdf_sampling.specs.Laws.{IsKnownCell}
use Rattle.tdf_sampling.specs.Order.{is_at_most}
use Rattle.tdf_sampling.specs.Statistics.{cell_in, change_count, change_count_text, column, counts_text, greatest_cell, group_text, is_unknown, known, least_cell, limits_text, stats_line, stats_piece, unknown}
use Rattle.tdf_sampling.specs.Statistics as stats
use Rattle.tdf_sampling.specs.machine.Measures.{AreMeasured, HasRoom, HasRow, HasRowUpto, HaveRoom, Measured, change, greater, lesser, measured, measured_line, measured_piece, no_cells, with_cell, with_number, with_unknown}
use Rattle.tdf_sampling.proofs.Rising.{all_at}
use Rattle.tdf_sampling.specs.machine.Windows.{rows_of}
use Rattle.tdf_tables.specs.Cells.{IsCell}
use Rattle.tdf_tables.specs.Rows.{row_of}
use Rattle.tdf_tables.specs.Words.{words_of}
use Rattle.tdf_tables.specs.declared.table.Row.{Row}
use Rattle.tdf_tables.specs.Tables.{IsRow, TableRow}

-- ---- one column

abbrev after_cells : Measured → List (List ℕ) → Measured
after_cells m cells = fold with_cell m cells

with_by : (m : Measured) (cell : List ℕ) (b : Bool) → is_unknown cell ≡ b → with_cell m cell ≡ (if b then with_unknown m cell else with_number m cell)
with_by m cell b e = rw e refl

unknown_more : (cell : List ℕ) (cells : List (List ℕ)) (b : Bool) → is_unknown cell ≡ b → unknown (cell ∷ cells) ≡ (if b then cell ∷ unknown cells else unknown cells)
unknown_more cell cells b e = rw e refl

known_more : (cell : List ℕ) (cells : List (List ℕ)) (b : Bool) → is_unknown cell ≡ b → known (cell ∷ cells) ≡ (if not b then cell ∷ known cells else known cells)
known_more cell cells b e = rw e refl

unknown_by : (m : Measured) (cell : List ℕ) (cells : List (List ℕ)) (b : Bool) → is_unknown cell ≡ b
    → ((n : Measured) → (after_cells n cells).unknown ≡ n.unknown + length (unknown cells)) → (after_cells m (cell ∷ cells)).unknown ≡ m.unknown + length (unknown (cell ∷ cells))
unknown_by m cell cells true e more =
    let many : length (unknown (cell ∷ cells)) ≡ suc (length (unknown cells)) = ap length (unknown_more cell cells true e) in
    let sum : m.unknown + 1 + length (unknown cells) ≡ m.unknown + length (unknown (cell ∷ cells)) = omega (arith, many) in
    ap (λ n. (after_cells n cells).unknown) (with_by m cell true e) ∙ more (with_unknown m cell) ∙ sum
unknown_by m cell cells false e more =
    ap (λ n. (after_cells n cells).unknown) (with_by m cell false e) ∙ more (with_number m cell) ∙ ap (λ l. m.unknown + length l) (sym (unknown_more cell cells false e))

unknown_is : (m : Measured) (cells : List (List ℕ)) → (after_cells m cells).unknown ≡ m.unknown + length (unknown cells)
unknown_is m [] = omega arith
unknown_is m (cell ∷ cells) = unknown_by m cell cells (is_unknown cell) refl (λ n. unknown_is n cells)

abbrev changes_since : Option (List ℕ) → List (List ℕ) → ℕ
changes_since None cells = change_count cells
changes_since (Some last) cells = change_count (last ∷ cells)

since_none : (last : Option (List ℕ)) → changes_since last [] ≡ 0
unfolding change_count
since_none None = refl
since_none (Some last) = refl

since_more : (last : Option (List ℕ)) (cell : List ℕ) (cells : List (List ℕ)) → changes_since last (cell ∷ cells) ≡ change last cell + change_count (cell ∷ cells)
unfolding change_count
since_more None cell cells = omega arith
since_more (Some last) cell cells = refl

changes_by : (m : Measured) (cell : List ℕ) (cells : List (List ℕ)) (b : Bool) → is_unknown cell ≡ b
    → ((n : Measured) → (after_cells n cells).changes ≡ n.changes + changes_since n.last cells) → (after_cells m (cell ∷ cells)).changes ≡ m.changes + changes_since m.last (cell ∷ cells)
changes_by m cell cells true e more =
    let sum : m.changes + change m.last cell + change_count (cell ∷ cells) ≡ m.changes + changes_since m.last (cell ∷ cells) = omega (arith, since_more m.last cell cells) in
    ap (λ n. (after_cells n cells).changes) (with_by m cell true e) ∙ more (with_unknown m cell) ∙ sum
changes_by m cell cells false e more =
    let sum : m.changes + change m.last cell + change_count (cell ∷ cells) ≡ m.changes + changes_since m.last (cell ∷ cells) = omega (arith, since_more m.last cell cells) in
    ap (λ n. (after_cells n cells).changes) (with_by m cell false e) ∙ more (with_number m cell) ∙ sum

changes_are : (m : Measured) (cells : List (List ℕ)) → (after_cells m cells).changes ≡ m.changes + changes_since m.last cells
changes_are m [] = omega (arith, since_none m.last)
changes_are m (cell ∷ cells) = changes_by m cell cells (is_unknown cell) refl (λ n. changes_are n cells)

least_by : (m : Measured) (cell : List ℕ) (cells : List (List ℕ)) (b : Bool) → is_unknown cell ≡ b
    → ((n : Measured) → (after_cells n cells).least ≡ fold lesser n.least (known cells)) → (after_cells m (cell ∷ cells)).least ≡ fold lesser m.least (known (cell ∷ cells))
least_by m cell cells true e more =
    ap (λ n. (after_cells n cells).least) (with_by m cell true e) ∙ more (with_unknown m cell) ∙ ap (fold lesser m.least) (sym (known_more cell cells true e))
least_by m cell cells false e more =
    ap (λ n. (after_cells n cells).least) (with_by m cell false e) ∙ more (with_number m cell) ∙ ap (fold lesser m.least) (sym (known_more cell cells false e))

least_is : (m : Measured) (cells : List (List ℕ)) → (after_cells m cells).least ≡ fold lesser m.least (known cells)
least_is m [] = refl
least_is m (cell ∷ cells) = least_by m cell cells (is_unknown cell) refl (λ n. least_is n cells)

greatest_by : (m : Measured) (cell : List ℕ) (cells : List (List ℕ)) (b : Bool) → is_unknown cell ≡ b
    → ((n : Measured) → (after_cells n cells).greatest ≡ fold greater n.greatest (known cells)) → (after_cells m (cell ∷ cells)).greatest ≡ fold greater m.greatest (known (cell ∷ cells))
greatest_by m cell cells true e more =
    ap (λ n. (after_cells n cells).greatest) (with_by m cell true e) ∙ more (with_unknown m cell) ∙ ap (fold greater m.greatest) (sym (known_more cell cells true e))
greatest_by m cell cells false e more =
    ap (λ n. (after_cells n cells).greatest) (with_by m cell false e) ∙ more (with_number m cell) ∙ ap (fold greater m.greatest) (sym (known_more cell cells false e))

greatest_is : (m : Measured) (cells : List (List ℕ)) → (after_cells m cells).greatest ≡ fold greater m.greatest (known cells)
greatest_is m [] = refl
greatest_is m (cell ∷ cells) = greatest_by m cell cells (is_unknown cell) refl (λ n. greatest_is n cells)

-- ---- by value

known_by : (cell : List ℕ) (cells : List (List ℕ)) (b : Bool) → is_unknown cell ≡ b → IsCell cell → AllByRecursion IsKnownCell (known cells) → AllByRecursion IsKnownCell (known (cell ∷ cells))
known_by cell cells true e h more = rw e more
known_by cell cells false e h more =
    let other : cell ≢ codes "*" = λ same. false≢true (sym e ∙ (bytes_decides cell (codes "*")).1 same) in
    rw e (record { is = h; known = other }, more)

known_numbers : (cells : List (List ℕ)) → AllByRecursion IsCell cells → AllByRecursion IsKnownCell (known cells)
known_numbers [] h = tt
known_numbers (cell ∷ cells) h = known_by cell cells (is_unknown cell) refl h.0 (known_numbers cells h.1)

abbrev IsNumberOf : Option (List ℕ) → Type 0
IsNumberOf None = Unit {0}
IsNumberOf (Some number) = IsKnownCell number

pick_by : (a b : List ℕ) → IsKnownCell a → IsKnownCell b → (p : Bool) → IsNumberOf (if p then Some a else Some b)
pick_by a b g h true = g
pick_by a b g h false = h

lesser_same : (o : Option (List ℕ)) (x : List ℕ) → IsNumberOf o → IsKnownCell x → (lesser o x ≡ stats.lesser_cell o x) × IsNumberOf (stats.lesser_cell o x)
lesser_same None x g h = (refl, h)
lesser_same (Some m) x g h = (ap (λ p. if p then Some m else Some x) (first_is m x g h), pick_by m x g h (is_at_most m x))

greater_same : (o : Option (List ℕ)) (x : List ℕ) → IsNumberOf o → IsKnownCell x → (greater o x ≡ stats.greater_cell o x) × IsNumberOf (stats.greater_cell o x)
greater_same None x g h = (refl, h)
greater_same (Some m) x g h = (ap (λ p. if p then Some m else Some x) (first_is x m h g), pick_by m x g h (is_at_most x m))

lessers_same : (o : Option (List ℕ)) (xs : List (List ℕ)) → IsNumberOf o → AllByRecursion IsKnownCell xs → fold lesser o xs ≡ fold stats.lesser_cell o xs
lessers_same o [] g h = refl
lessers_same o (x ∷ xs) g h =
    let one = lesser_same o x g h.0 in
    ap (λ p. fold lesser p xs) one.0 ∙ lessers_same (stats.lesser_cell o x) xs one.1 h.1

greaters_same : (o : Option (List ℕ)) (xs : List (List ℕ)) → IsNumberOf o → AllByRecursion IsKnownCell xs → fold greater o xs ≡ fold stats.greater_cell o xs
greaters_same o [] g h = refl
greaters_same o (x ∷ xs) g h =
    let one = greater_same o x g h.0 in
    ap (λ p. fold greater p xs) one.0 ∙ greaters_same (stats.greater_cell o x) xs one.1 h.1

record IsMeasured (m : Measured) (cells : List (List ℕ)) : Type 0 where
  pub unknowns : m.unknown ≡ length (unknown cells)
  pub differing : m.changes ≡ change_count cells
  pub lowest : m.least ≡ least_cell (known cells)
  pub highest : m.greatest ≡ greatest_cell (known cells)

is_measured : (cells : List (List ℕ)) → AllByRecursion IsCell cells → IsMeasured (measured cells) cells
unfolding measured least_cell greatest_cell
is_measured cells h =
    let numbers = known_numbers cells h in
    record {
      unknowns = let f = unknown_is no_cells cells in omega (arith, f);
      differing = let f = changes_are no_cells cells in omega (arith, f);
      lowest = least_is no_cells cells ∙ lessers_same None (known cells) tt numbers;
      highest = greatest_is no_cells cells ∙ greaters_same None (known cells) tt numbers;
    }

-- the line of a column
line_is : (label : List ℕ) (count : ℕ) (cells : List (List ℕ)) → count ≡ length cells → AllByRecursion IsCell cells → measured_line label count (measured cells) ≡ stats_line label cells
unfolding measured_line stats_line
line_is label count cells e h =
    let m = is_measured cells h in
    rw (e, m.unknowns, m.differing, m.lowest, m.highest) refl

-- ---- one cell more

fold_push : {A B : Type 0} → (f : B → A → B) (a : B) (xs : List A) (x : A) → fold f a (xs ++ x ∷ []) ≡ f (fold f a xs) x
fold_push f a [] x = refl
fold_push f a (y ∷ ys) x = fold_push f (f a y) ys x

measured_more : (cells : List (List ℕ)) (cell : List ℕ) → measured (cells ++ cell ∷ []) ≡ with_cell (measured cells) cell
unfolding measured
measured_more cells cell = fold_push with_cell no_cells cells cell

few_by : (cell : List ℕ) (cells : List (List ℕ)) (b : Bool) → is_unknown cell ≡ b → length (unknown cells) ≤ length cells → length (unknown (cell ∷ cells)) ≤ length (cell ∷ cells)
few_by cell cells true e more = let many = ap length (unknown_more cell cells true e) in omega (arith, many)
few_by cell cells false e more = let many = ap length (unknown_more cell cells false e) in omega (arith, many)

unknown_few : (cells : List (List ℕ)) → length (unknown cells) ≤ length cells
unknown_few [] = omega arith
unknown_few (cell ∷ cells) = few_by cell cells (is_unknown cell) refl (unknown_few cells)

one_or_none : (b : Bool) → (if b then 0 else 1) ≤ 1
one_or_none true = omega arith
one_or_none false = omega arith

change_few : (last : Option (List ℕ)) (cell : List ℕ) → change last cell ≤ 1
change_few None cell = omega arith
change_few (Some last) cell = one_or_none (pointwise nat_eq last cell)

changes_few : (cells : List (List ℕ)) → change_count cells ≤ length cells
unfolding change_count
changes_few [] = omega arith
changes_few (a ∷ []) = omega arith
changes_few (a ∷ (b ∷ cells)) = omega (arith, changes_few (b ∷ cells), change_few (Some a) b)

measured_room : (cells : List (List ℕ)) → length cells < 2 ^ 64 - 1 → HasRoom (measured cells)
unfolding measured
measured_room cells less =
    let a = unknown_is no_cells cells in
    let b = changes_are no_cells cells in
    record { unknown = omega (arith, a, unknown_few cells); changes = omega (arith, b, changes_few cells) }

-- ---- columns

none_measured : measured [] ≡ no_cells
unfolding measured
none_measured = refl

pub measured_none : (n : ℕ) (columns : List Measured) → length columns ≡ n → ((k : ℕ) → k < n → slice_get columns k ≡ Some no_cells) → AreMeasured n [] columns
measured_none n columns many each = record { many = many; each = λ k less. each k less ∙ ap Some (sym none_measured) }

pub measured_row : (n : ℕ) (rows : List TableRow) (row : TableRow) (old new : List Measured) → AreMeasured n rows old → length row.cells ≡ n → HasRow old new row.cells → AreMeasured n (rows ++ row ∷ []) new
measured_row n rows row old new h many has = record {
  many = has.same ∙ h.many;
  each = λ k less.
      (let cell : slice_get row.cells k ≡ Some (cell_in k row) = slice_get-get_or row.cells k [] (omega arith) in
      let more : column k (rows ++ row ∷ []) ≡ column k rows ++ cell_in k row ∷ [] = map_push (cell_in k) rows row in
      has.each k (measured (column k rows)) (cell_in k row) (h.each k less) cell ∙ ap Some (sym (ap measured more ∙ measured_more (column k rows) (cell_in k row))));
}

pub has_room : (n : ℕ) (rows : List TableRow) (columns : List Measured) → AreMeasured n rows columns → length rows < 2 ^ 64 - 1 → HaveRoom columns
has_room n rows columns h few k m at =
    let within : k < length columns = slice_get_within columns k m at in
    let less : k < n = omega (arith, h.many) in
    let same : measured (column k rows) ≡ m = (let f : Some (measured (column k rows)) ≡ Some m = sym (h.each k less) ∙ at in cc) in
    let long : length (column k rows) ≡ length rows = length-map rows (cell_in k) in
    subst HasRoom same (measured_room (column k rows) (omega arith))

get_set : {A : Type 0} (xs : List A) (i : ℕ) (x : A) → i < length xs → slice_get (slice_set xs i x) i ≡ Some x
get_set [] i x less = absurd (omega arith)
get_set (y ∷ ys) zero x less = refl
get_set (y ∷ ys) (suc i) x less = get_set ys i x (omega arith)

get_set_other : {A : Type 0} (xs : List A) (i k : ℕ) (x : A) → (k ≡ i → ⊥) → slice_get (slice_set xs i x) k ≡ slice_get xs k
get_set_other [] i k x apart = refl
get_set_other (y ∷ ys) zero zero x apart = absurd (apart refl)
get_set_other (y ∷ ys) zero (suc k) x apart = refl
get_set_other (y ∷ ys) (suc i) zero x apart = refl
get_set_other (y ∷ ys) (suc i) (suc k) x apart = get_set_other ys i k x (λ e. apart (ap suc e))

-- one column more has its cell
pub row_more : (i : ℕ) (old now : List Measured) (cells : List (List ℕ)) (cell : List ℕ) (m : Measured) → HasRowUpto i old now cells → i < length old → slice_get now i ≡ Some m → slice_get cells i ≡ Some cell
    → HasRowUpto (i + 1) old (slice_set now i (with_cell m cell)) cells
row_more i old now cells cell m h within at word = record {
  same = length-set now i (with_cell m cell) ∙ h.same;
  done = λ k n c less a b. done_by k n c less a b (cases_eq k i);
  waiting = λ k past. get_set_other now i k (with_cell m cell) (λ e. past (omega (arith, e))) ∙ h.waiting k (λ less. past (omega arith));
}
  where
    done_by : (k : ℕ) (n : Measured) (c : List ℕ) → k < i + 1 → slice_get old k ≡ Some n → slice_get cells k ≡ Some c → (k ≡ i) ⊎ (k ≡ i → ⊥) → slice_get (slice_set now i (with_cell m cell)) k ≡ Some (with_cell n c)
    done_by k n c less a b (inr apart) = get_set_other now i k (with_cell m cell) apart ∙ h.done k n c (omega arith) a b
    done_by k n c less a b (inl same) =
        let here : slice_get old i ≡ Some m = sym (h.waiting i (λ less. omega arith)) ∙ at in
        let first : Some n ≡ Some m = sym a ∙ ap (slice_get old) same ∙ here in
        let second : Some c ≡ Some cell = sym b ∙ ap (slice_get cells) same ∙ word in
        let n_is : n ≡ m = (cc) in
        let c_is : c ≡ cell = (cc) in
        ap (slice_get (slice_set now i (with_cell m cell))) same ∙ get_set now i (with_cell m cell) (omega (arith, h.same)) ∙ ap (λ x. Some (with_cell x cell)) (sym n_is) ∙ ap (λ x. Some (with_cell n x)) (sym c_is)

pub row_all : (n : ℕ) (old now : List Measured) (cells : List (List ℕ)) → HasRowUpto n old now cells → length old ≤ n → HasRow old now cells
row_all n old now cells h all = record {
  same = h.same;
  each = λ k m cell a b. h.done k m cell (let within : k < length old = slice_get_within old k m a in omega arith) a b;
}

-- one row more is kept
pub measured_place : (n : ℕ) (rows : List Row) (i : ℕ) (d : Row) (old new : List Measured) → AreMeasured n (rows_of (take i rows)) old → AllByRecursion (IsRow n) (rows_of rows) → i < length rows
    → HasRow old new (words_of (get_or rows i d).cells.now) → AreMeasured n (rows_of (take (i + 1) rows)) new
measured_place n rows i d old new h all less has =
    subst (λ l. AreMeasured n l new) (sym (map_more row_of rows i d less))
    (measured_row n (rows_of (take i rows)) (row_of (get_or rows i d)) old new h (all_at (IsRow n) rows i d all less).many has)

pub row_many : (n m : ℕ) (rows : List Row) (i : ℕ) (d : Row) → AllByRecursion (IsRow n) (rows_of rows) → i < length rows → m ≡ n → length (words_of (get_or rows i d).cells.now) ≡ m
row_many n m rows i d all less e = (all_at (IsRow n) rows i d all less).many ∙ sym e

pub take_few : (rows : List Row) (n : ℕ) → length (rows_of (take n rows)) ≤ n
take_few rows n = omega (arith, length-map (take n rows) row_of, length-take n rows)

-- ---- lines of a group

cell_of : (cells : List (List ℕ)) (k : ℕ) → k < length cells → AllByRecursion IsCell cells → IsCell (get_or cells k [])
cell_of [] k less h = absurd (omega arith)
cell_of (c ∷ cs) zero less h = h.0
cell_of (c ∷ cs) (suc k) less h = cell_of cs k (omega arith) h.1

column_cells : (n k : ℕ) (rows : List TableRow) → k < n → AllByRecursion (IsRow n) rows → AllByRecursion IsCell (column k rows)
column_cells n k [] less h = tt
column_cells n k (r ∷ rs) less h =
    let many : length r.cells ≡ n = h.0.many in
    (cell_of r.cells k (omega arith) h.0.cells, column_cells n k rs less h.1)

pub group_is : (n count : ℕ) (labels : List (List ℕ)) (rows : List TableRow) (columns : List Measured) → length labels ≡ n → count ≡ length rows → AllByRecursion (IsRow n) rows → AreMeasured n rows columns
    → pieces_text (measured_piece labels count columns) n ≡ group_text labels rows
unfolding group_text
group_is n count labels rows columns many e rows_are h =
    pieces_same (measured_piece labels count columns) (stats_piece labels rows) n (λ k less.
    (let at : get_or columns k no_cells ≡ measured (column k rows) = get_or_from_slice_get columns k (measured (column k rows)) no_cells (h.each k less) in
    let long : count ≡ length (column k rows) = e ∙ sym (length-map rows (cell_in k)) in
    ap (measured_line (get_or labels k []) count) at ∙ line_is (get_or labels k []) count (column k rows) long (column_cells n k rows less rows_are)))
    ∙ ap (pieces_text (stats_piece labels rows)) (sym many)

-- ---- words, one after the other

pub piece_is : (words : List (List ℕ)) (count : ℕ) (columns : List Measured) (place : ℕ) (label : List ℕ) (m : Measured) → slice_get words place ≡ Some label → slice_get columns place ≡ Some m
    → measured_line label count m ≡ measured_piece words count columns place
piece_is words count columns place label m word column_is =
    ap (λ l. measured_line l count m) (sym (get_or_from_slice_get words place label [] word))
    ∙ ap (measured_line (get_or words place []) count) (sym (get_or_from_slice_get columns place m no_cells column_is))

pub word_next : (words : List (List ℕ)) (i : ℕ) (word : List ℕ) (rest : List (List ℕ)) → i < length words → drop i words ≡ word ∷ rest → (slice_get words i ≡ Some word) × (drop (i + 1) words ≡ rest)
word_next words i word rest less e =
    let cut : drop i words ≡ get_or words i [] ∷ drop (i + 1) words = drop_more words i [] less in
    let both : get_or words i [] ∷ drop (i + 1) words ≡ word ∷ rest = sym cut ∙ e in
    let first : get_or words i [] ≡ word = (cc) in
    let more : drop (i + 1) words ≡ rest = (cc) in
    (slice_get-get_or words i [] less ∙ ap Some first, more)

pub no_word : (words : List (List ℕ)) (i : ℕ) → i < length words → drop i words ≡ [] → ⊥
no_word words i less e =
    let cut : drop i words ≡ get_or words i [] ∷ drop (i + 1) words = drop_more words i [] less in
    let f : [] ≡ get_or words i [] ∷ drop (i + 1) words = sym e ∙ cut in cc
