-- A text has one list of rows, or one fault.
use Rattle.std.proofs.Common.{◌≡◌, ℕ, ◌<◌, List, [], ◌∷◌, ◌++◌, length, refl, arith, ◌∙◌, sym, ap, subst, Some, None, Option, ⊎_elim, append-nil, append_assoc, length-append}
use Rattle.std.specs.List.{AllByRecursion}
use Rattle.tdf_tables.proofs.ReadLaws.{no_text, no_last, row_some}
use Rattle.tdf_tables.proofs.CellWords.{cells_back}
use Rattle.tdf_tables.proofs.LineLaws.{cut_once}
use Rattle.tdf_tables.proofs.RowLaws.{line_text, no_end, one_time, row_line, row_told}
use Rattle.tdf_tables.specs.Faults.{HasNoRow}
use Rattle.tdf_tables.specs.Tables.{TableRow, AreRows, NoRows, MoreRows, FollowsTime, IsRow, last_time, table_row_text, table_rows_text}
use Rattle.tdf_tables.specs.Words.{spaced, words_of}
use Rattle.tdf_tables.specs.machine.Body.{HasFault, IsRowsText}

-- ---- one row

abbrev row_at : ℕ → List (List ℕ) → TableRow
row_at time cells = record { time = time; cells = cells }

row_by : (a b : TableRow) → a.time ≡ b.time → a.cells ≡ b.cells → a ≡ b
row_by a b t c = ap (λ x. row_at x a.cells) t ∙ ap (λ x. row_at b.time x) c

same_cells : (columns : ℕ) (a b : TableRow) → IsRow columns a → IsRow columns b → line_text a ≡ line_text b → a.cells ≡ b.cells
same_cells columns a b g h e =
    let x = row_told columns (line_text a) a g refl in
    let y = row_told columns (line_text a) b h e in
    let spaced_is : spaced a.cells ≡ spaced b.cells = sym x.rest ∙ y.rest in
    sym (cells_back a.cells g.cells) ∙ ap words_of spaced_is ∙ cells_back b.cells h.cells

pub row_one : (columns : ℕ) (a b : TableRow) (m n : List ℕ) → IsRow columns a → IsRow columns b → table_row_text a ++ m ≡ table_row_text b ++ n → (a ≡ b) × (m ≡ n)
row_one columns a b m n g h e =
    let left : table_row_text a ++ m ≡ line_text a ++ (10 ∷ m) = ap (λ x. x ++ m) (row_line a) ∙ append_assoc (line_text a) (10 ∷ []) m in
    let right : table_row_text b ++ n ≡ line_text b ++ (10 ∷ n) = ap (λ x. x ++ n) (row_line b) ∙ append_assoc (line_text b) (10 ∷ []) n in
    let both = cut_once (line_text a) m (line_text b) n (no_end columns a g) (no_end columns b h) (sym left ∙ e ∙ right) in
    (row_by a b (one_time columns a b g h both.0) (same_cells columns a b g h both.0), both.1)

-- ---- rows from the front

text_more : (r : TableRow) (rs : List TableRow) → table_rows_text (r ∷ rs) ≡ table_row_text r ++ table_rows_text rs
unfolding table_rows_text
text_more r rs = refl

all_rows : (columns : ℕ) (rows : List TableRow) (row : TableRow) → AllByRecursion (IsRow columns) rows → IsRow columns row → AllByRecursion (IsRow columns) (rows ++ row ∷ [])
all_rows columns [] row h r = (r, tt)
all_rows columns (x ∷ xs) row h r = (h.0, all_rows columns xs row h.1 r)

pub each_row : (columns : ℕ) (rows : List TableRow) → AreRows columns rows → AllByRecursion (IsRow columns) rows
each_row columns rows NoRows = tt
each_row columns rows (MoreRows {rows = xs} before row is next) = all_rows columns xs row (each_row columns xs before) is

some_text : (r : TableRow) (rs : List TableRow) → 0 < length (table_rows_text (r ∷ rs))
some_text r rs = omega (arith, ap length (text_more r rs), length-append (table_row_text r) (table_rows_text rs), row_some r)

pub rows_one : (columns : ℕ) (xs ys : List TableRow) → AllByRecursion (IsRow columns) xs → AllByRecursion (IsRow columns) ys → table_rows_text xs ≡ table_rows_text ys → xs ≡ ys
rows_one columns [] [] g h e = refl
rows_one columns [] (y ∷ ys) g h e = absurd (omega (arith, some_text y ys, ap length e, ap length no_text))
rows_one columns (x ∷ xs) [] g h e = absurd (omega (arith, some_text x xs, ap length e, ap length no_text))
rows_one columns (x ∷ xs) (y ∷ ys) g h e =
    let both = row_one columns x y (table_rows_text xs) (table_rows_text ys) g.0 h.0 (sym (text_more x xs) ∙ e ∙ text_more y ys) in
    let rest : xs ≡ ys = rows_one columns xs ys g.1 h.1 both.1 in
    let first : x ≡ y = both.0 in
    cc

pub one : (columns : ℕ) (text : List ℕ) (xs ys : List TableRow) → IsRowsText columns text xs → IsRowsText columns text ys → xs ≡ ys
one columns text xs ys g h = rows_one columns xs ys (each_row columns xs g.rows_are) (each_row columns ys h.rows_are) (sym g.is ∙ h.is)

-- ---- rows and their order, from the front

abbrev pub last_or : Option ℕ → List TableRow → Option ℕ
last_or before [] = before
last_or before (r ∷ rs) = last_or (Some r.time) rs

last_is : (before : Option ℕ) (r : TableRow) (rs : List TableRow) → last_time (r ∷ rs) ≡ last_or before (r ∷ rs)
unfolding last_time
last_is before r [] = refl
last_is before r (s ∷ rs) = last_is (Some r.time) s rs

pub last_all : (rows : List TableRow) → last_time rows ≡ last_or None rows
last_all [] = no_last
last_all (r ∷ rs) = last_is None r rs

abbrev pub Rising : Option ℕ → List TableRow → Type 0
Rising before [] = Unit {0}
Rising before (r ∷ rs) = FollowsTime before r.time × Rising (Some r.time) rs

rising_more : (before : Option ℕ) (rows : List TableRow) (row : TableRow) → Rising before rows → FollowsTime (last_or before rows) row.time → Rising before (rows ++ row ∷ [])
rising_more before [] row h next = (next, tt)
rising_more before (r ∷ rs) row h next = (h.0, rising_more (Some r.time) rs row h.1 next)

pub rising : (columns : ℕ) (rows : List TableRow) → AreRows columns rows → Rising None rows
rising columns rows NoRows = tt
rising columns rows (MoreRows {rows = xs} before row is next) = rising_more None xs row (rising columns xs before) (subst (λ b. FollowsTime b row.time) (last_all xs) next)

next_in : (before : Option ℕ) (zs : List TableRow) (b : TableRow) (bs : List TableRow) → Rising before (zs ++ (b ∷ bs)) → FollowsTime (last_or before zs) b.time
next_in before [] b bs h = h.0
next_in before (z ∷ zs) b bs h = next_in (Some z.time) zs b bs h.1

row_in : (columns : ℕ) (zs : List TableRow) (b : TableRow) (bs : List TableRow) → AllByRecursion (IsRow columns) (zs ++ (b ∷ bs)) → IsRow columns b
row_in columns [] b bs h = h.0
row_in columns (z ∷ zs) b bs h = row_in columns zs b bs h.1

-- ---- two fronts of one text

data Compared (xs zs : List TableRow) (more rest : List ℕ) : Type 0 where
  Fewer : (b : TableRow) → (bs : List TableRow) → xs ≡ zs ++ (b ∷ bs) → rest ≡ table_row_text b ++ (table_rows_text bs ++ more) → Compared xs zs more rest
  Same : xs ≡ zs → rest ≡ more → Compared xs zs more rest
  More : (b : TableRow) → (bs : List TableRow) → zs ≡ xs ++ (b ∷ bs) → more ≡ table_row_text b ++ (table_rows_text bs ++ rest) → Compared xs zs more rest

none_text : (t : List ℕ) → table_rows_text [] ++ t ≡ t
none_text t = ap (λ x. x ++ t) no_text

first_text : (r : TableRow) (rs : List TableRow) (t : List ℕ) → table_rows_text (r ∷ rs) ++ t ≡ table_row_text r ++ (table_rows_text rs ++ t)
first_text r rs t = ap (λ x. x ++ t) (text_more r rs) ∙ append_assoc (table_row_text r) (table_rows_text rs) t

under : (x z : TableRow) (xs zs : List TableRow) (more rest : List ℕ) → x ≡ z → Compared xs zs more rest → Compared (x ∷ xs) (z ∷ zs) more rest
under x z xs zs more rest e (Fewer b bs a c) = Fewer b bs (ap (λ l. x ∷ l) a ∙ ap (λ k. k ∷ (zs ++ (b ∷ bs))) e) c
under x z xs zs more rest e (Same a c) = Same (ap (λ l. x ∷ l) a ∙ ap (λ k. k ∷ zs) e) c
under x z xs zs more rest e (More b bs a c) = More b bs (ap (λ l. z ∷ l) a ∙ ap (λ k. k ∷ (xs ++ (b ∷ bs))) (sym e)) c

compared : (columns : ℕ) (xs zs : List TableRow) (more rest : List ℕ) → AllByRecursion (IsRow columns) xs → AllByRecursion (IsRow columns) zs
    → table_rows_text xs ++ more ≡ table_rows_text zs ++ rest → Compared xs zs more rest
compared columns [] [] more rest g h e = Same refl (sym (none_text rest) ∙ sym e ∙ none_text more)
compared columns [] (z ∷ zs) more rest g h e = More z zs refl (sym (none_text more) ∙ e ∙ first_text z zs rest)
compared columns (x ∷ xs) [] more rest g h e = Fewer x xs refl (sym (none_text rest) ∙ sym e ∙ first_text x xs more)
compared columns (x ∷ xs) (z ∷ zs) more rest g h e =
    let both = row_one columns x z (table_rows_text xs ++ more) (table_rows_text zs ++ rest) g.0 h.0 (sym (first_text x xs more) ∙ e ∙ first_text z zs rest) in
    under x z xs zs more rest both.0 (compared columns xs zs more rest g.1 h.1 both.1)

-- a row more contradicts that none comes
no_more : (columns : ℕ) (xs zs : List TableRow) (b : TableRow) (bs : List TableRow) (rest tail : List ℕ) → AreRows columns xs → xs ≡ zs ++ (b ∷ bs) → HasNoRow columns zs rest
    → rest ≡ table_row_text b ++ tail → ⊥
no_more columns xs zs b bs rest tail g e none is =
    let each = subst (AllByRecursion (IsRow columns)) e (each_row columns xs g) in
    let next = next_in None zs b bs (subst (Rising None) e (rising columns xs g)) in
    none b tail (row_in columns zs b bs each) (subst (λ o. FollowsTime o b.time) (sym (last_all zs)) next) is

ends : (text : List ℕ) (b : TableRow) (tail : List ℕ) → [] ≡ table_row_text b ++ tail → ⊥
ends text b tail e = omega (arith, ap length e, length-append (table_row_text b) tail, row_some b)

apart_by : (columns : ℕ) (text : List ℕ) (xs : List TableRow) (line : ℕ) → IsRowsText columns text xs → (h : HasFault columns text line)
    → Compared xs h.rows [] h.rest → ⊥
apart_by columns text xs line g h (Fewer b bs a c) = no_more columns xs h.rows b bs h.rest (table_rows_text bs ++ []) g.rows_are a h.none c
apart_by columns text xs line g h (Same a c) = ⊎_elim
    (λ (none : h.rows ≡ []). omega (arith, g.some, ap length (a ∙ none)))
    (λ (more : 0 < length h.rest). omega (arith, more, ap length c))
    h.goes_on
apart_by columns text xs line g h (More b bs a c) = ends text b (table_rows_text bs ++ h.rest) c

pub apart : (columns : ℕ) (text : List ℕ) (xs : List TableRow) (line : ℕ) → IsRowsText columns text xs → HasFault columns text line → ⊥
apart columns text xs line g h = apart_by columns text xs line g h
    (compared columns xs h.rows [] h.rest (each_row columns xs g.rows_are) (each_row columns h.rows h.before) (append-nil (table_rows_text xs) ∙ sym g.is ∙ h.is))

fault_by : (columns : ℕ) (text : List ℕ) (m n : ℕ) → (g : HasFault columns text m) → (h : HasFault columns text n) → Compared g.rows h.rows g.rest h.rest → m ≡ n
fault_by columns text m n g h (Fewer b bs a c) = absurd (no_more columns g.rows h.rows b bs h.rest (table_rows_text bs ++ g.rest) g.before a h.none c)
fault_by columns text m n g h (Same a c) = omega (arith, g.line_is, h.line_is, ap length a)
fault_by columns text m n g h (More b bs a c) = absurd (no_more columns h.rows g.rows b bs g.rest (table_rows_text bs ++ h.rest) h.before a g.none c)

pub fault_one : (columns : ℕ) (text : List ℕ) (m n : ℕ) → HasFault columns text m → HasFault columns text n → m ≡ n
fault_one columns text m n g h = fault_by columns text m n g h
    (compared columns g.rows h.rows g.rest h.rest (each_row columns g.rows g.before) (each_row columns h.rows h.before) (sym g.is ∙ h.is))
