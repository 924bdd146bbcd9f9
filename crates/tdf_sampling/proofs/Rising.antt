-- Times of rows rise, and each row has its cells.
use Rattle.std.proofs.Common.{◌≡◌, ℕ, zero, suc, ◌+◌, ◌-◌, ◌<◌, ◌≤◌, List, [], ◌∷◌, ◌++◌, length, get_or, refl, arith, ◌∙◌, sym, ap, subst, Some, None}
use Rattle.std.specs.List.{AllByRecursion}
use Rattle.std.specs.Prelude.{unwrap_or}
use Rattle.tdf_sampling.specs.Choice.{end_time}
use Rattle.tdf_sampling.specs.machine.Choosing.{HasBegun}
use Rattle.tdf_sampling.specs.machine.Windows.{AreRising, rows_of}
use Rattle.tdf_tables.specs.Rows.{row_of}
use Rattle.tdf_tables.specs.Tables.{AreRows, FollowsTime, IsRow, MoreRows, NoRows, TableRow, last_time}
use Rattle.tdf_tables.specs.declared.table.Row.{Row}

-- ---- lists

pub all_append : {A : Type 0} → (P : A → Type 0) (xs ys : List A) → AllByRecursion P xs → AllByRecursion P ys → AllByRecursion P (xs ++ ys)
all_append P [] ys g h = h
all_append P (x ∷ xs) ys g h = (g.0, all_append P xs ys g.1 h)

pub all_front : {A : Type 0} → (P : A → Type 0) (xs ys : List A) → AllByRecursion P (xs ++ ys) → AllByRecursion P xs
all_front P [] ys h = tt
all_front P (x ∷ xs) ys h = (h.0, all_front P xs ys h.1)

pub all_back : {A : Type 0} → (P : A → Type 0) (xs ys : List A) → AllByRecursion P (xs ++ ys) → AllByRecursion P ys
all_back P [] ys h = h
all_back P (x ∷ xs) ys h = all_back P xs ys h.1

pub all_then : {A : Type 0} → (P Q : A → Type 0) (xs : List A) → ((x : A) → P x → Q x) → AllByRecursion P xs → AllByRecursion Q xs
all_then P Q [] f h = tt
all_then P Q (x ∷ xs) f h = (f x h.0, all_then P Q xs f h.1)

pub all_at : (P : TableRow → Type 0) (rows : List Row) (i : ℕ) (d : Row) → AllByRecursion P (rows_of rows) → i < length rows → P (row_of (get_or rows i d))
all_at P [] i d h less = absurd (omega arith)
all_at P (r ∷ rs) zero d h less = h.0
all_at P (r ∷ rs) (suc i) d h less = all_at P rs i d h.1 (omega arith)

-- ---- rows

pub each_row : (columns : ℕ) (rows : List TableRow) → AreRows columns rows → AllByRecursion (IsRow columns) rows
each_row columns rows NoRows = tt
each_row columns rows (MoreRows {rows = xs} before row is next) = all_append (IsRow columns) xs (row ∷ []) (each_row columns xs before) (is, tt)

pub last_more : (rows : List TableRow) (row : TableRow) → last_time (rows ++ row ∷ []) ≡ Some row.time
unfolding last_time
last_more [] row = refl
last_more (r ∷ []) row = refl
last_more (r ∷ (s ∷ rs)) row = last_more (s ∷ rs) row

pub no_last : last_time [] ≡ None
unfolding last_time
no_last = refl

rising_push : (least : ℕ) (rows : List TableRow) (row : TableRow) → AreRising least rows → (rows ≡ [] → least ≤ row.time) → ((t : ℕ) → last_time rows ≡ Some t → t < row.time)
    → AreRising least (rows ++ row ∷ [])
unfolding AreRising last_time
rising_push least [] row h first next = (first refl, tt)
rising_push least (r ∷ []) row h first next = (h.0, (let less = next r.time refl in omega arith, tt))
rising_push least (r ∷ (s ∷ rs)) row h first next = (h.0, rising_push (r.time + 1) (s ∷ rs) row h.1 (λ none. absurd (let f : (s ∷ rs) ≡ [] = none in cc)) next)

rising_none : (least : ℕ) → AreRising least []
unfolding AreRising
rising_none least = tt

pub rising : (columns : ℕ) (rows : List TableRow) → AreRows columns rows → AreRising 0 rows
rising columns rows NoRows = rising_none 0
rising columns rows (MoreRows {rows = xs} before row is next) =
    rising_push 0 xs row (rising columns xs before) (λ none. omega arith) (λ t last. subst (λ o. FollowsTime o row.time) last next)

begun_by : (rows : List TableRow) (row : TableRow) → (0 < length rows → HasBegun 0 rows) → FollowsTime (last_time rows) row.time → HasBegun 0 (rows ++ row ∷ [])
begun_by [] row before next = let first : row.time ≡ 0 = subst (λ o. FollowsTime o row.time) no_last next in omega arith
begun_by (r ∷ rs) row before next = before (omega arith)

-- the first row is at 0
pub begun : (columns : ℕ) (rows : List TableRow) → AreRows columns rows → 0 < length rows → HasBegun 0 rows
begun columns rows NoRows some = absurd (omega arith)
begun columns rows (MoreRows {rows = xs} before row is next) some = begun_by xs row (begun columns xs before) next

pub rising_back : (least : ℕ) (xs ys : List TableRow) → AreRising least (xs ++ ys) → (from : ℕ) × AreRising from ys
unfolding AreRising
rising_back least [] ys h = (least, h)
rising_back least (x ∷ xs) ys h = rising_back (x.time + 1) xs ys h.1

-- no row is earlier than the least time
pub not_before : (least from : ℕ) (rows : List TableRow) → AreRising from rows → least ≤ from → AllByRecursion (λ row. least ≤ row.time) rows
unfolding AreRising
not_before least from [] h low = tt
not_before least from (r ∷ rs) h low = let here : from ≤ r.time = h.0 in (omega arith, not_before least (r.time + 1) rs h.1 (omega arith))

-- nor than the first
pub first_least : (from : ℕ) (row : TableRow) (rows : List TableRow) → AreRising from (row ∷ rows) → AllByRecursion (λ r. row.time ≤ r.time) (row ∷ rows)
unfolding AreRising
first_least from row rows h = (omega arith, not_before row.time (row.time + 1) rows h.1 (omega arith))

pub rest_later : (from : ℕ) (row : TableRow) (rows : List TableRow) → AreRising from (row ∷ rows) → AreRising (row.time + 1) rows
unfolding AreRising
rest_later from row rows h = h.1

-- ---- the last time

pub last_some : (row : TableRow) (rows : List TableRow) → (t : ℕ) × (last_time (row ∷ rows) ≡ Some t)
unfolding last_time
last_some row [] = (row.time, refl)
last_some row (r ∷ rs) = last_some r rs

pub upto_last : (from : ℕ) (rows : List TableRow) (t : ℕ) → AreRising from rows → last_time rows ≡ Some t → AllByRecursion (λ row. row.time ≤ t) rows
unfolding AreRising last_time
upto_last from [] t h last = tt
upto_last from (r ∷ []) t h last = let same : r.time ≡ t = (let f : Some r.time ≡ Some t = last in cc) in (omega arith, tt)
upto_last from (r ∷ (s ∷ rs)) t h last =
    let more = upto_last (r.time + 1) (s ∷ rs) t h.1 last in
    let next : r.time + 1 ≤ s.time = h.1.0 in
    let high : s.time ≤ t = more.0 in
    (omega arith, more)

-- each row is at or before the end
pub upto_end : (from : ℕ) (rows : List TableRow) → AreRising from rows → AllByRecursion (λ row. row.time ≤ end_time rows) rows
upto_end from [] h = tt
upto_end from (r ∷ rs) h =
    let last = last_some r rs in
    let e : end_time (r ∷ rs) ≡ last.0 = ap (λ o. unwrap_or o 0) last.1 in
    subst (λ n. AllByRecursion (λ row. row.time ≤ n) (r ∷ rs)) (sym e) (upto_last from (r ∷ rs) last.0 h last.1)

last_at : (rows : List Row) (d : Row) → 0 < length rows → last_time (rows_of rows) ≡ Some (get_or rows (length rows - 1) d).time
unfolding last_time
last_at [] d some = absurd (omega arith)
last_at (r ∷ []) d some = refl
last_at (r ∷ (s ∷ rs)) d some =
    let f : suc (length rs) - 1 ≡ length rs = omega arith in
    let g : suc (suc (length rs)) - 1 ≡ suc (length rs) = omega arith in
    last_at (s ∷ rs) d (omega arith) ∙ rw (f, g) refl

pub end_at : (rows : List Row) (d : Row) → 0 < length rows → (get_or rows (length rows - 1) d).time ≡ end_time (rows_of rows)
end_at rows d some = sym (ap (λ o. unwrap_or o 0) (last_at rows d some))

-- the end is the time of a row
all_last : (P : ℕ → Type 0) (rows : List TableRow) (t : ℕ) → AllByRecursion (λ row. P row.time) rows → last_time rows ≡ Some t → P t
unfolding last_time
all_last P [] t h last = absurd (let f : None ≡ Some t = last in cc)
all_last P (r ∷ []) t h last = let same : r.time ≡ t = (let f : Some r.time ≡ Some t = last in cc) in subst P same h.0
all_last P (r ∷ (s ∷ rs)) t h last = all_last P (s ∷ rs) t h.1 last

pub all_end : (P : ℕ → Type 0) (rows : List TableRow) → 0 < length rows → AllByRecursion (λ row. P row.time) rows → P (end_time rows)
all_end P [] some h = absurd (omega arith)
all_end P (r ∷ rs) some h =
    let last = last_some r rs in
    let e : end_time (r ∷ rs) ≡ last.0 = ap (λ o. unwrap_or o 0) last.1 in
    subst P (sym e) (all_last P (r ∷ rs) last.0 h last.1)
