-- The rows of a window, and the windows before the next row.
use Rattle.std.proofs.Common.{◌≡◌, ℕ, suc, ◌+◌, ◌-◌, ◌*◌, ◌/◌, ◌<◌, ◌≤◌, Bool, true, false, nat_le, nat_lt, List, [], ◌∷◌, ◌++◌, length, take, drop, get_or, refl, arith, ◌∙◌, sym, ap, subst, ⊎_elim, append-nil, append_assoc}
use Rattle.std.proofs.Math.Nat.{le-div_iff_mul-le, mul-le-mul_right}
use Rattle.std.proofs.lemmas.Bool.{and_left, and_right, cases_lt, le-leb, le-ltb, lt-leb, lt-ltb, ltb-true, ltb-false}
use Rattle.std.proofs.lemmas.List.{drop-drop, drop-map, length-drop, length-map, length-take, map-append, take-append-drop, take-map, take_rest}
use Rattle.std.proofs.lemmas.List.Sums.{prefix_len-le-length}
use Rattle.std.proofs.lemmas.List.Elements.{filter-append}
use Rattle.std.proofs.lemmas.Nat.{div-add-mod', mod_below}
use Rattle.std.specs.List.{AllByRecursion}
use Rattle.std.specs.Prelude.{filter}
use Rattle.tdf_io.specs.Bytes.{pieces_text}
use Rattle.tdf_sampling.proofs.Rising.{all_append, all_back, all_front, all_then, each_row, first_least, rising, rising_back, upto_end}
use Rattle.tdf_sampling.proofs.Texts.{pieces_quiet}
use Rattle.tdf_sampling.specs.Choice.{end_time}
use Rattle.tdf_sampling.specs.Statistics.{group_text, is_inside, rows_within, window_line, window_piece, window_text}
use Rattle.tdf_sampling.specs.machine.Choosing.{HasBegun}
use Rattle.tdf_sampling.specs.machine.Windows.{AreRising, IsAhead, count_before, first_limit, first_text, first_window, next_window, passed_before, rows_after, rows_before, rows_of}
use Rattle.tdf_tables.specs.Rows.{row_of}
use Rattle.tdf_tables.specs.Tables.{AreRows, IsRow, TableRow}
use Rattle.tdf_tables.specs.declared.table.Row.{Row}

-- ---- the code's rows

count_by : (r : Row) (rs : List Row) (limit : ℕ) (b : Bool) → nat_lt r.time limit ≡ b → passed_before limit rs ≡ count_before limit (rows_of rs) → passed_before limit (r ∷ rs) ≡ count_before limit (rows_of (r ∷ rs))
count_by r rs limit true e more = rw e (ap (λ n. 1 + n) more)
count_by r rs limit false e more = rw e refl

pub counted : (rows : List Row) (limit : ℕ) → passed_before limit rows ≡ count_before limit (rows_of rows)
counted [] limit = refl
counted (r ∷ rs) limit = count_by r rs limit (nat_lt r.time limit) refl (counted rs limit)

first_same : (rows : List Row) (d : Row) (step : ℕ) → 0 < length rows → (get_or rows 0 d).time / step ≡ first_window step (rows_of rows)
first_same [] d step some = absurd (omega arith)
first_same (r ∷ rs) d step some = refl

-- the rows of the first window, in the code and in the definition
pub record IsFirst (rows : List Row) (step w n : ℕ) : Type 0 where
  pub window : w ≡ first_window step (rows_of rows)
  pub count : n ≡ count_before (first_limit step (rows_of rows)) (rows_of rows)
  pub group : rows_of (take n rows) ≡ rows_before (first_limit step (rows_of rows)) (rows_of rows)

pub is_first : (rows : List Row) (d : Row) (step n : ℕ) → 0 < length rows → n ≡ passed_before (((get_or rows 0 d).time / step + 1) * step) rows → IsFirst rows step ((get_or rows 0 d).time / step) n
is_first rows d step n some f =
    let window : (get_or rows 0 d).time / step ≡ first_window step (rows_of rows) = first_same rows d step some in
    let count : n ≡ count_before (first_limit step (rows_of rows)) (rows_of rows) = f ∙ counted rows (((get_or rows 0 d).time / step + 1) * step) ∙ ap (λ k. count_before ((k + 1) * step) (rows_of rows)) window in
    record {
      window = window;
      count = count;
      group = sym (take-map row_of n rows) ∙ ap (λ k. take k (rows_of rows)) count;
    }

back_of : (rows : List Row) (n m : ℕ) → n ≡ m → rows_of (drop n rows) ≡ drop m (rows_of rows)
back_of rows n m e = sym (drop-map row_of n rows) ∙ ap (λ k. drop k (rows_of rows)) e

pub first_words : (labels : List (List ℕ)) (rows : List Row) (step w n : ℕ) → IsFirst rows step w n → window_line (w * step) ++ group_text labels (rows_of (take n rows)) ≡ first_text labels step (rows_of rows)
first_words labels rows step w n h = ap (λ k. window_line (k * step) ++ group_text labels (rows_of (take n rows))) h.window ∙ ap (λ l. window_line (first_window step (rows_of rows) * step) ++ group_text labels l) h.group

pub taken_rows : (P : TableRow → Type 0) (rows : List Row) (n : ℕ) → AllByRecursion P (rows_of rows) → AllByRecursion P (rows_of (take n rows))
taken_rows P rows n h = all_front P (rows_of (take n rows)) (rows_of (drop n rows))
    (subst (AllByRecursion P) (sym (sym (map-append row_of (take n rows) (drop n rows)) ∙ ap rows_of (take-append-drop n rows))) h)

pub dropped_rows : (P : TableRow → Type 0) (rows : List Row) (n : ℕ) → AllByRecursion P (rows_of rows) → AllByRecursion P (rows_of (drop n rows))
dropped_rows P rows n h = all_back P (rows_of (take n rows)) (rows_of (drop n rows))
    (subst (AllByRecursion P) (sym (sym (map-append row_of (take n rows) (drop n rows)) ∙ ap rows_of (take-append-drop n rows))) h)

-- ---- filters

filter_all : {A : Type 0} → (p : A → Bool) (xs : List A) → AllByRecursion (λ x. p x ≡ true) xs → filter p xs ≡ xs
filter_all p [] h = refl
filter_all p (x ∷ xs) h = rw h.0 (ap (λ l. x ∷ l) (filter_all p xs h.1))

pub filter_none : {A : Type 0} → (p : A → Bool) (xs : List A) → AllByRecursion (λ x. p x ≡ false) xs → filter p xs ≡ []
filter_none p [] h = refl
filter_none p (x ∷ xs) h = rw h.0 (filter_none p xs h.1)

-- ---- before a limit, and from it on

before_step : (limit : ℕ) (r : TableRow) (rs : List TableRow) → nat_lt r.time limit ≡ true → rows_before limit (r ∷ rs) ≡ r ∷ rows_before limit rs
before_step limit r rs e = let f : 1 + count_before limit rs ≡ suc (count_before limit rs) = omega arith in rw (e, f) refl

before_stop : (limit : ℕ) (r : TableRow) (rs : List TableRow) → nat_lt r.time limit ≡ false → rows_before limit (r ∷ rs) ≡ []
before_stop limit r rs e = rw e refl

after_step : (limit : ℕ) (r : TableRow) (rs : List TableRow) → nat_lt r.time limit ≡ true → rows_after limit (r ∷ rs) ≡ rows_after limit rs
after_step limit r rs e = let f : 1 + count_before limit rs ≡ suc (count_before limit rs) = omega arith in rw (e, f) refl

after_stop : (limit : ℕ) (r : TableRow) (rs : List TableRow) → nat_lt r.time limit ≡ false → rows_after limit (r ∷ rs) ≡ r ∷ rs
after_stop limit r rs e = rw e refl

before_by : (limit : ℕ) (r : TableRow) (rs : List TableRow) (b : Bool) → nat_lt r.time limit ≡ b → AllByRecursion (λ row. row.time < limit) (rows_before limit rs)
    → AllByRecursion (λ row. row.time < limit) (rows_before limit (r ∷ rs))
before_by limit r rs true e more = subst (AllByRecursion (λ row. row.time < limit)) (sym (before_step limit r rs e)) (ltb-true r.time limit e, more)
before_by limit r rs false e more = subst (AllByRecursion (λ row. row.time < limit)) (sym (before_stop limit r rs e)) tt

before_all : (limit : ℕ) (rows : List TableRow) → AllByRecursion (λ row. row.time < limit) (rows_before limit rows)
before_all limit [] = tt
before_all limit (r ∷ rs) = before_by limit r rs (nat_lt r.time limit) refl (before_all limit rs)

after_by : (limit from : ℕ) (r : TableRow) (rs : List TableRow) (b : Bool) → nat_lt r.time limit ≡ b → AreRising from (r ∷ rs)
    → AllByRecursion (λ row. limit ≤ row.time) (rows_after limit rs) → AllByRecursion (λ row. limit ≤ row.time) (rows_after limit (r ∷ rs))
after_by limit from r rs true e h more = subst (AllByRecursion (λ row. limit ≤ row.time)) (sym (after_step limit r rs e)) more
after_by limit from r rs false e h more =
    let low : limit ≤ r.time = ltb-false r.time limit e in
    subst (AllByRecursion (λ row. limit ≤ row.time)) (sym (after_stop limit r rs e))
    (all_then (λ row. r.time ≤ row.time) (λ row. limit ≤ row.time) (r ∷ rs) (λ row g. omega arith) (first_least from r rs h))

after_all : (limit from : ℕ) (rows : List TableRow) → AreRising from rows → AllByRecursion (λ row. limit ≤ row.time) (rows_after limit rows)
after_all limit from [] h = tt
after_all limit from (r ∷ rs) h = after_by limit from r rs (nat_lt r.time limit) refl h (after_all limit (rising_back from (r ∷ []) rs h).0 rs (rising_back from (r ∷ []) rs h).1)

-- ---- the window of a time

times_one : (k step : ℕ) → (k + 1) * step ≡ k * step + step
times_one k step = grind arith

low : (t step : ℕ) → t / step * step ≤ t
low t step = omega (arith, div-add-mod' t step)

pub high : (t step : ℕ) → 0 < step → t < (t / step + 1) * step
high t step some = omega (arith, div-add-mod' t step, mod_below t step some, times_one (t / step) step)

steps_in : (k t step : ℕ) → 0 < step → k * step ≤ t → k ≤ t / step
steps_in k t step some h = (le-div_iff_mul-le some).1 h

inside_true : (step k : ℕ) (row : TableRow) → k * step ≤ row.time → row.time < (k + 1) * step → is_inside step k row ≡ true
inside_true step k row a b = rw (le-leb (k * step) row.time a, lt-ltb row.time ((k + 1) * step) b) refl

inside_low : (step k : ℕ) (row : TableRow) → row.time < k * step → is_inside step k row ≡ false
inside_low step k row a = and_left (nat_le (k * step) row.time) (nat_lt row.time ((k + 1) * step)) (lt-leb (k * step) row.time a)

inside_high : (step k : ℕ) (row : TableRow) → (k + 1) * step ≤ row.time → is_inside step k row ≡ false
inside_high step k row a = and_right (nat_le (k * step) row.time) (nat_lt row.time ((k + 1) * step)) (le-ltb row.time ((k + 1) * step) a)

-- a window's rows, where all rows are earlier ones, these, and later ones
within_is : (step k : ℕ) (front group after : List TableRow) → AllByRecursion (λ row. row.time < k * step) front
    → AllByRecursion (λ row. k * step ≤ row.time) group → AllByRecursion (λ row. row.time < (k + 1) * step) group → AllByRecursion (λ row. (k + 1) * step ≤ row.time) after
    → rows_within step k (front ++ (group ++ after)) ≡ group
within_is step k front group after a b c d =
    let p = is_inside step k in
    let one : filter p front ≡ [] = filter_none p front (all_then (λ row. row.time < k * step) (λ row. p row ≡ false) front (inside_low step k) a) in
    let two : filter p group ≡ group = filter_all p group (both_all group b c) in
    let three : filter p after ≡ [] = filter_none p after (all_then (λ row. (k + 1) * step ≤ row.time) (λ row. p row ≡ false) after (inside_high step k) d) in
    filter-append p front (group ++ after) ∙ ap (λ l. l ++ filter p (group ++ after)) one ∙ filter-append p group after ∙ ap (λ l. l ++ filter p after) two ∙ ap (λ l. group ++ l) three ∙ append-nil group
  where
    both_all : (xs : List TableRow) → AllByRecursion (λ row. k * step ≤ row.time) xs → AllByRecursion (λ row. row.time < (k + 1) * step) xs → AllByRecursion (λ row. is_inside step k row ≡ true) xs
    both_all [] g h = tt
    both_all (x ∷ xs) g h = (inside_true step k x g.0 h.0, both_all xs g.1 h.1)

within_none : (step k : ℕ) (front after : List TableRow) → AllByRecursion (λ row. row.time < k * step) front → AllByRecursion (λ row. (k + 1) * step ≤ row.time) after
    → rows_within step k (front ++ after) ≡ []
within_none step k front after a d = within_is step k front [] after a tt tt d

-- ---- windows and their texts

none_text : (labels : List (List ℕ)) (step k : ℕ) → window_text labels step k [] ≡ []
unfolding window_text
none_text labels step k = refl

some_text : (labels : List (List ℕ)) (step k : ℕ) (row : TableRow) (rows : List TableRow) → window_text labels step k (row ∷ rows) ≡ window_line (k * step) ++ group_text labels (row ∷ rows)
unfolding window_text
some_text labels step k row rows = refl

-- a window is written, and then come these rows
pub record IsDone (labels : List (List ℕ)) (rows : List TableRow) (step w : ℕ) (group after : List TableRow) : Type 0 where
  pub text : window_piece labels step rows w ≡ window_line (w * step) ++ group_text labels group
  pub ahead : IsAhead rows step after
  pub pieces : pieces_text (window_piece labels step rows) (next_window step after (end_time rows)) ≡ pieces_text (window_piece labels step rows) (w + 1)
  pub within : w < end_time rows / step + 1
  pub fewer : 0 < length group

module _ (labels : List (List ℕ)) (rows : List TableRow) (step : ℕ) (some : 0 < step) (rise : AreRising 0 rows) where
  -- the window of the next row is a later one
  next_later : (w : ℕ) (after : List TableRow) → w * step ≤ end_time rows → AllByRecursion (λ row. (w + 1) * step ≤ row.time) after → w + 1 ≤ next_window step after (end_time rows)
  next_later w [] end h = let f : w ≤ end_time rows / step = steps_in w (end_time rows) step some end in omega arith
  next_later w (a ∷ bs) end h = steps_in (w + 1) a.time step some h.0

  -- windows before that of the next row have none of the rows that are left
  none_left : (from k : ℕ) (after : List TableRow) → AreRising from after → k < next_window step after (end_time rows) → AllByRecursion (λ row. (k + 1) * step ≤ row.time) after
  none_left from k [] h less = tt
  none_left from k (a ∷ bs) h less =
      let up : (k + 1) * step ≤ a.time / step * step = mul-le-mul_right step (omega arith) in
      let here : (k + 1) * step ≤ a.time = omega (arith, low a.time step) in
      all_then (λ row. a.time ≤ row.time) (λ row. (k + 1) * step ≤ row.time) (a ∷ bs) (λ row g. omega arith) (first_least from a bs h)

  done_by : (w : ℕ) (front group after : List TableRow) (from : ℕ) → rows ≡ front ++ (group ++ after) → AllByRecursion (λ row. row.time < w * step) front
      → AllByRecursion (λ row. w * step ≤ row.time) group → AllByRecursion (λ row. row.time < (w + 1) * step) group → AllByRecursion (λ row. (w + 1) * step ≤ row.time) after
      → AreRising from after → w * step ≤ end_time rows → (r : TableRow) (rs : List TableRow) → group ≡ r ∷ rs → IsDone labels rows step w group after
  done_by w front group after from whole a b c d after_rise end r rs is =
      let next = next_later w after end d in
      let inside : rows_within step w rows ≡ group = ap (rows_within step w) whole ∙ within_is step w front group after a b c d in
      let limit : w * step ≤ (w + 1) * step = mul-le-mul_right step (omega arith) in
      let earlier : AllByRecursion (λ row. row.time < (w + 1) * step) (front ++ group) =
      all_append (λ row. row.time < (w + 1) * step) front group (all_then (λ row. row.time < w * step) (λ row. row.time < (w + 1) * step) front (λ row g. omega arith) a) c in
      let apart : rows ≡ (front ++ group) ++ after = whole ∙ sym (append_assoc front group after) in
      let quiet : (k : ℕ) → (w + 1) < k + 1 → k < (next_window step after (end_time rows) - (w + 1)) + (w + 1) → window_piece labels step rows k ≡ [] = λ k above below.
      (let up : (w + 1) * step ≤ k * step = mul-le-mul_right step (omega arith) in
      let none : rows_within step k rows ≡ [] = ap (rows_within step k) apart ∙ within_none step k (front ++ group) after
      (all_then (λ row. row.time < (w + 1) * step) (λ row. row.time < k * step) (front ++ group) (λ row g. omega arith) earlier) (none_left from k after after_rise (omega arith)) in
      ap (window_text labels step k) none ∙ none_text labels step k) in
      let many : (next_window step after (end_time rows) - (w + 1)) + (w + 1) ≡ next_window step after (end_time rows) = omega arith in
      let last : (w + 1) * step ≤ next_window step after (end_time rows) * step = mul-le-mul_right step next in
      let there : w ≤ end_time rows / step = steps_in w (end_time rows) step some end in
      let long : length group ≡ suc (length rs) = ap length is in
      record {
        text = ap (window_text labels step w) (inside ∙ is) ∙ some_text labels step w r rs ∙ ap (λ g. window_line (w * step) ++ group_text labels g) (sym is);
        ahead = record {
          front = front ++ group;
          whole = apart;
          before = all_then (λ row. row.time < (w + 1) * step) (λ row. row.time < next_window step after (end_time rows) * step) (front ++ group) (λ row g. omega arith) earlier;
        };
        pieces = ap (pieces_text (window_piece labels step rows)) (sym many) ∙ pieces_quiet (window_piece labels step rows) (w + 1) (next_window step after (end_time rows) - (w + 1)) quiet;
        within = omega arith;
        fewer = omega arith;
      }

  -- the window of the first row that is left
  pub window_done : (row : TableRow) (more : List TableRow) → IsAhead rows step (row ∷ more)
      → IsDone labels rows step (row.time / step) (rows_before ((row.time / step + 1) * step) (row ∷ more)) (rows_after ((row.time / step + 1) * step) (row ∷ more))
  window_done row more ahead =
      let w = row.time / step in
      let limit = (w + 1) * step in
      let group = rows_before limit (row ∷ more) in
      let after = rows_after limit (row ∷ more) in
      let split : group ++ after ≡ row ∷ more = take-append-drop (count_before limit (row ∷ more)) (row ∷ more) in
      let whole : rows ≡ ahead.front ++ (group ++ after) = ahead.whole ∙ ap (λ l. ahead.front ++ l) (sym split) in
      let rest = rising_back 0 ahead.front (row ∷ more) (subst (AreRising 0) ahead.whole rise) in
      let later = rising_back rest.0 group after (subst (AreRising rest.0) (sym split) rest.1) in
      let first = first_least rest.0 row more rest.1 in
      let up : w * step ≤ row.time = low row.time step in
      let lows : AllByRecursion (λ r. w * step ≤ r.time) group =
      all_then (λ r. row.time ≤ r.time) (λ r. w * step ≤ r.time) group (λ r g. omega arith) (all_front (λ r. row.time ≤ r.time) group after (subst (AllByRecursion (λ r. row.time ≤ r.time)) (sym split) first)) in
      let here : row.time ≤ end_time rows = (all_back (λ r. r.time ≤ end_time rows) ahead.front (row ∷ more) (subst (AllByRecursion (λ r. r.time ≤ end_time rows)) ahead.whole (upto_end 0 rows rise))).0 in
      done_by w ahead.front group after later.0 whole ahead.before lows (before_all limit (row ∷ more)) (after_all limit rest.0 (row ∷ more) rest.1) later.1 (omega arith)
      row (rows_before limit more) (before_step limit row more (lt-ltb row.time limit (high row.time step some)))

-- at first all rows are left
pub ahead_first : (rows : List TableRow) (step : ℕ) → IsAhead rows step rows
ahead_first rows step = record { front = []; whole = refl; before = tt }

-- and the first window is window 0
pub at_first : (rows : List TableRow) (step : ℕ) → 0 < step → HasBegun 0 rows → next_window step rows (end_time rows) ≡ 0
at_first [] step some h = absurd h
at_first (r ∷ rs) step some h = ⊎_elim
    (λ (none : r.time / step < 1). omega arith)
    (λ (more : 1 ≤ r.time / step). let up : 1 * step ≤ r.time / step * step = mul-le-mul_right step more in let f : r.time ≤ 0 = h in absurd (omega (arith, low r.time step)))
    (cases_lt (r.time / step) 1)

-- ---- the code's rows, from a place on

abbrev rest_of : List Row → ℕ → List Row
rest_of rows from = take (length rows - from) (drop from rows)

pub rest_rows : (n m : ℕ) (rows : List Row) (from : ℕ) → AreRows n (rows_of rows) → m ≡ n → AllByRecursion (IsRow m) (rows_of (take (length rows - from) (drop from rows)))
rest_rows n m rows from h e =
    subst (λ k. AllByRecursion (IsRow k) (rows_of (rest_of rows from))) (sym e)
    (subst (λ l. AllByRecursion (IsRow n) (rows_of l)) (sym (take_rest rows from)) (dropped_rows (IsRow n) rows from (each_row n (rows_of rows) h)))

-- the window of the row at a place is written, and so many rows on comes another one
pub record IsGone (labels : List (List ℕ)) (rows : List Row) (step from count : ℕ) : Type 0 where
  pub within : from + count ≤ length rows
  pub more : 0 < count
  pub ahead : IsAhead (rows_of rows) step (rows_of (drop (from + count) rows))
  pub text : first_text labels step (rows_of (take (length rows - from) (drop from rows))) ≡ window_piece labels step (rows_of rows) (next_window step (rows_of (drop from rows)) (end_time (rows_of rows)))
  pub pieces : pieces_text (window_piece labels step (rows_of rows)) (next_window step (rows_of (drop (from + count) rows)) (end_time (rows_of rows)))
      ≡ pieces_text (window_piece labels step (rows_of rows)) (next_window step (rows_of (drop from rows)) (end_time (rows_of rows)) + 1)
  pub below : next_window step (rows_of (drop from rows)) (end_time (rows_of rows)) < end_time (rows_of rows) / step + 1

gone_by : (labels : List (List ℕ)) (rows : List Row) (step from count : ℕ) → 0 < step → AreRising 0 (rows_of rows) → from < length rows → (rest : List Row) → drop from rows ≡ rest
    → IsAhead (rows_of rows) step (rows_of rest) → count ≡ count_before (first_limit step (rows_of rest)) (rows_of rest) → IsGone labels rows step from count
gone_by labels rows step from count some rise less [] e ahead count_is = absurd (omega (arith, ap length e, length-drop from rows))
gone_by labels rows step from count some rise less (r ∷ rs) e ahead count_is =
    let done = window_done labels (rows_of rows) step some rise (row_of r) (rows_of rs) ahead in
    let cut : rest_of rows from ≡ r ∷ rs = take_rest rows from ∙ e in
    let long : length rs + 1 ≡ length rows - from = omega (arith, ap length e, length-drop from rows) in
    let few : count ≤ length (rows_of (r ∷ rs)) = rw count_is (prefix_len-le-length (λ (row : TableRow). nat_lt row.time (first_limit step (rows_of (r ∷ rs)))) (rows_of (r ∷ rs))) in
    let after : rows_of (drop (from + count) rows) ≡ rows_after (first_limit step (rows_of (r ∷ rs))) (rows_of (r ∷ rs)) =
    ap rows_of (sym (drop-drop count from rows) ∙ ap (drop count) e) ∙ back_of (r ∷ rs) count (count_before (first_limit step (rows_of (r ∷ rs))) (rows_of (r ∷ rs))) count_is in
    let some_rows : 0 < length (take (count_before (first_limit step (rows_of (r ∷ rs))) (rows_of (r ∷ rs))) (rows_of (r ∷ rs))) = done.fewer in
    record {
      within = omega (arith, few, length-map (r ∷ rs) row_of, long);
      more = omega (arith, some_rows, count_is, length-take (count_before (first_limit step (rows_of (r ∷ rs))) (rows_of (r ∷ rs))) (rows_of (r ∷ rs)));
      ahead = subst (IsAhead (rows_of rows) step) (sym after) done.ahead;
      text = ap (λ l. first_text labels step (rows_of l)) cut ∙ sym done.text ∙ ap (λ l. window_piece labels step (rows_of rows) (next_window step (rows_of l) (end_time (rows_of rows)))) (sym e);
      pieces = ap (λ l. pieces_text (window_piece labels step (rows_of rows)) (next_window step l (end_time (rows_of rows)))) after ∙ done.pieces
          ∙ ap (λ l. pieces_text (window_piece labels step (rows_of rows)) (next_window step (rows_of l) (end_time (rows_of rows)) + 1)) (sym e);
      below = subst (λ l. next_window step (rows_of l) (end_time (rows_of rows)) < end_time (rows_of rows) / step + 1) (sym e) done.within;
    }

pub gone_on : (labels : List (List ℕ)) (rows : List Row) (n step from count : ℕ) → 0 < step → AreRows n (rows_of rows) → from < length rows → IsAhead (rows_of rows) step (rows_of (drop from rows))
    → count ≡ count_before (first_limit step (rows_of (take (length rows - from) (drop from rows)))) (rows_of (take (length rows - from) (drop from rows))) → IsGone labels rows step from count
gone_on labels rows n step from count some h less ahead count_is =
    gone_by labels rows step from count some (rising n (rows_of rows) h) less (drop from rows) refl ahead
    (count_is ∙ ap (λ l. count_before (first_limit step (rows_of l)) (rows_of l)) (take_rest rows from))
