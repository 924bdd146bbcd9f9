-- The rows of a choice are rows of a table.
use Rattle.std.proofs.Common.{◌≡◌, ℕ, ◌+◌, ◌*◌, ◌%◌, ◌<◌, ◌≤◌, Bool, true, false, nat_eq, List, [], ◌∷◌, ◌++◌, length, take, get_or, refl, arith, ◌∙◌, sym, ap, subst, Option, Some, None, append-nil, length-append, if◌then◌else◌}
use Rattle.std.proofs.lemmas.Bool.{eq-eqb}
use Rattle.std.proofs.lemmas.List.{length-map, length-take, map_more}
use Rattle.tdf_sampling.proofs.Rising.{begun, each_row, last_more, no_last}
use Rattle.tdf_sampling.proofs.Stepping.{every_rows, every_some}
use Rattle.tdf_sampling.proofs.Thin.{mod_none, nth_more, nth_none}
use Rattle.tdf_sampling.specs.Choice.{chosen_table, chosen_rows, femtoseconds, nth, choice_number}
use Rattle.tdf_sampling.specs.declared.asked.Choice.{Choice}
use Rattle.tdf_sampling.specs.declared.asked.Choice.TheVariants.{Nth, Every}
use Rattle.tdf_sampling.specs.machine.Choosing.{taken}
use Rattle.tdf_sampling.specs.machine.Windows.{rows_of}
use Rattle.tdf_tables.specs.Rows.{row_of}
use Rattle.tdf_tables.specs.Tables.{AreRows, FollowsTime, IsRow, IsTableForm, MoreRows, NoRows, TableRow, TableOf, last_time}
use Rattle.tdf_tables.specs.declared.table.Row.{Row}

-- one place more
pub taken_more : (n i : ℕ) (rows : List Row) (d : Row) (old new : List TableRow) → i < length rows → old ≡ nth n (rows_of (take i rows)) → new ≡ old ++ taken n i (row_of (get_or rows i d))
    → new ≡ nth n (rows_of (take (i + 1) rows))
taken_more n i rows d old new less is e =
    let long : length (rows_of (take i rows)) ≡ i = omega (arith, length-map (take i rows) row_of, length-take i rows) in
    e ∙ ap (λ l. l ++ taken n i (row_of (get_or rows i d))) is ∙ sym (ap (nth n) (map_more row_of rows i d less) ∙ nth_more n i (rows_of (take i rows)) (row_of (get_or rows i d)) long)

pub taken_none : (n : ℕ) → [] ≡ nth n (rows_of [])
taken_none n = sym (nth_none n)

-- the last time of some of the rows is not after that of all
abbrev Follows : Option ℕ → Option ℕ → Type 0
Follows None None = Unit {0}
Follows None (Some t) = ⊥
Follows (Some s) None = ⊥
Follows (Some s) (Some t) = s ≤ t

next_then : (some all : Option ℕ) (t : ℕ) → Follows some all → FollowsTime all t → FollowsTime some t
next_then None None t h next = next
next_then None (Some b) t h next = absurd h
next_then (Some a) None t h next = absurd h
next_then (Some a) (Some b) t h next = omega arith

follows_on : (some all : Option ℕ) (t : ℕ) → Follows some all → FollowsTime all t → (all ≡ None → ⊥) → Follows some (Some t)
follows_on None None t h next there = absurd (there refl)
follows_on None (Some b) t h next there = absurd h
follows_on (Some a) None t h next there = absurd h
follows_on (Some a) (Some b) t h next there = omega arith

none_yet : (rows : List TableRow) → last_time rows ≡ None → rows ≡ []
unfolding last_time
none_yet [] h = refl
none_yet (r ∷ []) h = absurd (let f : Some r.time ≡ None = h in cc)
none_yet (r ∷ (s ∷ rs)) h = absurd (let f : (s ∷ rs) ≡ [] = none_yet (s ∷ rs) h in cc)

record IsThinned (columns n : ℕ) (rows thin : List TableRow) : Type 0 where
  pub rows_are : AreRows columns thin
  pub last : Follows (last_time thin) (last_time rows)
  pub some : 0 < length rows → 0 < length thin

thinned_none : (columns n : ℕ) → IsThinned columns n [] []
thinned_none columns n = record {
  rows_are = NoRows;
  last = (let none : last_time [] ≡ None = no_last in subst (λ o. Follows o (last_time [])) (sym none) (subst (λ o. Follows None o) (sym none) tt));
  some = λ h. h;
}

first_taken : (n : ℕ) (rows : List TableRow) → 0 < n → nat_eq (length rows % n) 0 ≡ false → last_time rows ≡ None → ⊥
first_taken n rows some e last =
    let none : length rows ≡ 0 = ap length (none_yet rows last) in
    let whole : length rows % n ≡ 0 = mod_none (length rows) n 0 some (grind arith) in
    let f : nat_eq (length rows % n) 0 ≡ true = eq-eqb (length rows % n) 0 whole in
    let apart : true ≡ false = sym f ∙ e in
    cc

thinned_by : (columns n : ℕ) (rows thin : List TableRow) (row : TableRow) → 0 < n → IsThinned columns n rows thin → IsRow columns row → FollowsTime (last_time rows) row.time
    → (b : Bool) → nat_eq (length rows % n) 0 ≡ b → IsThinned columns n (rows ++ row ∷ []) (thin ++ (if b then row ∷ [] else []))
thinned_by columns n rows thin row some h is next true e = record {
  rows_are = MoreRows h.rows_are row is (next_then (last_time thin) (last_time rows) row.time h.last next);
  last = subst (λ o. Follows o (last_time (rows ++ row ∷ []))) (sym (last_more thin row)) (subst (λ o. Follows (Some row.time) o) (sym (last_more rows row)) (let f : row.time ≤ row.time = omega arith in f));
  some = λ _. omega (arith, length-append thin (row ∷ []));
}
thinned_by columns n rows thin row some h is next false e =
    let same : thin ++ [] ≡ thin = append-nil thin in
    let there : last_time rows ≡ None → ⊥ = first_taken n rows some e in
    subst (λ l. IsThinned columns n (rows ++ row ∷ []) l) (sym same) (record {
      rows_are = h.rows_are;
      last = subst (λ o. Follows (last_time thin) o) (sym (last_more rows row)) (follows_on (last_time thin) (last_time rows) row.time h.last next there);
      some = λ _. h.some (some_by rows there);
    })
  where
    some_by : (rows : List TableRow) → (last_time rows ≡ None → ⊥) → 0 < length rows
    some_by [] there = absurd (there no_last)
    some_by (r ∷ rs) there = omega arith

thinned : (columns n : ℕ) (rows : List TableRow) → 0 < n → AreRows columns rows → IsThinned columns n rows (nth n rows)
thinned columns n rows some NoRows = subst (λ l. IsThinned columns n [] l) (sym (nth_none n)) (thinned_none columns n)
thinned columns n rows some (MoreRows {rows = xs} before row is next) =
    subst (λ l. IsThinned columns n (xs ++ row ∷ []) l) (sym (nth_more n (length xs) xs row refl))
    (thinned_by columns n xs (nth n xs) row some (thinned columns n xs some before) is next (nat_eq (length xs % n) 0) refl)

some_step : (step : ℕ) → 1 ≤ step → 0 < step * femtoseconds
some_step step h = omega arith

-- a choice of a table is a table
pub kept_is : (choice : Choice) (table : TableOf) → 1 ≤ choice_number choice → IsTableForm table → IsTableForm (chosen_table choice table)
kept_is (Nth n) table number h =
    let thin = thinned (length table.labels) n table.rows (omega arith) h.front.rows in
    record { front = record { labels = h.front.labels; rows = thin.rows_are }; some = thin.some h.some }
kept_is (Every step) table number h = record {
  front = record {
    labels = h.front.labels;
    rows = every_rows (length table.labels) (step * femtoseconds) table.rows (some_step step number) (each_row (length table.labels) table.rows h.front.rows)
        (begun (length table.labels) table.rows h.front.rows h.some) h.some;
  };
  some = every_some (step * femtoseconds) table.rows;
}

table_by : (t : TableOf) (labels : List (List ℕ)) (rows : List TableRow) → t.labels ≡ labels → t.rows ≡ rows → t ≡ record { labels = labels; rows = rows }
table_by t labels rows e f = rw (sym e, sym f) refl

pub table_is : (t s : TableOf) (choice : Choice) → t.labels ≡ s.labels → t.rows ≡ chosen_rows choice s.rows → t ≡ chosen_table choice s
table_is t s choice e f = table_by t s.labels (chosen_rows choice s.rows) e f
