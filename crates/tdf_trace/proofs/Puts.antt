-- A cell that is put among those that wait.
use Rattle.std.proofs.Common.{◌≡◌, ◌≢◌, ℕ, zero, suc, ◌+◌, min, ◌<◌, ◌≤◌, Bool, true, false, nat_eq, nat_lt, if◌then◌else◌, length-set, List, [], ◌∷◌, ◌++◌, length, slice_get, slice_set, Some, is_some, refl, ap, sym, ◌∙◌, subst, inl, inr, arith}
use Rattle.std.specs.List.{insert}
use Rattle.std.proofs.lemmas.Bool.{lt-ltb, le-ltb, cases_eq, cases_lt, eq-eqb, ne_eqb, true≢false}
use Rattle.std.proofs.lemmas.Option.{slice_get_within}
use Rattle.tdf_trace_rows.proofs.Api.{last_with_cell}
use Rattle.tdf_trace_rows.specs.Noted.{with_noted_cell}
use Rattle.tdf_trace_rows.specs.Rows.{Cells}
use Rattle.tdf_trace_rows.specs.declared.cell.Cell.{Cell}
use Rattle.tdf_trace.proofs.Places.{get_some}
use Rattle.tdf_trace.specs.Columns.{ColumnSeen, HasFewPlaces, held_at}
use Rattle.tdf_trace.specs.Stands.{Stands}
use Rattle.tdf_trace.specs.declared.column.Held.{Held}
use Rattle.tdf_trace.specs.machine.Putting.{AreInOrder, IsPlace, IsPut, column_with, put}
use Rattle.tdf_trace.specs.machine.Turning.{AreSound, HaveFewPlaces, HaveValues, IsSound, Rising, front_time}

rising_after : (a : ℕ) (xs : List Held) (j : ℕ) (y : Held) → Rising a xs → slice_get xs j ≡ Some y → a ≤ y.time
unfolding Rising
rising_after a [] j y r h = absurd (grind (arith, h))
rising_after a (x ∷ xs) zero y r h = let e : x ≡ y = grind (arith, h) in subst (λ (z : Held). a ≤ z.time) e r.0
rising_after a (x ∷ xs) (suc j) y r h = let e : x.time + 1 ≤ y.time = rising_after (x.time + 1) xs j y r.1 h in let f : a ≤ x.time = r.0 in omega (arith, e, f)

pub rising_in_order : (a : ℕ) (xs : List Held) → Rising a xs → AreInOrder xs
unfolding Rising
rising_in_order a [] r i j x y less h k = absurd (grind (arith, h))
rising_in_order a (z ∷ xs) r i zero x y less h k = absurd (omega (arith, less))
rising_in_order a (z ∷ xs) r zero (suc j) x y less h k = let e : z ≡ x = grind (arith, h) in let f : z.time + 1 ≤ y.time = rising_after (z.time + 1) xs j y r.1 k in subst (λ (w : Held). w.time < y.time) e (omega (arith, f))
rising_in_order a (z ∷ xs) r (suc i) (suc j) x y less h k = rising_in_order (z.time + 1) xs r.1 i j x y (omega (arith, less)) h k

-- the three cases of `put`
data Meets (x y : Held) : Type 0 where
  Before : x.time < y.time → nat_lt x.time y.time ≡ true → Meets x y
  Same : x.time ≡ y.time → nat_lt x.time y.time ≡ false → nat_eq x.time y.time ≡ true → Meets x y
  After : y.time < x.time → nat_lt x.time y.time ≡ false → nat_eq x.time y.time ≡ false → Meets x y

meets : (x y : Held) → Meets x y
meets x y = elim (cases_lt x.time y.time) [
  | inl less ↦ Before less (lt-ltb x.time y.time less)
  | inr not_less ↦ elim (cases_eq x.time y.time) [
    | inl same ↦ Same same (le-ltb x.time y.time not_less) (eq-eqb x.time y.time same)
    | inr apart ↦ After (omega (arith, not_less, apart)) (le-ltb x.time y.time not_less) (ne_eqb x.time y.time apart)
  ]
]

pub put_rising : (a : ℕ) (x : Held) (xs : List Held) → a ≤ x.time → Rising a xs → Rising a (put x xs)
unfolding Rising put
put_rising a x [] low r = (low, tt)
put_rising a x (y ∷ ys) low r = elim (meets x y) [
  | Before less t ↦ rw t (low, (omega (arith, less), r.1))
  | Same same t e ↦ rw (t, e) (low, subst (λ n. Rising (n + 1) ys) (sym same) r.1)
  | After less t e ↦ rw (t, e) (r.0, put_rising (y.time + 1) x ys (omega (arith, less)) r.1)
]

pub put_held : (x : Held) (xs : List Held) (t : ℕ) → held_at (put x xs) t ≡ (if nat_eq x.time t then Some x.value else held_at xs t)
unfolding held_at put
put_held x [] t = refl
put_held x (y ∷ ys) t = elim (meets x y) [
  | Before less u ↦ rw u refl
  | Same same u e ↦ rw (u, e) (drop_same (nat_eq x.time t) (nat_eq y.time t) (ap (λ n. nat_eq n t) same) (Some x.value) (Some y.value) (held_at ys t))
  | After less u e ↦ rw (u, e) (elim (cases_eq y.time t) [
    | inl here ↦ rw (eq-eqb y.time t here, ne_eqb x.time t (λ i. omega (arith, i, here, less))) refl
    | inr there ↦ rw (ne_eqb y.time t there) (put_held x ys t)
  ])
]
  where
    drop_same : {A : Type 0} (p q : Bool) → p ≡ q → (a b d : A) → (if p then a else d) ≡ (if p then a else (if q then b else d))
    drop_same true q e a b d = refl
    drop_same false true e a b d = absurd (true≢false (sym e))
    drop_same false false e a b d = refl

next_place : (t : ℕ) (y : Held) (ys : List Held) (k : ℕ) → IsPlace (y ∷ ys) t (suc k) → IsPlace ys t k
next_place t y ys k place = record {
  within = (let e : suc k ≤ length (y ∷ ys) = place.within in omega (arith, e));
  before = λ i x less at. place.before (suc i) x (omega (arith, less)) at;
  after = λ i x less at. place.after (suc i) x (omega (arith, less)) at;
}

pub put_set : (x w : Held) (xs : List Held) (k : ℕ) → IsPlace xs x.time k → slice_get xs k ≡ Some w → w.time ≡ x.time → put x xs ≡ slice_set xs k x
unfolding put
put_set x w [] k place at same = absurd (grind (arith, at))
put_set x w (y ∷ ys) zero place at same = let e : y ≡ w = grind (arith, at) in let t : y.time ≡ x.time = ap (λ (z : Held). z.time) e ∙ same in
    rw (le-ltb x.time y.time (omega (arith, t)), eq-eqb x.time y.time (sym t)) refl
put_set x w (y ∷ ys) (suc k) place at same = let b : y.time < x.time = place.before 0 y (omega arith) refl in
    rw (le-ltb x.time y.time (omega (arith, b)), ne_eqb x.time y.time (λ i. omega (arith, i, b))) (ap (λ zs. y ∷ zs) (put_set x w ys k (next_place x.time y ys k place) at same))

pub put_insert : (x w : Held) (xs : List Held) (k : ℕ) → IsPlace xs x.time k → slice_get xs k ≡ Some w → w.time ≢ x.time → put x xs ≡ insert xs k x
unfolding put
put_insert x w [] k place at apart = absurd (grind (arith, at))
put_insert x w (y ∷ ys) zero place at apart = let b : x.time ≤ y.time = place.after 0 y (omega arith) refl in let e : y ≡ w = grind (arith, at) in
    let n : y.time ≢ x.time = (λ same. apart (ap (λ (z : Held). z.time) (sym e) ∙ same)) in rw (lt-ltb x.time y.time (omega (arith, b, n))) refl
put_insert x w (y ∷ ys) (suc k) place at apart = let b : y.time < x.time = place.before 0 y (omega arith) refl in
    rw (le-ltb x.time y.time (omega (arith, b)), ne_eqb x.time y.time (λ i. omega (arith, i, b))) (ap (λ zs. y ∷ zs) (put_insert x w ys k (next_place x.time y ys k place) at apart))

pub put_last : (x : Held) (xs : List Held) (k : ℕ) → IsPlace xs x.time k → k ≡ length xs → put x xs ≡ xs ++ x ∷ []
unfolding put
put_last x [] k place end = refl
put_last x (y ∷ ys) zero place end = absurd (omega (arith, end))
put_last x (y ∷ ys) (suc k) place end = let b : y.time < x.time = place.before 0 y (omega arith) refl in let e : k ≡ length ys = omega (arith, end) in
    rw (le-ltb x.time y.time (omega (arith, b)), ne_eqb x.time y.time (λ i. omega (arith, i, b))) (ap (λ zs. y ∷ zs) (put_last x ys k (next_place x.time y ys k place) e))

pub put_few : (x : Held) (xs : List Held) → HasFewPlaces x.value → HaveFewPlaces xs → HaveFewPlaces (put x xs)
unfolding HaveFewPlaces put
put_few x [] few r = (few, tt)
put_few x (y ∷ ys) few r = elim (meets x y) [
  | Before less t ↦ rw t (few, r)
  | Same same t e ↦ rw (t, e) (few, r.1)
  | After less t e ↦ rw (t, e) (r.0, put_few x ys few r.1)
]

pub put_sound : (upto : ℕ) (x : Held) (column : ColumnSeen) → upto ≤ x.time → HasFewPlaces x.value → IsSound upto column → IsSound upto (column_with x column)
put_sound upto x column low few is = record {
  rising = put_rising upto x column.held low is.rising;
  few = put_few x column.held few is.few;
  shown = is.shown;
}

pub front_put : (x : Held) (xs : List Held) (limit : ℕ) → x.time ≤ limit → front_time (put x xs) limit ≡ min (front_time xs limit) x.time
unfolding put
front_put x [] limit inside = omega (arith, inside)
front_put x (y ∷ ys) limit inside = elim (meets x y) [
  | Before less t ↦ rw t (omega (arith, less))
  | Same same t e ↦ rw (t, e) (omega (arith, same))
  | After less t e ↦ rw (t, e) (omega (arith, less))
]

pub values_put : (x : Held) (xs : List Held) → is_some x.value ≡ true → HaveValues xs → HaveValues (put x xs)
unfolding HaveValues put
values_put x [] some r = (some, tt)
values_put x (y ∷ ys) some r = elim (meets x y) [
  | Before less t ↦ rw t (some, r)
  | Same same t e ↦ rw (t, e) (some, r.1)
  | After less t e ↦ rw (t, e) (r.0, values_put x ys some r.1)
]

-- one cell into one column: the column before, and what it is now
pub data Was (old : List ColumnSeen) (c d : ℕ) (x : Held) (column : ColumnSeen) : Type 0 where
  Here : d ≡ c → (o : ColumnSeen) → slice_get old d ≡ Some o → column ≡ column_with x o → Was old c d x column
  There : (d ≡ c → ⊥) → slice_get old d ≡ Some column → Was old c d x column

pub was : (old new : List ColumnSeen) (c d : ℕ) (x : Held) (column : ColumnSeen) → IsPut old new c x → slice_get new d ≡ Some column → Was old c d x column
was old new c d x column is at = elim (cases_eq d c) [
  | inl same ↦ (let l : d < length new = slice_get_within new d column at in let n : length new ≡ length old = is.same in
      let w : (o : ColumnSeen) × (slice_get old d ≡ Some o) = get_some old d (omega (arith, l, n)) in
      let e : slice_get new d ≡ Some (column_with x w.0) =
      subst (λ k. slice_get new k ≡ Some (column_with x w.0)) (sym same) (is.here w.0 (subst (λ k. slice_get old k ≡ Some w.0) same w.1)) in
      Here same w.0 w.1 (grind (arith, e, at)))
  | inr apart ↦ There apart (sym (is.others d apart) ∙ at)
]

pub put_all_sound : (upto c : ℕ) (x : Held) (old new : List ColumnSeen) → AreSound upto old → upto ≤ x.time → HasFewPlaces x.value → IsPut old new c x → AreSound upto new
put_all_sound upto c x old new sound low few is d column at = elim (was old new c d x column is at) [
  | Here same o before now ↦ subst (λ (k : ColumnSeen). IsSound upto k) (sym now) (put_sound upto x o low few (sound d o before))
  | There apart before ↦ sound d column before
]

if_same : {A : Type 0} (p : Bool) (a b e : A) → b ≡ e → (if p then a else b) ≡ (if p then a else e)
if_same true a b e h = refl
if_same false a b e h = h

abbrev pub held_of : Cell → Held
held_of cell = record { time = cell.time; value = cell.value }

pub put_stands : (g : Cells) (upto : ℕ) (cell : Cell) (old new : List ColumnSeen) → IsPut old new cell.column (held_of cell) → upto ≤ cell.time
    → Stands g (record { columns = old; upto = upto }) → Stands (with_noted_cell g cell) (record { columns = new; upto = upto })
put_stands g upto cell old new is low h = record {
  count = is.same ∙ h.count;
  held = λ d s column at from. elim (was old new cell.column d (held_of cell) column is at) [
    | Here same o before now ↦ ap (λ (k : ColumnSeen). held_at k.held s) now ∙ put_held (held_of cell) o.held s ∙ if_same (nat_eq cell.time s) _ _ _ (h.held d s o before from)
        ∙ sym (here_at d s same)
    | There apart before ↦ h.held d s column before from ∙ sym (there_at d s apart)
  ];
  shown = λ d column at. elim (was old new cell.column d (held_of cell) column is at) [
    | Here same o before now ↦ ap (λ (k : ColumnSeen). k.shown) now ∙ h.shown d o before ∙ sym (last_with_cell g cell d upto low)
    | There apart before ↦ h.shown d column before ∙ sym (last_with_cell g cell d upto low)
  ];
}
  where
    here_at : (d s : ℕ) → d ≡ cell.column → (with_noted_cell g cell).at d s ≡ (if nat_eq cell.time s then Some cell.value else g.at d s)
    here_at d s same = rw (eq-eqb cell.column d (sym same)) refl

    there_at : (d s : ℕ) → (d ≡ cell.column → ⊥) → (with_noted_cell g cell).at d s ≡ g.at d s
    there_at d s apart = rw (ne_eqb cell.column d (λ e. apart (sym e))) refl

pub set_here : (columns : List ColumnSeen) (c : ℕ) (x : ColumnSeen) → c < length columns → slice_get (slice_set columns c x) c ≡ Some x
set_here [] c x less = absurd (omega (arith, less))
set_here (y ∷ ys) zero x less = refl
set_here (y ∷ ys) (suc c) x less = set_here ys c x (omega (arith, less))

pub set_other : (columns : List ColumnSeen) (c d : ℕ) (x : ColumnSeen) → (d ≡ c → ⊥) → slice_get (slice_set columns c x) d ≡ slice_get columns d
set_other [] c d x apart = refl
set_other (y ∷ ys) zero zero x apart = absurd (apart refl)
set_other (y ∷ ys) zero (suc d) x apart = refl
set_other (y ∷ ys) (suc c) zero x apart = refl
set_other (y ∷ ys) (suc c) (suc d) x apart = set_other ys c d x (λ e. apart (ap suc e))

pub set_put : (columns : List ColumnSeen) (c : ℕ) (x : Held) (o n : ColumnSeen) → slice_get columns c ≡ Some o → n ≡ column_with x o → IsPut columns (slice_set columns c n) c x
set_put columns c x o n at is = record {
  same = length-set columns c n;
  here = λ column here. (let e : o ≡ column = grind (arith, at, here) in set_here columns c n (slice_get_within columns c o at) ∙ ap Some is ∙ ap (λ (k : ColumnSeen). Some (column_with x k)) e);
  others = λ d apart. set_other columns c d n apart;
}
