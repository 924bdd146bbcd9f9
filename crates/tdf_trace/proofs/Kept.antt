-- What is kept of the cells: the least time of a first one, and whether some may be only announced.
use Rattle.std.proofs.Common.{◌≡◌, ℕ, ◌+◌, ◌-◌, ◌^◌, min, ◌<◌, ◌≤◌, Bool, true, false, not, ◌&&◌, nat_eq, List, [], ◌∷◌, length, length-set, map, slice_get, slice_set, Some, is_some, refl, ap, sym, ◌∙◌, subst, inl, inr, arith}
use Rattle.std.proofs.lemmas.Bool.{cases_eq, cases_lt, eq-eqb, ne_eqb}
use Rattle.std.proofs.lemmas.Option.{same_Some, slice_get_within}
use Rattle.tdf_fixed.specs.declared.format.Format.{Format}
use Rattle.tdf_saved.specs.State.{ColumnStateOf}
use Rattle.tdf_saved.specs.declared.state.Stamp.{Stamp}
use Rattle.tdf_trace.proofs.Fresh.{fresh_of}
use Rattle.tdf_trace.proofs.Places.{get_some}
use Rattle.tdf_trace.proofs.Puts.{Here, There, front_put, set_here, set_other, values_put, was}
use Rattle.tdf_trace.proofs.Stated.{one_at}
use Rattle.tdf_trace.proofs.Turns.{turned_was}
use Rattle.tdf_trace.specs.Columns.{ColumnSeen}
use Rattle.tdf_trace.specs.declared.about.Variable.{Variable}
use Rattle.tdf_trace.specs.declared.column.Held.{Held}
use Rattle.tdf_trace.specs.machine.Putting.{IsPut, column_with}
use Rattle.tdf_trace.specs.machine.Resuming.{AreColumnsIn, held_in}
use Rattle.tdf_trace.specs.machine.Turning.{AreAllGiven, AreKept, AreTurned, HaveValues, IsNext, NoneWaits, front_time, held_after, turned, waits}
use Rattle.tdf_trace.specs.views.Seen.{fresh}

-- ---- the least time

-- one column more, which may have changed
pub next_step : (old new : List ColumnSeen) (n limit least : ℕ) (column : ColumnSeen) → ((place : ℕ) → (place ≡ n → ⊥) → slice_get new place ≡ slice_get old place)
    → slice_get new n ≡ Some column → IsNext old n limit least → IsNext new (n + 1) limit (min least (front_time column.held limit))
next_step old new n limit least column others here is = record {
  within = (let w : least ≤ limit = is.within in omega (arith, w));
  least = λ place x less at. elim (cases_eq place n) [
    | inl same ↦ (let e : column ≡ x = same_Some column x (sym here ∙ subst (λ k. slice_get new k ≡ Some x) same at) in
        let f : front_time column.held limit ≡ front_time x.held limit = ap (λ (k : ColumnSeen). front_time k.held limit) e in omega (arith, f))
    | inr apart ↦ (let l : least ≤ front_time x.held limit = is.least place x (omega (arith, less, apart)) (sym (others place apart) ∙ at) in omega (arith, l))
  ];
  found = λ less. elim (cases_lt (front_time column.held limit) least) [
    | inl low ↦ (n, column, omega arith, here, omega (arith, low))
    | inr high ↦ (let w = is.found (omega (arith, less, high)) in (w.0, w.1, omega (arith, w.2), others w.0 (λ e. omega (arith, e, w.2)) ∙ w.3, omega (arith, high, w.4)))
  ];
}

-- below another limit
pub next_below : (columns : List ColumnSeen) (n top limit least : ℕ) → limit ≤ top → IsNext columns n top least → IsNext columns n limit (min least limit)
next_below columns n top limit least within is = record {
  within = omega arith;
  least = λ place x less at. low x.held (is.least place x less at);
  found = λ less. (let under : least < limit = omega (arith, less) in let w = is.found (omega (arith, under, within)) in
      (w.0, w.1, w.2, w.3, same w.1.held under w.4 ∙ omega (arith, under)));
}
  where
    low : (xs : List Held) → least ≤ front_time xs top → min least limit ≤ front_time xs limit
    low [] l = omega arith
    low (x ∷ xs) l = omega (arith, l)

    same : (xs : List Held) → least < limit → front_time xs top ≡ least → front_time xs limit ≡ least
    same [] under e = absurd (omega (arith, e, under, within))
    same (x ∷ xs) under e = e

-- one column more has gone to the row
pub turned_step : (t n : ℕ) (first old : List ColumnSeen) (column now : ColumnSeen) → AreTurned t n first old → slice_get old n ≡ Some column → now ≡ turned t column
    → AreTurned t (n + 1) first (slice_set old n now)
turned_step t n first old column now is here becomes = record {
  same = length-set old n now ∙ is.same;
  done = λ place x less at. elim (cases_eq place n) [
    | inl same ↦ (let e : column ≡ x = same_Some column x (sym here ∙ is.waiting n (omega arith) ∙ subst (λ k. slice_get first k ≡ Some x) same at) in
        subst (λ k. slice_get (slice_set old n now) k ≡ Some (turned t x)) (sym same)
        (set_here old n now (slice_get_within old n column here) ∙ ap Some (becomes ∙ ap (λ (z : ColumnSeen). turned t z) e)))
    | inr apart ↦ set_other old n place now apart ∙ is.done place x (omega (arith, less, apart)) at
  ];
  waiting = λ place low. set_other old n place now (λ e. omega (arith, e, low)) ∙ is.waiting place (omega (arith, low));
}

next_put : (c limit least : ℕ) (x : Held) (old new : List ColumnSeen) → x.time ≤ limit → c < length old → IsPut old new c x → IsNext old (length old) limit least → IsNext new (length new) limit (min least x.time)
next_put c limit least x old new inside place is next = record {
  within = omega (arith, inside);
  least = λ k column less at. elim (was old new c k x column is at) [
    | Here same o before now ↦ (let l : least ≤ front_time o.held limit = next.least k o (slice_get_within old k o before) before in
        let f : front_time column.held limit ≡ min (front_time o.held limit) x.time = ap (λ (z : ColumnSeen). front_time z.held limit) now ∙ front_put x o.held limit inside in omega (arith, l, f))
    | There apart before ↦ (let l : least ≤ front_time column.held limit = next.least k column (slice_get_within old k column before) before in omega (arith, l))
  ];
  found = λ less. elim (cases_lt least x.time) [
    | inl low ↦ (let w = next.found (omega (arith, less, low)) in elim (cases_eq w.0 c) [
      | inl same ↦ (c, column_with x w.1, omega (arith, is.same, place), is.here w.1 (subst (λ k. slice_get old k ≡ Some w.1) same w.3), front_put x w.1.held limit inside ∙ omega (arith, low, w.4))
      | inr apart ↦ (w.0, w.1, omega (arith, is.same, w.2), is.others w.0 apart ∙ w.3, omega (arith, low, w.4))
    ])
    | inr high ↦ (let w = get_some old c place in let l : least ≤ front_time w.0.held limit = next.least c w.0 place w.1 in
        (c, column_with x w.0, omega (arith, is.same, place), is.here w.0 w.1, front_put x w.0.held limit inside ∙ omega (arith, high, l)))
  ];
}

-- ---- cells that are only announced

given_put : (c : ℕ) (x : Held) (old new : List ColumnSeen) → is_some x.value ≡ true → IsPut old new c x → AreAllGiven old → AreAllGiven new
given_put c x old new some is given k column at = elim (was old new c k x column is at) [
  | Here same o before now ↦ subst (λ (z : ColumnSeen). HaveValues z.held) (sym now) (values_put x o.held some (given k o before))
  | There apart before ↦ given k column before
]

values_after : (t : ℕ) (xs : List Held) → HaveValues xs → HaveValues (held_after xs t)
unfolding HaveValues
values_after t [] h = tt
values_after t (x ∷ xs) h = elim (cases_eq x.time t) [
  | inl same ↦ rw (eq-eqb x.time t same) h.1
  | inr apart ↦ rw (ne_eqb x.time t apart) h
]

pub given_turned : (t : ℕ) (columns new : List ColumnSeen) → AreTurned t (length columns) columns new → AreAllGiven columns → AreAllGiven new
given_turned t columns new turns given k column at =
    let w : (old : ColumnSeen) × (slice_get columns k ≡ Some old) × (column ≡ turned t old) = turned_was columns new t k column turns at in
    subst (λ (z : ColumnSeen). HaveValues z.held) (sym w.2) (values_after t w.0.held (given k w.0 w.1))

given_waits : (t : ℕ) (xs : List Held) → HaveValues xs → waits xs t ≡ false
unfolding HaveValues
given_waits t [] h = refl
given_waits t (x ∷ xs) h = rw h.0 (and_false (nat_eq x.time t))
  where
    and_false : (b : Bool) → (b && not true) ≡ false
    and_false true = refl
    and_false false = refl

pub given_none_waits : (columns : List ColumnSeen) (least t n : ℕ) (announces : Bool) → AreKept columns least announces → announces ≡ false → NoneWaits columns t n
given_none_waits columns least t n announces kept none k column less at = given_waits t column.held (kept.given none k column at)

-- ---- both

pub kept_put : (c least now : ℕ) (announces announced : Bool) (x : Held) (old new : List ColumnSeen) → x.time ≤ 2 ^ 64 - 1 → c < length old → IsPut old new c x → now ≡ min least x.time
    → (announced ≡ false → (announces ≡ false) × (is_some x.value ≡ true)) → AreKept old least announces → AreKept new now announced
kept_put c least now announces announced x old new inside place is time_is told kept = record {
  next = subst (λ k. IsNext new (length new) (2 ^ 64 - 1) k) (sym time_is) (next_put c (2 ^ 64 - 1) least x old new inside place is kept.next);
  given = λ none. given_put c x old new (told none).1 is (kept.given (told none).0);
}

pub kept_fresh : (variables : List Variable) → AreKept (map fresh variables) (2 ^ 64 - 1) false
unfolding HaveValues
kept_fresh variables = record {
  next = record {
    within = omega arith;
    least = λ k column less at. (let w = fresh_of variables k column at in let e : front_time column.held (2 ^ 64 - 1) ≡ 2 ^ 64 - 1 = ap (λ (z : ColumnSeen). front_time z.held (2 ^ 64 - 1)) w.2 in omega (arith, e));
    found = λ less. absurd (omega (arith, less));
  };
  given = λ _ k column at. (let w = fresh_of variables k column at in subst (λ (z : ColumnSeen). HaveValues z.held) (sym w.2) tt);
}

stated_values : (format : Format) (samples : List Stamp) → HaveValues (map (held_in format) samples)
unfolding HaveValues
stated_values format [] = tt
stated_values format (x ∷ xs) = (refl, stated_values format xs)

pub kept_stated : (variables : List Variable) (states : List ColumnStateOf) (columns : List ColumnSeen) (least : ℕ) → length states ≡ length variables → AreColumnsIn variables states (length states) columns
    → IsNext columns (length columns) (2 ^ 64 - 1) least → AreKept columns least false
kept_stated variables states columns least long are next = record {
  next = next;
  given = λ _ k column at. (let w = one_at variables states columns long are k column at in subst (λ (z : ColumnSeen). HaveValues z.held) (sym w.is) (stated_values w.variable.format w.state.samples));
}
