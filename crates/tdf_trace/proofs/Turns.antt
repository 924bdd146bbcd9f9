-- Columns that go to a row.
use Rattle.std.proofs.Common.{◌≡◌, ◌≢◌, ℕ, ◌+◌, ◌<◌, ◌≤◌, ◌⊎◌, true, false, not, ◌&&◌, List, [], ◌∷◌, length, slice_get, Option, Some, None, is_some, unwrap_or, refl, ap, sym, ◌∙◌, subst, inl, inr, arith}
use Rattle.std.proofs.lemmas.Bool.{cases_eq, cases_lt, eq-eqb, ne_eqb, true≢false}
use Rattle.tdf_fixed.specs.declared.raw.Raw.{Raw}
use Rattle.tdf_trace.proofs.Places.{get_less, get_some}
use Rattle.tdf_trace.specs.Columns.{ColumnSeen, HasFewPlaces, held_at}
use Rattle.tdf_trace.specs.Stands.{RowsSeen}
use Rattle.tdf_trace.specs.declared.column.Held.{Held}
use Rattle.tdf_trace.specs.machine.Turning.{AreSound, AreTurned, HaveFewPlaces, IsNext, IsNextRow, IsSound, Rising, front_time, held_after, shown_after, turned, waits}
use Rattle.tdf_trace.specs.views.Seen.{AreShown}

pub held_low : (a s : ℕ) (xs : List Held) → Rising a xs → s < a → held_at xs s ≡ None
unfolding Rising held_at
held_low a s [] r less = refl
held_low a s (x ∷ xs) r less = let l : a ≤ x.time = r.0 in rw (ne_eqb x.time s (λ e. omega (arith, e, l, less))) (held_low (x.time + 1) s xs r.1 (omega (arith, l, less)))

turned_rising : (t : ℕ) (xs : List Held) → Rising t xs → Rising (t + 1) (held_after xs t)
unfolding Rising
turned_rising t [] r = tt
turned_rising t (x ∷ xs) r = elim (cases_eq x.time t) [
  | inl same ↦ rw (eq-eqb x.time t same) (subst (λ n. Rising (n + 1) xs) same r.1)
  | inr apart ↦ rw (ne_eqb x.time t apart) ((let l : t ≤ x.time = r.0 in omega (arith, l, apart)), r.1)
]

turned_few : (t : ℕ) (xs : List Held) → HaveFewPlaces xs → HaveFewPlaces (held_after xs t)
unfolding HaveFewPlaces
turned_few t [] r = tt
turned_few t (x ∷ xs) r = elim (cases_eq x.time t) [
  | inl same ↦ rw (eq-eqb x.time t same) r.1
  | inr apart ↦ rw (ne_eqb x.time t apart) r
]

turned_can : (t : ℕ) (xs : List Held) (shown : Option Raw) → HaveFewPlaces xs → HasFewPlaces shown → HasFewPlaces (shown_after xs t shown)
unfolding HaveFewPlaces
turned_can t [] shown r few = few
turned_can t (x ∷ xs) shown r few = elim (cases_eq x.time t) [
  | inl same ↦ rw (eq-eqb x.time t same) r.0
  | inr apart ↦ rw (ne_eqb x.time t apart) few
]

turned_sound : (t : ℕ) (column : ColumnSeen) → IsSound t column → IsSound (t + 1) (turned t column)
turned_sound t column is = record {
  rising = turned_rising t column.held is.rising;
  few = turned_few t column.held is.few;
  shown = turned_can t column.held column.shown is.few is.shown;
}

pub turned_held : (t s : ℕ) (xs : List Held) → t < s → held_at (held_after xs t) s ≡ held_at xs s
unfolding held_at
turned_held t s [] more = refl
turned_held t s (x ∷ xs) more = elim (cases_eq x.time t) [
  | inl same ↦ rw (eq-eqb x.time t same, ne_eqb x.time s (λ e. omega (arith, e, same, more))) refl
  | inr apart ↦ rw (ne_eqb x.time t apart) refl
]

pub turned_shown : (t : ℕ) (xs : List Held) (shown : Option Raw) → Rising t xs → shown_after xs t shown ≡ unwrap_or (held_at xs t) shown
unfolding held_at Rising
turned_shown t [] shown r = refl
turned_shown t (x ∷ xs) shown r = elim (cases_eq x.time t) [
  | inl same ↦ rw (eq-eqb x.time t same) refl
  | inr apart ↦ let l : t ≤ x.time = r.0 in let e : held_at xs t ≡ None = held_low (x.time + 1) t xs r.1 (omega (arith, l)) in rw (ne_eqb x.time t apart, e) refl
]

-- the column before it was turned
pub turned_was : (columns new : List ColumnSeen) (t c : ℕ) (column : ColumnSeen) → AreTurned t (length columns) columns new → slice_get new c ≡ Some column
    → (old : ColumnSeen) × (slice_get columns c ≡ Some old) × (column ≡ turned t old)
turned_was columns new t c column turns at =
    let n : length new ≡ length columns = turns.same in let l : c < length new = get_less new c column at in
    let w : (x : ColumnSeen) × (slice_get columns c ≡ Some x) = get_some columns c (omega (arith, n, l)) in
    let e : slice_get new c ≡ Some (turned t w.0) = turns.done c w.0 (omega (arith, n, l)) w.1 in
    (w.0, w.1, grind (arith, e, at))

pub sound_on : (columns new : List ColumnSeen) (t : ℕ) → AreSound t columns → AreTurned t (length columns) columns new → AreSound (t + 1) new
sound_on columns new t sound turns c column at =
    let w : (old : ColumnSeen) × (slice_get columns c ≡ Some old) × (column ≡ turned t old) = turned_was columns new t c column turns at in
    subst (λ (x : ColumnSeen). IsSound (t + 1) x) (sym w.2) (turned_sound t w.0 (sound c w.0 w.1))

pub sound_shown : (upto : ℕ) (columns : List ColumnSeen) → AreSound upto columns → AreShown columns
sound_shown upto columns sound c column at = (sound c column at).shown

-- a first cell that is announced, and none
pub waits_for : (t : ℕ) (xs : List Held) → waits xs t ≡ true → held_at xs t ≡ Some None
unfolding held_at
waits_for t [] h = absurd (true≢false (sym h))
waits_for t (x ∷ xs) h = elim (cases_eq x.time t) [
  | inl same ↦ rw (eq-eqb x.time t same) (ap Some (unknown x.value (subst (λ p. (p && not (is_some x.value)) ≡ true) (eq-eqb x.time t same) h)))
  | inr apart ↦ absurd (true≢false (sym (subst (λ p. (p && not (is_some x.value)) ≡ true) (ne_eqb x.time t apart) h)))
]
  where
    unknown : (o : Option Raw) → not (is_some o) ≡ true → o ≡ None
    unknown None h = refl
    unknown (Some v) h = absurd (true≢false (sym h))

pub waits_not : (t : ℕ) (xs : List Held) → Rising t xs → waits xs t ≡ false → held_at xs t ≢ Some None
unfolding held_at Rising
waits_not t [] r h = λ e. absurd (grind (arith, e))
waits_not t (x ∷ xs) r h = elim (cases_eq x.time t) [
  | inl same ↦ rw (eq-eqb x.time t same) (known x.value (subst (λ p. (p && not (is_some x.value)) ≡ false) (eq-eqb x.time t same) h))
  | inr apart ↦ (let l : t ≤ x.time = r.0 in let e : held_at xs t ≡ None = held_low (x.time + 1) t xs r.1 (omega (arith, l)) in rw (ne_eqb x.time t apart, e) (λ i. absurd (grind (arith, i))))
]
  where
    known : (o : Option Raw) → not (is_some o) ≡ false → Some o ≢ Some None
    known None h e = true≢false h
    known (Some v) h e = absurd (grind (arith, e))

-- what the code knows of the next row
abbrev pub HasRow : ℕ → List ColumnSeen → Type 0
HasRow t columns = (t ≡ 0) ⊎ ((c : ℕ) × (column : ColumnSeen) × (v : Option Raw) × (slice_get columns c ≡ Some column) × (held_at column.held t ≡ Some v))

pub record Next (rows : RowsSeen) (limit t : ℕ) : Type 0 where
  pub low : rows.upto ≤ t
  pub within : t ≤ limit
  pub sound : AreSound t rows.columns
  pub start : rows.upto ≡ 0 → t ≡ 0
  pub row : t < limit → HasRow t rows.columns

rise : (a t limit : ℕ) (xs : List Held) → Rising a xs → t ≤ front_time xs limit → Rising t xs
unfolding Rising
rise a t limit [] r low = tt
rise a t limit (x ∷ xs) r low = (low, r.1)

front_low : (a t limit : ℕ) (xs : List Held) → Rising a xs → front_time xs limit ≡ t → t < limit → a ≤ t
unfolding Rising
front_low a t limit [] r is less = absurd (omega (arith, is, less))
front_low a t limit (x ∷ xs) r is less = let l : a ≤ x.time = r.0 in omega (arith, l, is)

front_held : (t limit : ℕ) (xs : List Held) → front_time xs limit ≡ t → t < limit → (v : Option Raw) × (held_at xs t ≡ Some v)
unfolding held_at
front_held t limit [] is less = absurd (omega (arith, is, less))
front_held t limit (x ∷ xs) is less = (x.value, rw (eq-eqb x.time t is) refl)

pub next : (rows : RowsSeen) (limit t : ℕ) → AreSound rows.upto rows.columns → IsNextRow rows limit t → rows.upto < limit → Next rows limit t
next rows limit t sound is below = elim (cases_eq rows.upto 0) [
  | inl none ↦ (let e : t ≡ 0 = is.first none in record {
    low = omega (arith, none);
    within = omega (arith, e);
    sound = subst (λ n. AreSound n rows.columns) (none ∙ sym e) sound;
    start = λ _. e;
    row = λ _. inl e;
  })
  | inr more ↦ (let n : IsNext rows.columns (length rows.columns) limit t = is.later (omega (arith, more)) in record {
    low = elim (cases_lt t limit) [
      | inl less ↦ (let w = n.found less in front_low rows.upto t limit w.1.held ((sound w.0 w.1 w.3).rising) w.4 less)
      | inr past ↦ omega (arith, past, below)
    ];
    within = n.within;
    sound = λ c column at. record {
      rising = rise rows.upto t limit column.held ((sound c column at).rising) (n.least c column (get_less rows.columns c column at) at);
      few = (sound c column at).few;
      shown = (sound c column at).shown;
    };
    start = λ z. absurd (more z);
    row = λ less. inr (let w = n.found less in let v = front_held t limit w.1.held w.4 less in (w.0, w.1, v.0, w.3, v.1));
  })
]
