-- The cells of the first positions of a signal.
use Rattle.std.proofs.Common.{◌≡◌, ℕ, ◌+◌, ◌-◌, ◌*◌, ◌<◌, ◌≤◌, Bool, true, false, nat_eq, nat_lt, nat_le, ◌&&◌, if◌then◌else◌, Option, Some, None, option_map, List, [], ◌∷◌, ◌++◌, length, slice_get, refl, ap, sym, ◌∙◌, subst, inl, inr, arith}
use Rattle.std.proofs.lemmas.Bool.{cases_eq, cases_lt, eq-eqb, ne_eqb, lt-ltb, le-ltb}
use Rattle.std.proofs.lemmas.Option.{slice_get_past}
use Rattle.tdf_trace.proofs.ColumnPlaces.{get_first, get_some, some_same}
use Rattle.tdf_trace.specs.Tracked.{TrackedOf}
use Rattle.tdf_trace.specs.Tracks.{IsChain, Tracks, known_cell}
use Rattle.tdf_trace.specs.machine.Firsts.{first_cell, first_cells, known_cells}
use Rattle.tdf_fixed.specs.declared.raw.Raw.{Raw}
use Rattle.tdf_trace_rows.proofs.Api.{has_times, position_is, time_is}
use Rattle.tdf_trace_rows.specs.Positions.{Span, cell_of, span_end, is_position, place_in_span, position_at, time_in_spans, count_of_spans}
use Rattle.tdf_trace_rows.specs.Stamping.{IsStamping}
use Rattle.tdf_trace_rows.specs.declared.stamps.Stamps.{Stamps}

-- a position at a time has a number below the total, and this time
pub below_total : (spans : List Span) (time j : ℕ) → IsChain spans → position_at 0 spans time ≡ Some j → (j < count_of_spans spans) × (time_in_spans spans j ≡ Some time)
below_total spans time j chained at =
    let w = position_is chained.0 0 spans j time chained.1 at in
    let e : w.0 ≡ j = (let f : j ≡ 0 + w.0 = w.1 in omega (arith, f)) in
    let t : time_in_spans spans j ≡ Some time = subst (λ k. time_in_spans spans k ≡ Some time) e w.2 in (
      elim (cases_lt j (count_of_spans spans)) [
        | inl less ↦ less
        | inr past ↦ absurd (none_some time (sym ((has_times spans j).1 past) ∙ t))
      ],
      t,
    )
  where
    none_some : (n : ℕ) → None ≡ Some n → ⊥
    none_some n e = absurd (grind (arith, e))

next_time : (spans : List Span) (n : ℕ) (stamps : Stamps) → IsStamping spans n stamps → 0 < stamps.left → time_in_spans spans n ≡ Some stamps.time
next_time spans n stamps is more = let e : n ≡ n + 0 = omega arith in let f : stamps.time + 0 * stamps.step ≡ stamps.time = omega arith in
    ap (time_in_spans spans) e ∙ is.ahead 0 more ∙ ap Some f

-- the next position is the one at its time
is_next : (spans : List Span) (n : ℕ) (stamps : Stamps) → IsChain spans → IsStamping spans n stamps → 0 < stamps.left → (time : ℕ)
    → is_position (position_at 0 spans time) n ≡ nat_eq stamps.time time
is_next spans n stamps chained is more time = elim (cases_eq stamps.time time) [
  | inl same ↦ rw (eq-eqb stamps.time time same) (ap (λ s. is_position (position_at 0 spans s) n) (sym same) ∙ ap (λ o. is_position o n) at_next ∙ eq-eqb (0 + n) n (omega arith))
  | inr apart ↦ rw (ne_eqb stamps.time time apart) (other (position_at 0 spans time) refl apart)
]
  where
    here : time_in_spans spans n ≡ Some stamps.time
    here = next_time spans n stamps is more

    at_next : position_at 0 spans stamps.time ≡ Some (0 + n)
    at_next = (time_is chained.0 0 spans n stamps.time chained.1 (next_time spans n stamps is more)).1

    other : (o : Option ℕ) → position_at 0 spans time ≡ o → (stamps.time ≡ time → ⊥) → is_position o n ≡ false
    other None e apart = refl
    other (Some j) e apart = ne_eqb j n (λ s. apart (some_same stamps.time time
        (sym (next_time spans n stamps is more) ∙ ap (time_in_spans spans) (sym s) ∙ (below_total spans time j chained e).1)))

less_same : (j n : ℕ) → (j ≡ n → ⊥) → nat_lt j (n + 1) ≡ nat_lt j n
less_same j n apart = elim (cases_lt j n) [
  | inl less ↦ rw (lt-ltb j n less, lt-ltb j (n + 1) (omega (arith, less))) refl
  | inr past ↦ rw (le-ltb j n past, le-ltb j (n + 1) (omega (arith, past, apart))) refl
]

first_more : (samples : List Raw) (n : ℕ) (o : Option ℕ) → first_cell samples (n + 1) o ≡ (if is_position o n then Some (slice_get samples n) else first_cell samples n o)
first_more samples n None = refl
first_more samples n (Some j) = elim (cases_eq j n) [
  | inl same ↦ rw (eq-eqb j n same, lt-ltb j (n + 1) (omega (arith, same))) (ap (λ k. Some (slice_get samples k)) same)
  | inr apart ↦ rw (ne_eqb j n apart) (ap (λ (p : Bool). if p then Some (slice_get samples j) else None) (less_same j n apart))
]

-- the cells of one position more
pub next_cells : (spans : List Span) (samples : List Raw) (n : ℕ) (stamps : Stamps) → IsChain spans → IsStamping spans n stamps → 0 < stamps.left → (time : ℕ)
    → first_cells spans samples (n + 1) time ≡ (if nat_eq stamps.time time then Some (slice_get samples n) else first_cells spans samples n time)
next_cells spans samples n stamps chained is more time =
    first_more samples n (position_at 0 spans time)
    ∙ ap (λ (p : Bool). if p then Some (slice_get samples n) else first_cells spans samples n time) (is_next spans n stamps chained is more time)

-- where positions have no sample, no sample waits
pub full : (spans : List Span) (samples : List Raw) (t : TrackedOf) (k : Tracks spans samples t) → 0 < t.stamps.left → k.done ≡ length samples
full spans samples t k more = let m : k.done + length t.waiting ≡ length samples = k.many in elim (cases_lt 0 (length t.waiting)) [
  | inl some ↦ absurd (let z : t.stamps.left ≡ 0 = k.idle some in omega (arith, z, more))
  | inr none ↦ omega (arith, none, m)
]

pub within : (spans : List Span) (samples : List Raw) (t : TrackedOf) (k : Tracks spans samples t) → k.done ≤ length samples
within spans samples t k = let m : k.done + length t.waiting ≡ length samples = k.many in omega (arith, m)

-- the cells with a value are those of the positions that have their samples
pub known_first : (spans : List Span) (samples : List Raw) (t : TrackedOf) (k : Tracks spans samples t) (time : ℕ) → known_cells spans samples time ≡ first_cells spans samples k.done time
known_first spans samples t k time = go (position_at 0 spans time) refl
  where
    has : (j : ℕ) → j < length samples → known_cell (Some (slice_get samples j)) ≡ Some (slice_get samples j)
    has j less = let v = get_some samples j less in ap (λ (o : Option Raw). known_cell (Some o)) v.1 ∙ ap Some (sym v.1)

    lacks : (j : ℕ) → length samples ≤ j → known_cell (Some (slice_get samples j)) ≡ None
    lacks j past = ap (λ (o : Option Raw). known_cell (Some o)) (slice_get_past samples j past)

    go : (o : Option ℕ) → position_at 0 spans time ≡ o → known_cell (option_map (slice_get samples) o) ≡ first_cell samples k.done o
    go None e = refl
    go (Some j) e = elim (cases_lt j k.done) [
      | inl less ↦ rw (lt-ltb j k.done less) (has j (let w : k.done ≤ length samples = within spans samples t k in omega (arith, less, w)))
      | inr past ↦ rw (le-ltb j k.done past) (lacks j (
          let b : j < count_of_spans spans = (below_total spans time j k.chained e).0 in
          let w : count_of_spans spans ≡ k.done + t.stamps.left = k.stamping.whole in
          let f : k.done ≡ length samples = full spans samples t k (omega (arith, b, w, past)) in
          omega (arith, f, past)))
    ]

-- a sample more changes no cell of the positions before it
pub first_push : (spans : List Span) (samples : List Raw) (v : Raw) (n time : ℕ) → n ≤ length samples → first_cells spans samples n time ≡ first_cells spans (samples ++ v ∷ []) n time
first_push spans samples v n time small = go (position_at 0 spans time)
  where
    go : (o : Option ℕ) → first_cell samples n o ≡ first_cell (samples ++ v ∷ []) n o
    go None = refl
    go (Some j) = elim (cases_lt j n) [
      | inl less ↦ rw (lt-ltb j n less) (ap Some (sym (get_first samples (v ∷ []) j (omega (arith, less, small)))))
      | inr past ↦ rw (le-ltb j n past) refl
    ]

-- the position at a time among some spans, and with one more
data Pushes (low : ℕ) (old new : Option ℕ) : Type 0 where
  Same : new ≡ old → Pushes low old new
  Later : (k : ℕ) → low ≤ k → old ≡ None → new ≡ Some k → Pushes low old new

push_position : (base : ℕ) (spans : List Span) (span : Span) (time : ℕ) → Pushes (base + count_of_spans spans) (position_at base spans time) (position_at base (spans ++ span ∷ []) time)
unfolding position_at count_of_spans
push_position base [] span time = last (nat_le span.start time && nat_lt time (span_end span)) (place_in_span span time)
  where
    last : (p : Bool) (o : Option ℕ) → Pushes (base + 0) None (if p then option_map (λ place. base + place) o else None)
    last false o = Same refl
    last true None = Same refl
    last true (Some i) = Later (base + i) (omega arith) refl refl
push_position base (q ∷ qs) span time =
    both (nat_le q.start time && nat_lt time (span_end q)) (option_map (λ place. base + place) (place_in_span q time)) _ _ (push_position (base + q.count) qs span time)
  where
    both : (p : Bool) (o old new : Option ℕ) → Pushes (base + q.count + count_of_spans qs) old new → Pushes (base + (q.count + count_of_spans qs)) (if p then o else old) (if p then o else new)
    both true o old new h = Same refl
    both false o old new (Same e) = Same e
    both false o old new (Later k low e f) = Later k (omega (arith, low)) e f

-- a span more changes no cell of the positions before it
pub first_span : (spans : List Span) (span : Span) (samples : List Raw) (n time : ℕ) → n ≡ count_of_spans spans → first_cells spans samples n time ≡ first_cells (spans ++ span ∷ []) samples n time
first_span spans span samples n time all = go (position_at 0 spans time) (position_at 0 (spans ++ span ∷ []) time) (push_position 0 spans span time)
  where
    go : (old new : Option ℕ) → Pushes (0 + count_of_spans spans) old new → first_cell samples n old ≡ first_cell samples n new
    go old new (Same e) = ap (first_cell samples n) (sym e)
    go old new (Later k low e f) = ap (first_cell samples n) e ∙ sym (ap (first_cell samples n) f ∙ rw (le-ltb k n (omega (arith, low, all))) refl)

-- where all positions below an end are among the first, their cells are those of all
pub first_end : (spans : List Span) (samples : List Raw) (n : ℕ) (stamps : Stamps) (end time : ℕ) → IsChain spans → IsStamping spans n stamps
    → (0 < stamps.left → end ≤ stamps.time) → time < end → first_cells spans samples n time ≡ cell_of spans samples time
first_end spans samples n stamps end time chained is last less = go (position_at 0 spans time) refl
  where
    go : (o : Option ℕ) → position_at 0 spans time ≡ o → first_cell samples n o ≡ option_map (slice_get samples) o
    go None e = refl
    go (Some j) e = elim (cases_lt j n) [
      | inl small ↦ rw (lt-ltb j n small) refl
      | inr past ↦ absurd (
          let b = below_total spans time j chained e in
          let w : count_of_spans spans ≡ n + stamps.left = is.whole in
          let l : j < count_of_spans spans = b.0 in
          let i : n + (j - n) ≡ j = omega (arith, past) in
          let t : stamps.time + (j - n) * stamps.step ≡ time =
          some_same _ _ (sym (is.ahead (j - n) (omega (arith, l, w, past))) ∙ ap (time_in_spans spans) i ∙ b.1) in
          let late : end ≤ stamps.time = last (omega (arith, l, w, past)) in
          omega (arith, late, t, less))
    ]
