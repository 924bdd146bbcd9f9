-- A tracking that goes on inside a run.
use Rattle.std.proofs.Common.{◌≡◌, ◌∙◌, ◌<◌, ◌≤◌, ◌+◌, ◌-◌, ◌*◌, ◌++◌, ℕ, ℤ, Bool, true, false, if◌then◌else◌, List, [], ◌∷◌, Option, Some, None, option_map, drop, length, map, slice_get, slice_set, refl, sym, ap, subst, inl, inr, arith}
use Rattle.std.proofs.lemmas.Bool.{cases_lt, eq-eqb, ne_eqb}
use Rattle.std.proofs.lemmas.List.{length-append}
use Rattle.std.proofs.lemmas.Option.{slice_get_past, slice_get_within}
use Rattle.std.proofs.Math.ListN.{drop_of_length-le}
use Rattle.tdf_bind_connections.specs.declared.traces.TraceRow.{TraceRow}
use Rattle.tdf_fixed.specs.declared.format.Format.{Format}
use Rattle.tdf_fixed.specs.declared.raw.Raw.{Raw}
use Rattle.tdf_saved.specs.State.{ColumnStateOf}
use Rattle.tdf_saved.specs.declared.state.Stamp.{Stamp}
use Rattle.tdf_trace.proofs.Alike.{stands_alike}
use Rattle.tdf_trace.proofs.ColumnPlaces.{Here, There, get_some, replaced, set_map, set_other, some_same}
use Rattle.tdf_trace.proofs.Firsts.{below_total, full}
use Rattle.tdf_trace.proofs.Stated.{get_zip, number_apart, number_here}
use Rattle.tdf_trace.specs.Calls.{Holds}
use Rattle.tdf_trace.specs.Stands.{RowsSeen, Stands}
use Rattle.tdf_trace.specs.Starts.{AgreeOutside, AreSampledBy, IsLaterOf, IsResumed, IsSampledBy, TakesStart, stamps_after_first, with_one}
use Rattle.tdf_trace.specs.States.{cell_stated, cells_of_states}
use Rattle.tdf_trace.specs.Tracked.{TrackedOf, label}
use Rattle.tdf_trace.specs.Traces.{IsTrackingOf, sample_or, with_signal_samples}
use Rattle.tdf_trace.specs.Tracks.{AreTracked, IsChain, Tracks, known_by, known_cell}
use Rattle.tdf_trace.specs.declared.about.Variable.{Variable}
use Rattle.tdf_trace.specs.machine.Finding.{Finds, found}
use Rattle.tdf_trace.specs.machine.Firsts.{known_cells}
use Rattle.tdf_trace_rows.proofs.Api.{stamped_begin, time_is}
use Rattle.tdf_trace_rows.specs.Positions.{Span, count_of_spans, position_at, time_in_spans}
use Rattle.tdf_trace_rows.specs.Rows.{Cells}
use Rattle.tdf_trace_rows.specs.Stamping.{IsStamping}
use Rattle.tdf_trace_rows.specs.declared.stamps.Stamps.{Stamps}
use Rattle.tdf_trace_states.specs.ColumnStates.{sample_in, stamped_cell}

-- ---- one signal goes on

-- the signal at a place with other stamps and samples that wait
abbrev pub resumed : TrackedOf → (since : ℕ) → Stamps → List Raw → TrackedOf
resumed t since stamps later = record t { since = since; stamps = stamps; waiting = later }

drop_held : (held later : List Raw) → later ≡ drop (length held) (held ++ later)
drop_held [] later = refl
drop_held (x ∷ xs) later = drop_held xs later

-- a signal has one place
place_of : (places : List (Option ℕ)) (list : List TrackedOf) (place j : ℕ) (t w : TrackedOf) → Finds places list → slice_get list place ≡ Some t → slice_get list j ≡ Some w → w.signal ≡ t.signal → j ≡ place
place_of places list place j t w finds at aw same = some_same j place (sym (finds.back j w aw) ∙ ap (found places) same ∙ finds.back place t at)

pub later_is : (signal : ℕ) (places : List (Option ℕ)) (list : List TrackedOf) (place : ℕ) (t : TrackedOf) (nums : List ℤ) → Finds places list → slice_get list place ≡ Some t → t.signal ≡ signal
    → nums ≡ map (λ (v : Raw). v.num) t.waiting → IsLaterOf signal list nums
later_is signal places list place t nums finds at is same = record {
  here = λ j w aw e. same ∙ ap (λ (v : TrackedOf). map (λ (x : Raw). x.num) v.waiting) (some_same t w (sym at ∙ ap (slice_get list) (sym (place_of places list place j t w finds at aw (e ∙ sym is))) ∙ aw));
  none = λ no. absurd (no place t at is);
}

module _ (signal since : ℕ) (stamps : Stamps) (later : List Raw) (places : List (Option ℕ)) (list : List TrackedOf) (place : ℕ) (t : TrackedOf) (finds : Finds places list) (at : slice_get list place ≡ Some t)
    (is : t.signal ≡ signal) where
  abbrev u : TrackedOf
  u = resumed t since stamps later

  one_place : (j : ℕ) (w : TrackedOf) → slice_get list j ≡ Some w → w.signal ≡ signal → j ≡ place
  one_place j w aw e = place_of places list place j t w finds at aw (e ∙ sym is)

  -- what holds of it then
  here_is : (P : TrackedOf → Type 0) → P u → (j : ℕ) (w : TrackedOf) → slice_get (slice_set list place u) j ≡ Some w → w.signal ≡ signal → P w
  here_is P so j w aw e = elim (replaced list place u t j w at aw) [
    | Here same k ↦ subst P (sym k) so
    | There apart old ↦ absurd (apart (one_place j w old e))
  ]

  pub is_resumed : IsResumed signal since stamps later list (slice_set list place u)
  is_resumed = record {
    labels = set_map label list place u t at refl;
    since = here_is (λ w. w.since ≡ since) refl;
    stamps = here_is (λ w. w.stamps ≡ stamps) refl;
    waiting = here_is (λ w. w.waiting ≡ later) refl;
    others = λ j w differs aw. set_other list place j u (λ e. differs (ap (λ (v : TrackedOf). v.signal) (some_same w t (sym aw ∙ ap (slice_get list) e ∙ at)) ∙ is)) ∙ aw;
  }

  pub start_taken : (0 < length later → stamps.left ≡ 0) → TakesStart signal stamps later list (slice_set list place u)
  start_taken idle spans samples its held chained stamping tracked j w aw = elim (replaced list place u t j w at aw) [
    | Here same k ↦ subst (λ (v : TrackedOf). Tracks (with_one spans signal its v.signal) (with_one samples signal (held ++ later) v.signal) v) (sym k)
        (subst (λ xs. Tracks xs (with_one samples signal (held ++ later) t.signal) u) (sym (chosen spans t.signal its is)) (subst (λ ys. Tracks its ys u) (sym (chosen samples t.signal (held ++ later) is)) (record {
          done = length held;
          stamping = stamping;
          many = sym (length-append held later);
          waiting = drop_held held later;
          idle = idle;
          chained = chained;
        })))
    | There apart old ↦ (let differs = λ (e : w.signal ≡ signal). apart (one_place j w old e) in
        subst (λ xs. Tracks xs (with_one samples signal (held ++ later) w.signal) w) (sym (left spans w.signal its differs))
        (subst (λ ys. Tracks (spans w.signal) ys w) (sym (left samples w.signal (held ++ later) differs)) (tracked j w old)))
  ]
    where
      chosen : {A : Type 0} (f : ℕ → A) (s : ℕ) (a : A) → s ≡ signal → with_one f signal a s ≡ a
      chosen f s a same = rw (eq-eqb s signal same) refl

      left : {A : Type 0} (f : ℕ → A) (s : ℕ) (a : A) → (s ≡ signal → ⊥) → with_one f signal a s ≡ f s
      left f s a apart = rw (ne_eqb s signal apart) refl

-- a signal that isn't tracked
pub passed_resumed : (signal since : ℕ) (stamps : Stamps) (later : List Raw) (list : List TrackedOf) → ((j : ℕ) (t : TrackedOf) → slice_get list j ≡ Some t → t.signal ≡ signal → ⊥) → IsResumed signal since stamps later list list
passed_resumed signal since stamps later list none = record {
  labels = refl;
  since = λ j t at e. absurd (none j t at e);
  stamps = λ j t at e. absurd (none j t at e);
  waiting = λ j t at e. absurd (none j t at e);
  others = λ j t differs at. at;
}

pub passed_start : (signal : ℕ) (stamps : Stamps) (later : List Raw) (list : List TrackedOf) → ((j : ℕ) (t : TrackedOf) → slice_get list j ≡ Some t → t.signal ≡ signal → ⊥) → TakesStart signal stamps later list list
passed_start signal stamps later list none spans samples its held chained stamping tracked j w aw =
    subst (λ xs. Tracks xs (with_one samples signal (held ++ later) w.signal) w) (sym (left spans its)) (subst (λ ys. Tracks (spans w.signal) ys w) (sym (left samples (held ++ later))) (tracked j w aw))
  where
    left : {A : Type 0} (f : ℕ → A) (a : A) → with_one f signal a w.signal ≡ f w.signal
    left f a = rw (ne_eqb w.signal signal (none j w aw)) refl

pub no_later : (signal : ℕ) (list : List TrackedOf) (nums : List ℤ) → ((j : ℕ) (t : TrackedOf) → slice_get list j ≡ Some t → t.signal ≡ signal → ⊥) → nums ≡ [] → IsLaterOf signal list nums
no_later signal list nums none empty = record { here = λ j t at e. absurd (none j t at e); none = λ no. empty }

-- the stamps of a last span
pub last_stamps : (early : List Span) (span : Span) (done : ℕ) → done ≤ span.count → IsStamping (early ++ span ∷ []) (count_of_spans early + done) (stamps_after_first span done)
last_stamps early span done less =
    let none : IsStamping early (count_of_spans early) (record { time = 0; step = 0; left = 0 }) = record {
      whole = (let e : count_of_spans early ≡ count_of_spans early + 0 = omega arith in e);
      ahead = λ i low. absurd (omega (arith, low));
    } in
    let all = stamped_begin early (count_of_spans early) 0 0 0 span.start span.step span.count refl none in record {
      whole = all.whole ∙ (let e : count_of_spans early + span.count ≡ count_of_spans early + done + (span.count - done) = omega (arith, less) in e);
      ahead = λ i low. (let e : count_of_spans early + done + i ≡ count_of_spans early + (done + i) = omega arith in
          let f : (done + i) * span.step ≡ done * span.step + i * span.step = grind arith in
          let g : span.start + (done + i) * span.step ≡ span.start + done * span.step + i * span.step = omega (arith, f) in
          ap (time_in_spans (early ++ span ∷ [])) e ∙ all.ahead (done + i) (omega (arith, low)) ∙ ap Some g);
    }

-- ---- the samples that wait are those without a position

pub rest_waits : (spans : List Span) (samples : List Raw) (t : TrackedOf) → Tracks spans samples t → t.waiting ≡ drop (count_of_spans spans) samples
rest_waits spans samples t k =
    let w : count_of_spans spans ≡ k.done + t.stamps.left = k.stamping.whole in
    let m : k.done + length t.waiting ≡ length samples = k.many in
    elim (cases_lt 0 t.stamps.left) [
      | inl more ↦ (let f : k.done ≡ length samples = full spans samples t k more in
          k.waiting ∙ drop_of_length-le samples (let a : length samples ≤ k.done = omega (arith, f) in a) ∙ sym (drop_of_length-le samples (let b : length samples ≤ count_of_spans spans = omega (arith, f, w) in b)))
      | inr none ↦ (let e : k.done ≡ count_of_spans spans = omega (arith, w, none) in k.waiting ∙ ap (λ n. drop n samples) e)
    ]

-- ---- the cells of positions with a sample, by states

module _ (spans : List Span) (samples : List Raw) (format : Format) (s : ColumnStateOf) (chained : IsChain spans) (sampled : IsSampledBy spans samples format s) where
  -- a sample of the state at the time of position j is its sample j
  is_at : (time i j : ℕ) (x : Stamp) → position_at 0 spans time ≡ Some j → slice_get s.samples i ≡ Some x → x.time ≡ time → i ≡ j
  is_at time i j x at here same =
      let t : time_in_spans spans i ≡ Some time = sampled.times i x here ∙ ap Some same in
      let p : 0 + i ≡ j = some_same (0 + i) j (sym (time_is chained.0 0 spans i time chained.1 t).1 ∙ at) in omega (arith, p)

  pub known_stated : (time : ℕ) → stamped_cell format s time ≡ known_cells spans samples time
  known_stated time = go (position_at 0 spans time) refl
    where
      cell : (j : ℕ) → j < length samples → position_at 0 spans time ≡ Some j → j < count_of_spans spans → stamped_cell format s time ≡ known_cell (Some (slice_get samples j))
      cell j less at inside = (
          let w = get_some s.samples j (sampled.all j inside less) in
          let same : w.0.time ≡ time = some_same w.0.time time (sym (sampled.times j w.0 w.1) ∙ (below_total spans time j chained at).1) in
          ap (option_map (λ num. Some (sample_in format num))) (number_here time s.samples j w.0 w.1 same (λ i y less here e. let q = is_at time i j y at here e in absurd (omega (arith, q, less))))
          ∙ sym (ap (λ (o : Option Raw). known_cell (Some o)) (sampled.values j w.0 w.1)))

      go : (o : Option ℕ) → position_at 0 spans time ≡ o → stamped_cell format s time ≡ known_cell (option_map (slice_get samples) o)
      go None at = ap (option_map (λ num. Some (sample_in format num))) (number_apart time s.samples (λ i x here same.
          none_some i (sym at ∙ (time_is chained.0 0 spans i time chained.1 (sampled.times i x here ∙ ap Some same)).1)))
        where
          none_some : (n : ℕ) → None ≡ Some (0 + n) → ⊥
          none_some n e = absurd (grind (arith, e))
      go (Some j) at = elim (cases_lt j (length samples)) [
        | inl less ↦ cell j less at (below_total spans time j chained at).0
        | inr past ↦ ap (option_map (λ num. Some (sample_in format num))) (number_apart time s.samples (λ i x here same.
            let q = is_at time i j x at here same in let l = slice_get_within samples i (sample_in format x.num) (sampled.values i x here) in absurd (omega (arith, q, l, past))))
            ∙ sym (ap (λ (o : Option Raw). known_cell (Some o)) (slice_get_past samples j past))
      ]

-- ---- all together

pub holds_resumed : (traces : List TraceRow) (cells : Cells) (spans : ℕ → List Span) (samples : ℕ → List Raw) (list : List TrackedOf) (rows : RowsSeen) (variables : List Variable) (states : List ColumnStateOf)
    → IsTrackingOf traces list → AreTracked spans samples list → AreSampledBy traces spans samples variables states → AgreeOutside traces (cells_of_states variables states) cells
    → Stands (cells_of_states variables states) rows → Holds traces cells spans samples list rows
holds_resumed traces cells spans samples list rows variables states of tracked sampled agree stands = record {
  of = of;
  tracked = tracked;
  stands = stands_alike (cells_of_states variables states) (with_signal_samples traces cells (known_by spans samples)) rows
      (λ below. record { columns = agree.columns; first = λ c less. agree.first c less; cells = λ c time inside low. same c time inside (slice_get traces c) refl }) stands;
}
  where
    chained : (signal : ℕ) (place : ℕ) (t : TrackedOf) → slice_get list place ≡ Some t → t.signal ≡ signal → IsChain (spans signal)
    chained signal place t at is = subst (λ n. IsChain (spans n)) is (tracked place t at).chained

    same : (c time : ℕ) → c < length variables → (o : Option TraceRow) → slice_get traces c ≡ o → (cells_of_states variables states).at c time ≡ sample_or o (λ k. known_by spans samples k time) (cells.at c time)
    same c time inside None e = agree.cells c time inside (λ row at. absurd (none_some row (sym e ∙ at)))
      where
        none_some : (row : TraceRow) → None ≡ Some row → ⊥
        none_some row k = absurd (grind (arith, k))
    same c time inside (Some row) e = go row.event refl
      where
        go : (b : Bool) → row.event ≡ b → (cells_of_states variables states).at c time ≡ (if b then cells.at c time else known_by spans samples row.signal time)
        go true is = agree.cells c time inside (λ r at. ap (λ (x : TraceRow). x.event) (some_same r row (sym at ∙ e)) ∙ is)
        go false is = (
            let v = get_some variables c inside in
            let s = get_some states c (let l = sampled.long in omega (arith, l, inside)) in
            let w = of.all c row e is in
            ap (λ o. cell_stated o time) (get_zip variables states c v.0 s.0 v.1 s.1)
            ∙ known_stated (spans row.signal) (samples row.signal) v.0.format s.0 (chained row.signal w.place w.it w.there w.same) (sampled.each c row v.0 s.0 e is v.1 s.1) time)
