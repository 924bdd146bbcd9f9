-- Positions before the next one without a sample have their samples.
use Rattle.std.proofs.Common.{◌≡◌, ◌∙◌, ℕ, ◌+◌, ◌*◌, ◌<◌, ◌≤◌, if◌then◌else◌, Option, Some, None, option_map, List, [], ◌∷◌, length, slice_get, refl, ap, sym, inl, inr, arith, ◌-◌}
use Rattle.std.proofs.Math.Nat.{mul-le-mul_right}
use Rattle.std.proofs.lemmas.Bool.{cases_lt, le-ltb, lt-ltb}
use Rattle.tdf_fixed.specs.declared.raw.Raw.{Raw}
use Rattle.tdf_streams.proofs.Api.{get_inside, none_some, some_same}
use Rattle.tdf_trace.proofs.Api.{left_is}
use Rattle.tdf_trace.specs.Tracked.{TrackedOf}
use Rattle.tdf_trace.specs.Tracks.{Tracks, known_cell}
use Rattle.tdf_trace_rows.proofs.Api.{has_times, position_is, time_is}
use Rattle.tdf_trace_rows.specs.Positions.{AreChained, Span, cell_of, count_of_spans, position_at, span_end, time_in_spans}

-- times rise with positions
pub times_rise : (b : ℕ) (spans : List Span) (i j s t : ℕ) → AreChained b spans → time_in_spans spans i ≡ Some s → time_in_spans spans j ≡ Some t → i ≤ j → s ≤ t
unfolding AreChained time_in_spans
times_rise b [] i j s t chained is it low = none_some s is
times_rise b (p ∷ ps) i j s t chained is it low = elim (cases_lt j p.count) [
  | inl late ↦ (
      let e : p.start + i * p.step ≡ s = some_same (p.start + i * p.step) s (sym (ap (λ k. if k then Some (p.start + i * p.step) else time_in_spans ps (i - p.count)) (lt-ltb i p.count (omega (arith, low, late)))) ∙ is) in
      let f : p.start + j * p.step ≡ t = some_same (p.start + j * p.step) t (sym (ap (λ k. if k then Some (p.start + j * p.step) else time_in_spans ps (j - p.count)) (lt-ltb j p.count late)) ∙ it) in
      let m : i * p.step ≤ j * p.step = mul-le-mul_right p.step low in omega (arith, e, f, m))
  | inr past ↦ (
      let f : time_in_spans ps (j - p.count) ≡ Some t = sym (ap (λ k. if k then Some (p.start + j * p.step) else time_in_spans ps (j - p.count)) (le-ltb j p.count past)) ∙ it in
      elim (cases_lt i p.count) [
        | inl early ↦ (
            let e : p.start + i * p.step ≡ s = some_same (p.start + i * p.step) s (sym (ap (λ k. if k then Some (p.start + i * p.step) else time_in_spans ps (i - p.count)) (lt-ltb i p.count early)) ∙ is) in
            let m : i * p.step ≤ p.count * p.step = mul-le-mul_right p.step (omega (arith, early)) in
            let a = (time_is (span_end p) 0 ps (j - p.count) t chained.2 f).0 in omega (arith, e, m, a))
        | inr late ↦ times_rise (span_end p) ps (i - p.count) (j - p.count) s t chained.2
            (sym (ap (λ k. if k then Some (p.start + i * p.step) else time_in_spans ps (i - p.count)) (le-ltb i p.count late)) ∙ is) f (omega (arith, low, late))
      ])
]

-- a position before the next one without a sample has its sample
pub tracked_sample : (spans : List Span) (samples : List Raw) (t : TrackedOf) (mark time j : ℕ) → Tracks spans samples t → (0 < t.stamps.left → mark ≤ t.stamps.time) → time < mark → position_at 0 spans time ≡ Some j
    → j < length samples
tracked_sample spans samples t mark time j tracks late low at = elim (cases_lt j (length samples)) [
  | inl less ↦ less
  | inr past ↦ absurd (
      let w = position_is tracks.chained.0 0 spans j time tracks.chained.1 at in
      let e : j ≡ 0 + w.0 = w.1 in
      let b : w.0 < count_of_spans spans = elim (cases_lt w.0 (count_of_spans spans)) [ inl less ↦ less | inr over ↦ absurd (none_some time (sym ((has_times spans w.0).1 over) ∙ w.2)) ] in
      let l = left_is spans samples t tracks in
      let some : 0 < t.stamps.left = omega (arith, l, b, past, e) in
      let m = late some in
      let z : tracks.done + 0 ≡ tracks.done = omega arith in
      let y : t.stamps.time + 0 * t.stamps.step ≡ t.stamps.time = omega arith in
      let n : time_in_spans spans tracks.done ≡ Some t.stamps.time = sym (ap (time_in_spans spans) z) ∙ tracks.stamping.ahead 0 some ∙ ap Some y in
      let many = tracks.many in
      let r = times_rise tracks.chained.0 spans tracks.done w.0 t.stamps.time time tracks.chained.1 n w.2 (omega (arith, many, past, e)) in
      omega (arith, r, m, low))
]

-- a cell is known where its position, if there is one, has its sample
pub cell_known : (spans : List Span) (samples : List Raw) (time : ℕ) → ((j : ℕ) → position_at 0 spans time ≡ Some j → j < length samples) → known_cell (cell_of spans samples time) ≡ cell_of spans samples time
cell_known spans samples time has = go (position_at 0 spans time) refl
  where
    go : (o : Option ℕ) → position_at 0 spans time ≡ o → known_cell (option_map (slice_get samples) o) ≡ option_map (slice_get samples) o
    go None e = refl
    go (Some j) e = let v = get_inside samples j (has j e) in ap (λ (o : Option Raw). known_cell (Some o)) v.1 ∙ ap Some (sym v.1)
