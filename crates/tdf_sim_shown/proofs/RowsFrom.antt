-- The first position without a sample is that from which rows are still to be written.
use Rattle.std.proofs.Common.{◌≡◌, ◌∙◌, ◌<◌, ◌≤◌, ◌+◌, ◌*◌, ◌⊎◌, ℕ, Bool, true, false, not, ◌&&◌, nat_eq, Option, Some, None, option_map, List, length, slice_get, refl, ap, sym, subst, inl, inr, arith}
use Rattle.std.proofs.lemmas.Bool.{cases_lt, eqb-true}
use Rattle.std.proofs.lemmas.Option.{slice_get_past, slice_get_within}
use Rattle.tdf_bind.specs.declared.model.Flat.{Flat}
use Rattle.tdf_bind_connections.specs.declared.traces.TraceRow.{TraceRow}
use Rattle.tdf_events.specs.Side.{SideOf}
use Rattle.tdf_sim_traces.specs.Below.{is_trace_of}
use Rattle.tdf_lang_tree.specs.Pure.{PureTree}
use Rattle.tdf_sim_history.specs.Cells.{world_before}
use Rattle.tdf_sim_history.specs.Rules.{rules_of}
use Rattle.tdf_sim_history.specs.World.{World}
use Rattle.tdf_sim_resumed.specs.Snapshot.{IsRowsFrom}
use Rattle.tdf_sim_shown.proofs.Cells.{IsUnknown, cells, event_known, sample_here, unknown_at}
use Rattle.tdf_sim_shown.specs.Saved.{GivesRowsFrom}
use Rattle.tdf_sim_traces.proofs.Api.{any_found, listed_or, told, tracked_sample, true_false}
use Rattle.tdf_sim_traces.specs.Shown.{IsShown}
use Rattle.tdf_sim_traces.specs.Signals.{AreTold, IsListed}
use Rattle.tdf_sim_traces.specs.declared.shown.Shown.{Shown}
use Rattle.tdf_sim_traces.specs.declared.signals.TracedSignal.{TracedSignal}
use Rattle.tdf_streams.proofs.Api.{get_inside}
use Rattle.tdf_trace.proofs.Api.{left_is}
use Rattle.tdf_trace.specs.Missing.{IsFirstMissing, IsMissingAt}
use Rattle.tdf_trace.specs.Tracked.{TrackedOf}
use Rattle.tdf_trace.specs.Traces.{IsTracked}
use Rattle.tdf_trace.specs.Tracks.{Tracks}
use Rattle.tdf_trace_rows.proofs.Api.{time_is}
use Rattle.tdf_trace_rows.specs.Positions.{Span, cell_of, count_of_spans, position_at, time_in_spans}

-- a trace of the samples of a signal
is_of : (event : Bool) (n m : ℕ) → (not event && nat_eq n m) ≡ true → (event ≡ false) × (n ≡ m)
is_of true n m h = absurd (true_false (sym h))
is_of false n m h = (refl, eqb-true n m h)

module _ (model : PureTree) (flat : Flat) (start : World SideOf) (time rows : ℕ) (s : Shown) (tells : AreTold flat.tables)
    (shown : IsShown model flat start time (world_before model flat (rules_of model flat) start time) s) (f : IsFirstMissing s.tracking.list (length s.tracking.list) time rows) where
  sample_known : (column t : ℕ) (row : TraceRow) → slice_get flat.tables.traces column ≡ Some row → row.event ≡ false → t < rows → (cells model flat start time s tells shown).at column t ≡ Some None → ⊥
  sample_known column t row at plain less is =
      let u : IsTracked s.tracking.list row.signal = shown.holds.of.all column row at plain in
      let x : IsUnknown (shown.spans row.signal) (shown.samples row.signal) t = unknown_at (shown.spans row.signal) (shown.samples row.signal) t (sym (sample_here model flat start time s tells shown column t row at plain) ∙ is) in
      let k : Tracks (shown.spans row.signal) (shown.samples row.signal) u.it = subst (λ n. Tracks (shown.spans n) (shown.samples n) u.it) u.same (shown.holds.tracked u.place u.it u.there) in
      let m = tracked_sample (shown.spans row.signal) (shown.samples row.signal) u.it rows t x.position k (f.none u.place u.it (slice_get_within s.tracking.list u.place u.it u.there) u.there) less x.at in
      let p = x.past in absurd (omega (arith, m, p))

  all_known : (column t : ℕ) → column < length flat.tables.traces → t < rows → (cells model flat start time s tells shown).at column t ≡ Some None → ⊥
  all_known column t inside less is = let r = get_inside flat.tables.traces column inside in by_event r.0 r.1 r.0.event refl
    where
      by_event : (row : TraceRow) → slice_get flat.tables.traces column ≡ Some row → (b : Bool) → row.event ≡ b → ⊥
      by_event row at true event = event_known model flat start time s tells shown column t row at event is
      by_event row at false plain = sample_known column t row at plain less is

  -- the position is shown by a column
  missing_there : IsMissingAt s.tracking.list (length s.tracking.list) rows → (column : ℕ) × (column < length flat.tables.traces) × ((cells model flat start time s tells shown).at column rows ≡ Some None)
  unfolding count_of_spans
  missing_there m = elim (listed_or s.signals.items m.it.signal) [
    | inl l ↦ (
        let i : IsListed flat l.1 = shown.signals.are l.0 l.1 l.2 in
        let a = any_found (is_trace_of i.port.signal) flat.tables.traces i.drives.traced.traced in
        let e = is_of a.1.event a.1.signal i.port.signal a.3 in
        let same : a.1.signal ≡ m.it.signal = e.1 ∙ sym i.signal_is ∙ l.3 in
        (a.0, slice_get_within flat.tables.traces a.0 a.1 a.2, sample_here model flat start time s tells shown a.0 rows a.1 a.2 e.0 ∙ ap (λ n. cell_of (shown.spans n) (shown.samples n) rows) same ∙ none_here))
    | inr unlisted ↦ absurd (
        let l = left_is (shown.spans m.it.signal) (shown.samples m.it.signal) m.it tracks in
        let n : count_of_spans (shown.spans m.it.signal) ≡ 0 = ap count_of_spans (shown.none m.it.signal unlisted) in
        let more = m.left in omega (arith, l, n, more))
  ]
    where
      tracks : Tracks (shown.spans m.it.signal) (shown.samples m.it.signal) m.it
      tracks = shown.holds.tracked m.place m.it m.there

      all_given : length m.it.waiting ≡ 0
      all_given = elim (cases_lt 0 (length m.it.waiting)) [
        | inl some ↦ absurd (let z = tracks.idle some in let more = m.left in omega (arith, z, more))
        | inr none ↦ omega (arith, none)
      ]

      at_rows : time_in_spans (shown.spans m.it.signal) tracks.done ≡ Some rows
      at_rows =
          let z : tracks.done + 0 ≡ tracks.done = omega arith in
          let same = m.at in
          let y : m.it.stamps.time + 0 * m.it.stamps.step ≡ rows = omega (arith, same) in
          sym (ap (time_in_spans (shown.spans m.it.signal)) z) ∙ tracks.stamping.ahead 0 m.left ∙ ap Some y

      none_here : cell_of (shown.spans m.it.signal) (shown.samples m.it.signal) rows ≡ Some None
      none_here =
          let many = tracks.many in let given = all_given in
          ap (option_map (slice_get (shown.samples m.it.signal))) (time_is tracks.chained.0 0 (shown.spans m.it.signal) tracks.done rows tracks.chained.1 at_rows).1
          ∙ ap Some (slice_get_past (shown.samples m.it.signal) (0 + tracks.done) (omega (arith, many, given)))

  pub rows_are : IsRowsFrom (cells model flat start time s tells shown) time rows
  rows_are = record {
    within = f.within;
    known = λ column t inside less is. all_known column t inside less is;
    one = elim f.one [ inl last ↦ inl last | inr m ↦ inr (missing_there m) ];
  }

pub gives_rows : (s : Shown) (time rows : ℕ) → IsFirstMissing s.tracking.list (length s.tracking.list) time rows → GivesRowsFrom s time rows
gives_rows s time rows f model flat start is limits shown = rows_are model flat start time rows s (told model flat is limits) shown f
