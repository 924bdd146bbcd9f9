-- Below a mark that no period with positions left began before, the cells with a value are all cells.
use Rattle.std.proofs.Common.{◌≡◌, ◌∙◌, ℕ, ◌+◌, ◌<◌, ◌≤◌, ◌&&◌, Bool, true, false, if◌then◌else◌, nat_lt, Option, Some, None, List, [], length, slice_get, refl, ap, sym, subst, arith, ◌-◌, slice_index}
use Rattle.tdf_trace.specs.Tracked.{AreSince, TrackedOf}
use Rattle.tdf_trace.specs.Tracks.{Tracks, cells_by, known_by, known_cell}
use Rattle.tdf_trace.specs.Traces.{IsTracked, sample_or, with_signal_samples}
use Rattle.tdf_events.specs.Side.{SideOf}
use Rattle.tdf_fixed.specs.declared.raw.Raw.{Raw}
use Rattle.tdf_bind.specs.Flat.{IsFlatOf}
use Rattle.tdf_bind.specs.declared.model.Flat.{Flat}
use Rattle.tdf_streams.proofs.Api.{none_some, some_same}
use Rattle.tdf_sim_history.specs.Cells.{cell_or, changed_cell, driver_of_row, event_column_cell, is_same_value, run_cells, samples_done, value_before, world_before, column_spans}
use Rattle.tdf_sim_history.specs.Instant.{periods_of}
use Rattle.tdf_sim_history.specs.World.{World, ClusterAt}
use Rattle.tdf_sim_runs.specs.Ending.{AreKnownBelow, ShownStandsBelow}
use Rattle.tdf_trace_rows.proofs.Api.{agree_trans}
use Rattle.tdf_trace_rows.specs.Laws.{Agree}
use Rattle.tdf_trace_rows.specs.Positions.{Span, cell_of, position_at}
use Rattle.tdf_trace_rows.specs.Rows.{Cells}
use Rattle.tdf_sim_shown.proofs.Api.{cell_known, run_agree, told, tracked_sample}
use Rattle.tdf_sim_shown.specs.Below.{IsListed, IsShown, IsShownOf, IsSignalOf, Shown, event_before, events_before}
use Rattle.tdf_streams.specs.Signals.{time_of_periods as time_after}
use Rattle.tdf_lang_tree.specs.Pure.{PureTree}
use Rattle.tdf_bind_connections.specs.declared.modules.PortRow.{PortRow}
use Rattle.tdf_bind_connections.specs.declared.traces.TraceRow.{TraceRow}
use Rattle.tdf_sim_history.specs.WorldLaws.{AreSteady, IsSettled}
use Rattle.tdf_sim_history.specs.Rules.{rules_of}
use Rattle.tdf_sim_history.specs.Columns.{ColumnStart, stamp_at, start_of}
use Rattle.tdf_bind_invariants.specs.Limits.{AreWithinLimits}
use Rattle.tdf_dynamic_plans.specs.Attributes.{clusters_of}

module _ (model : PureTree) (flat : Flat) (start w : World SideOf) (from mark : ℕ) (s : Shown) (shown : IsShown model flat start from w s) (steady : AreSteady model flat w) (since : AreSince mark s.tracking.list) where
  -- a position of a signal below the mark has its sample
  has_sample : (signal place : ℕ) (t : TrackedOf) → slice_get s.tracking.list place ≡ Some t → t.signal ≡ signal → (time j : ℕ) → time < mark → position_at 0 (shown.spans signal) time ≡ Some j → j < length (shown.samples signal)
  has_sample signal place t there same time j low at =
      tracked_sample (shown.spans signal) (shown.samples signal) t mark time j (subst (λ k. Tracks (shown.spans k) (shown.samples k) t) same (shown.holds.tracked place t there)) (since place t there) low at

  -- the cells of a trace of samples below the mark are known
  signal_known : (column time : ℕ) (row : TraceRow) → slice_get flat.tables.traces column ≡ Some row → row.event ≡ false → time < mark → (o : Option ℕ) → driver_of_row (slice_get flat.tables.signals row.signal) ≡ o
      → known_by shown.spans shown.samples row.signal time ≡ cells_by shown.spans shown.samples row.signal time
  unfolding position_at
  signal_known column time row at plain low None driven =
      let e : shown.spans row.signal ≡ [] = shown.none row.signal (λ place t there same. (
      let l : IsListed flat t = shown.signals.are place t there in
      none_some t.port (sym driven ∙ ap (λ k. driver_of_row (slice_get flat.tables.signals k)) (sym same ∙ l.signal_is) ∙ l.drives.driver))) in
      ap (λ (ps : List Span). known_cell (cell_of ps (shown.samples row.signal) time)) e ∙ sym (ap (λ (ps : List Span). cell_of ps (shown.samples row.signal) time) e)
  signal_known column time row at plain low (Some number) driven =
      let f : IsSignalOf s.signals.items row.signal = shown.signals.all column number row at plain driven in
      let l : IsListed flat f.it = shown.signals.are f.place f.it f.there in
      let e : l.port.signal ≡ row.signal = sym l.signal_is ∙ f.same in
      let u : IsTracked s.tracking.list row.signal = shown.holds.of.all column row at plain in
      subst (λ k. known_by shown.spans shown.samples k time ≡ cells_by shown.spans shown.samples k time) e
      (cell_known (shown.spans l.port.signal) (shown.samples l.port.signal) time (λ j at.
      has_sample l.port.signal u.place u.it u.there (u.same ∙ sym e) time j low at))

  cells_known : (column time : ℕ) → time < mark → (o : Option TraceRow) → slice_get flat.tables.traces column ≡ o → (other : Option (Option Raw))
      → sample_or o (λ k. known_by shown.spans shown.samples k time) other ≡ sample_or o (λ k. cells_by shown.spans shown.samples k time) other
  cells_known column time low None at other = refl
  cells_known column time low (Some row) at other = go row.event refl
    where
      go : (b : Bool) → row.event ≡ b → (if b then other else known_by shown.spans shown.samples row.signal time) ≡ (if b then other else cells_by shown.spans shown.samples row.signal time)
      go true is = refl
      go false is = signal_known column time row at is low (driver_of_row (slice_get flat.tables.signals row.signal)) refl

  known_agree : (cells : Cells) → Agree (with_signal_samples flat.tables.traces cells (known_by shown.spans shown.samples)) (with_signal_samples flat.tables.traces cells (cells_by shown.spans shown.samples)) mark
  known_agree cells = record {
    columns = refl;
    first = λ column inside. refl;
    cells = λ column time inside low. cells_known column time low (slice_get flat.tables.traces column) refl (cells.at column time);
  }

-- so below the mark each position of a column has its sample
pub settled_below : (model : PureTree) (flat : Flat) (start w : World SideOf) (from mark : ℕ) (s : Shown) → AreWithinLimits flat → IsShown model flat start from w s → AreSteady model flat w → AreSince mark s.tracking.list
    → ((n : ℕ) (c : ClusterAt) → slice_get w.clusters n ≡ Some c → mark ≤ c.origin + time_after (periods_of c)) → IsSettled flat start.shown w mark
settled_below model flat start w from mark s limits shown steady since ends = record {
  within = ends;
  there = λ cs number port c time j shows at low position. (
      let f : IsSignalOf s.signals.items shows.row.signal = shown.signals.all shows.column number shows.row shows.there shows.plain shows.driver in
      let l : IsListed flat f.it = shown.signals.are f.place f.it f.there in
      let e : l.port.signal ≡ shows.row.signal = sym l.signal_is ∙ f.same in
      let u : IsTracked s.tracking.list shows.row.signal = shown.holds.of.all shows.column shows.row shows.there shows.plain in
      let x : IsShownOf model flat start.shown w.clusters f.it.cluster f.it.port l.port shown.spans shown.samples s.tracking.list = shown.each f.it.cluster f.it.port l.port l.drives in
      let number_is : f.it.port ≡ number = some_same f.it.port number (sym l.drives.driver ∙ ap (λ k. driver_of_row (slice_get flat.tables.signals k)) e ∙ shows.driver) in
      let port_is : l.port ≡ port = some_same l.port port (sym l.drives.traced.there ∙ ap (slice_get flat.tables.ports) number_is ∙ shows.port_is) in
      let own : slice_index (clusters_of flat.tables) port.«module» ≡ f.it.cluster + 1 = ap (λ (p : PortRow). slice_index (clusters_of flat.tables) p.«module») (sym port_is) ∙ l.drives.traced.inside in
      let place : slice_index (clusters_of flat.tables) port.«module» - 1 ≡ f.it.cluster = omega (arith, own) in
      let cluster_is : x.cluster ≡ c = some_same x.cluster c (sym x.there ∙ ap (slice_get w.clusters) (sym place) ∙ at) in
      let start_is : x.start ≡ cs = sym (x.starts shows.column shows.row shows.there shows.plain (sym e)) ∙ shows.start_is in
      let base : position_at 0 (column_spans l.port x.start x.cluster.origin (periods_of x.cluster)) time ≡ Some j → j < samples_done x.start l.port x.cluster = (λ p.
      let h = has_sample model flat start w from mark s shown steady since l.port.signal u.place u.it u.there (u.same ∙ sym e) time j low (ap (λ ps. position_at 0 ps time) x.spans_are ∙ p) in
      let m = x.samples_are.many in omega (arith, h, m)) in
      subst (λ (z : PortRow). position_at 0 (column_spans z cs c.origin (periods_of c)) time ≡ Some j → j < samples_done cs z c) port_is
      (subst (λ (z : ClusterAt). position_at 0 (column_spans l.port cs z.origin (periods_of z)) time ≡ Some j → j < samples_done cs l.port z) cluster_is
      (subst (λ (z : ColumnStart). position_at 0 (column_spans l.port z x.cluster.origin (periods_of x.cluster)) time ≡ Some j → j < samples_done z l.port x.cluster) start_is base)) position);
}

-- the cells with a value, and those of event signals, agree below the mark with those of the run
noted_agree : (model : PureTree) (flat : Flat) (start : World SideOf) (from mark : ℕ) (s : Shown) → IsFlatOf model flat → AreWithinLimits flat
    → (shown : IsShown model flat start from (world_before model flat (rules_of model flat) start from) s) → AreSteady model flat (world_before model flat (rules_of model flat) start from) → AreSince mark s.tracking.list → mark ≤ from
    → Agree (with_signal_samples flat.tables.traces (events_before model flat start from) (known_by shown.spans shown.samples)) (run_cells model flat (rules_of model flat) start from) mark
noted_agree model flat start from mark s is limits shown steady since low =
    let cells = events_before model flat start from in
    agree_trans (with_signal_samples flat.tables.traces cells (known_by shown.spans shown.samples)) (with_signal_samples flat.tables.traces cells (cells_by shown.spans shown.samples))
    (run_cells model flat (rules_of model flat) start from) mark from low (known_agree model flat start (world_before model flat (rules_of model flat) start from) from mark s shown steady since cells)
    (run_agree model flat start from s (told model flat is limits) shown)

pub shown_stands_below : ShownStandsBelow
shown_stands_below model flat start from mark s is limits shown steady since low = record {
  noted = with_signal_samples flat.tables.traces (events_before model flat start from) (known_by shown.spans shown.samples);
  stand = shown.holds.stands;
  agree = noted_agree model flat start from mark s is limits shown steady since low;
}

-- ---- and each of these is known

value_known : (x : Option (Option Raw)) → known_cell x ≡ Some None → ⊥
value_known None is = none_some None is
value_known (Some None) is = none_some None is
value_known (Some (Some value)) is = none_some value (sym (some_same (Some value) None is))

event_known : (o : Option Raw) (before after : Raw) → cell_or o (changed_cell before after) ≡ Some None → ⊥
event_known (Some value) before after is = none_some value (sym (some_same (Some value) None is))
event_known None before after is = go (is_same_value before after) is
  where
    go : (b : Bool) → (if b then None else Some (Some after)) ≡ Some None → ⊥
    go true same = none_some None same
    go false same = none_some after (sym (some_same (Some after) None same))

before_known : (model : PureTree) (flat : Flat) (start : World SideOf) (from time : ℕ) (s : ColumnStart) (o : Option TraceRow) → event_before model flat start from time s o ≡ Some None → ⊥
before_known model flat start from time s None is = none_some None is
before_known model flat start from time s (Some row) is = go (row.event && nat_lt time from) is
  where
    go : (b : Bool) → (if b then event_column_cell model flat (rules_of model flat) start s row.signal time else None) ≡ Some None → ⊥
    go true at = event_known (stamp_at s.stamps time) (value_before model flat (rules_of model flat) start row.signal time) (value_before model flat (rules_of model flat) start row.signal (time + 1)) at
    go false at = none_some None at

noted_known : (o : Option TraceRow) (of : ℕ → Option (Option Raw)) (other : Option (Option Raw)) → (other ≡ Some None → ⊥) → sample_or o (λ k. known_cell (of k)) other ≡ Some None → ⊥
noted_known None of other apart is = apart is
noted_known (Some row) of other apart is = go row.event is
  where
    go : (b : Bool) → (if b then other else known_cell (of row.signal)) ≡ Some None → ⊥
    go true at = apart at
    go false at = value_known (of row.signal) at

-- so the cells of the run below the mark are known
pub known_below : (model : PureTree) (flat : Flat) (start : World SideOf) (from mark : ℕ) (s : Shown) → IsFlatOf model flat → AreWithinLimits flat
    → IsShown model flat start from (world_before model flat (rules_of model flat) start from) s → AreSteady model flat (world_before model flat (rules_of model flat) start from) → AreSince mark s.tracking.list → mark ≤ from
    → AreKnownBelow (run_cells model flat (rules_of model flat) start from) mark
known_below model flat start from mark s is limits shown steady since low = λ column t inside less none.
    let agree = noted_agree model flat start from mark s is limits shown steady since low in
    noted_known (slice_get flat.tables.traces column) (λ k. cells_by shown.spans shown.samples k t) (event_before model flat start from t (start_of start.shown column) (slice_get flat.tables.traces column))
    (λ at. before_known model flat start from t (start_of start.shown column) (slice_get flat.tables.traces column) at)
    (agree.cells column t inside less ∙ none)
