-- At the end the rows stand for the cells of the run below it.
use Rattle.std.proofs.Common.{◌≡◌, ◌∙◌, ℕ, ◌+◌, ◌-◌, ◌<◌, Bool, true, false, not, ◌&&◌, nat_eq, nat_lt, if◌then◌else◌, Option, Some, None, List, slice_get, slice_index, refl, ap, sym, arith}
use Rattle.std.proofs.lemmas.Bool.{eq-eqb, lt-ltb}
use Rattle.tdf_trace.specs.Calls.{NotesRest}
use Rattle.tdf_trace.specs.Tracks.{cells_by}
use Rattle.tdf_trace.specs.Traces.{sample_or, with_signal_samples}
use Rattle.tdf_dynamic_plans.specs.Attributes.{clusters_of}
use Rattle.tdf_events.specs.Side.{SideOf}
use Rattle.tdf_bind.specs.declared.model.Flat.{Flat}
use Rattle.tdf_streams.proofs.Api.{none_some}
use Rattle.tdf_sim_history.specs.Cells.{cell_by_driver, driven_cell, driver_of_row, event_column_cell, port_cell, run_cells, signal_cell, trace_cell, world_before}
use Rattle.tdf_sim_history.specs.World.{World}
use Rattle.tdf_exec_layout.specs.Traced.{is_trace_of}
use Rattle.tdf_trace_rows.proofs.Api.{agree_trans}
use Rattle.tdf_trace_rows.specs.Laws.{Agree}
use Rattle.tdf_trace_rows.specs.Positions.{Span, cell_of, position_at}
use Rattle.tdf_trace_rows.specs.Rows.{Cells}
use Rattle.tdf_sim_traces.proofs.Pushing.{any_here}
use Rattle.tdf_sim_traces.proofs.Telling.{told}
use Rattle.tdf_sim_traces.specs.Calls.{ShowsEnd}
use Rattle.tdf_sim_traces.specs.Events.{event_before, events_before}
use Rattle.tdf_sim_traces.specs.Shown.{IsShown, IsShownOf}
use Rattle.tdf_sim_traces.specs.Signals.{AreTold, DrivesTraced, IsDriverOf, IsListed}
use Rattle.tdf_sim_traces.specs.declared.shown.Shown.{Shown}
use Rattle.tdf_sim_refinement.proofs.Api.{cell_of_samples}
use Rattle.tdf_lang_tree.specs.Pure.{PureTree}
use Rattle.tdf_bind_connections.specs.declared.traces.TraceRow.{TraceRow}
use Rattle.tdf_sim_history.specs.Rules.{rules_of}
use Rattle.tdf_sim_history.specs.Columns.{start_of}

module _ (model : PureTree) (flat : Flat) (start : World SideOf) (end : ℕ) (s : Shown) (tells : AreTold flat.tables) (shown : IsShown model flat start end (world_before model flat (rules_of model flat) start end) s) where
  abbrev w : World SideOf
  w = world_before model flat (rules_of model flat) start end

  abbrev cells : Cells
  cells = with_signal_samples flat.tables.traces (events_before model flat start end) (cells_by shown.spans shown.samples)

  -- a port that drives the signal of a trace of samples
  pub driving : (column number : ℕ) (row : TraceRow) → slice_get flat.tables.traces column ≡ Some row → row.event ≡ false → driver_of_row (slice_get flat.tables.signals row.signal) ≡ Some number → (is : IsDriverOf flat.tables row.signal number)
      → DrivesTraced flat (slice_index (clusters_of flat.tables) is.port.«module» - 1) number is.port
  driving column number row at plain driven is = record {
    traced = record {
      there = is.there;
      inside = (let c = is.cluster in omega (arith, c));
      kind_is = is.kind_is;
      traced = any_here (is_trace_of is.port.signal) flat.tables.traces column row at
          (ap (λ (e : Bool). not e && nat_eq row.signal is.port.signal) plain ∙ eq-eqb row.signal is.port.signal (sym is.writes));
    };
    driver = ap (λ k. driver_of_row (slice_get flat.tables.signals k)) is.writes ∙ driven;
  }

  -- the cell of a signal of samples
  pub sample_cell : (column time : ℕ) (row : TraceRow) → slice_get flat.tables.traces column ≡ Some row → row.event ≡ false → (o : Option ℕ) → driver_of_row (slice_get flat.tables.signals row.signal) ≡ o
      → cell_of (shown.spans row.signal) (shown.samples row.signal) time ≡ cell_by_driver model flat (start_of start.shown column) time w.clusters o
  unfolding position_at
  sample_cell column time row at plain None none =
      ap (λ (l : List Span). cell_of l (shown.samples row.signal) time) (shown.none row.signal (λ place t there same. (
      let l : IsListed flat t = shown.signals.are place t there in
      none_some t.port (sym none ∙ ap (λ k. driver_of_row (slice_get flat.tables.signals k)) (sym same ∙ l.signal_is) ∙ l.drives.driver))))
  sample_cell column time row at plain (Some number) driven =
      let is : IsDriverOf flat.tables row.signal number = tells.drivers row.signal number driven in
      let n = slice_index (clusters_of flat.tables) is.port.«module» - 1 in
      let drives : DrivesTraced flat n number is.port = driving column number row at plain driven is in
      let x : IsShownOf model flat start.shown w.clusters n number is.port shown.spans shown.samples s.tracking.list = shown.each n number is.port drives in
      let next : n + 1 ≡ slice_index (clusters_of flat.tables) is.port.«module» = (let c = is.cluster in omega (arith, c)) in
      ap (λ k. cell_of (shown.spans k) (shown.samples k) time) (sym is.writes)
      ∙ ap (λ (l : List Span). cell_of l (shown.samples is.port.signal) time) x.spans_are
      ∙ sym (cell_of_samples model flat (n + 1) number time is.port x.start x.cluster (shown.samples is.port.signal) x.samples_are)
      ∙ ap (λ k. port_cell model flat k x.start is.port number time (Some x.cluster)) next
      ∙ ap (port_cell model flat (slice_index (clusters_of flat.tables) is.port.«module») x.start is.port number time) (sym x.there)
      ∙ ap (λ b. port_cell model flat (slice_index (clusters_of flat.tables) is.port.«module») b is.port number time (slice_get w.clusters n)) (sym (x.starts column row at plain (sym is.writes)))
      ∙ sym (ap (driven_cell model flat (start_of start.shown column) time w.clusters number) is.there)

  cell_is : (column time : ℕ) → time < end → (o : Option TraceRow) → slice_get flat.tables.traces column ≡ o
      → sample_or o (λ k. cells_by shown.spans shown.samples k time) (event_before model flat start end time (start_of start.shown column) o) ≡ trace_cell model flat (rules_of model flat) start end time (start_of start.shown column) o
  cell_is column time low None at = refl
  cell_is column time low (Some row) at = go row.event refl
    where
      go : (b : Bool) → row.event ≡ b → (if row.event then (if row.event && nat_lt time end then event_column_cell model flat (rules_of model flat) start (start_of start.shown column) row.signal time else None) else cells_by shown.spans shown.samples row.signal time)
          ≡ (if row.event then event_column_cell model flat (rules_of model flat) start (start_of start.shown column) row.signal time else signal_cell model flat (start_of start.shown column) time w.clusters row.signal)
      go true is = rw (is, lt-ltb time end low) refl
      go false is = rw is (sample_cell column time row at is (driver_of_row (slice_get flat.tables.signals row.signal)) refl)

  pub run_agree : Agree cells (run_cells model flat (rules_of model flat) start end) end
  run_agree = record {
    columns = refl;
    first = λ column inside. refl;
    cells = λ column time inside low. cell_is column time low (slice_get flat.tables.traces column) refl;
  }

pub shows_end : (end : ℕ) (old new : Shown) → NotesRest end old.tracking.list old.trace.rows new.trace.rows → ShowsEnd end old new
shows_end end old new notes model flat start is limits shown =
    let n = notes flat.tables.traces (events_before model flat start end) shown.spans shown.samples shown.holds in
    record {
      noted = n.noted;
      stand = n.stand;
      agree = agree_trans n.noted (with_signal_samples flat.tables.traces (events_before model flat start end) (cells_by shown.spans shown.samples)) (run_cells model flat (rules_of model flat) start end) end end (omega arith) n.agree
          (run_agree model flat start end old (told model flat is limits) shown);
    }
