-- Two histories from one start that are told the answers of their boundaries come to the same, and have the same snapshots.
use Rattle.std.proofs.Common.{◌≡◌, ◌∙◌, ℕ, zero, suc, ◌+◌, ◌-◌, ◌<◌, ◌≤◌, Bool, true, false, List, ◌++◌, Option, None, Some, option_map, if◌then◌else◌, inl, inr, length, map, refl, sym, ap, subst, arith}
use Rattle.std.proofs.lemmas.Bool.{cases_lt}
use Rattle.std.proofs.lemmas.List.{length-map}
use Rattle.std.proofs.lemmas.Option.{slice_get-map, slice_get_within}
use Rattle.std.specs.List.{flat_map, range_with_len}
use Rattle.std.specs.Prelude.{option_and_then, slice_get, slice_index}
use Rattle.tdf_bind.specs.Flat.{IsFlatOf}
use Rattle.tdf_bind.specs.declared.model.Flat.{Flat}
use Rattle.tdf_bind_connections.specs.declared.modules.PortRow.{PortRow}
use Rattle.tdf_bind_connections.specs.declared.traces.TraceRow.{TraceRow}
use Rattle.tdf_bind_invariants.specs.Limits.{AreWithinLimits}
use Rattle.tdf_dynamic.specs.Laws.{BoundariesHaveOne}
use Rattle.tdf_dynamic_plans.specs.Attributes.{clusters_of}
use Rattle.tdf_events.specs.Side.{SideOf}
use Rattle.tdf_fixed.specs.declared.raw.Raw.{Raw}
use Rattle.tdf_lang_tree.specs.Kept.{IsKept}
use Rattle.tdf_lang_tree.specs.Pure.{PureTree}
use Rattle.tdf_saved.specs.State.{ClusterStateOf, ColumnStateOf, SnapshotOf}
use Rattle.tdf_sim_history.proofs.Api.{answers_agree, cells_same, end_same, states_leave, to_same}
use Rattle.tdf_sim_history.specs.Cells.{cell_by_driver, driven_cell, driver_of_row, event_column_cell, port_cell, run_cells, signal_cell, trace_cell, world_before, world_of}
use Rattle.tdf_sim_history.specs.Columns.{ColumnStart, start_of}
use Rattle.tdf_sim_history.specs.History.{On, history}
use Rattle.tdf_sim_history.specs.Instant.{engine}
use Rattle.tdf_sim_history.specs.Rules.{rules_of}
use Rattle.tdf_sim_history.specs.Telling.{state_as, untold, world_untold}
use Rattle.tdf_sim_history.specs.World.{ClusterAt, World}
use Rattle.tdf_sim_notes.specs.Ending.{end_of}
use Rattle.tdf_sim_resumed.specs.Snapshot.{AreSavedClusters, IsRowsFrom, IsSavedCluster, IsSavedColumn, IsSavedSide, IsSnapshot, later_of, shown_until, stamp_of_cell, stamps_between}
use Rattle.tdf_sim_resumed.specs.Starting.{Tracked, cluster_of_port, tracked_of, tracked_port, tracked_signal}
use Rattle.tdf_sim_unique.proofs.Telling.{ended_bare}
use Rattle.tdf_sim_unique.specs.PartLaws.{AnswersComeToTheSame, AnswersHaveSnapshots, AreToldAlike, ComeToTheSame}
use Rattle.tdf_streams.proofs.Api.{get_inside, some_same}
use Rattle.tdf_trace_rows.proofs.Api.{last_same}
use Rattle.tdf_trace_rows.specs.Laws.{Agree}
use Rattle.tdf_trace_rows.specs.Rows.{Cells}

-- ---- what is seen of clusters whatever is told of them

by_bare : {A : Type 0} (F : List ClusterAt → A) → ((cs : List ClusterAt) → F (map untold cs) ≡ F cs) → (w v : World SideOf) → world_untold w ≡ world_untold v → F w.clusters ≡ F v.clusters
by_bare F bare w v same = sym (bare w.clusters) ∙ ap (λ (u : World SideOf). F u.clusters) same ∙ bare v.clusters

abbrev bare_tracked : Tracked → Tracked
bare_tracked x = record { port = x.port; cluster = untold x.cluster }

module _ (model : PureTree) (flat : Flat) where
  port_bare : (cluster : ℕ) (s : ColumnStart) (port : PortRow) (number time : ℕ) (o : Option ClusterAt)
      → port_cell model flat cluster s port number time (option_map untold o) ≡ port_cell model flat cluster s port number time o
  port_bare cluster s port number time None = refl
  port_bare cluster s port number time (Some c) = refl

  driven_bare : (s : ColumnStart) (time number : ℕ) (o : Option PortRow) (cs : List ClusterAt) → driven_cell model flat s time (map untold cs) number o ≡ driven_cell model flat s time cs number o
  driven_bare s time number None cs = refl
  driven_bare s time number (Some port) cs =
      let k = slice_index (clusters_of flat.tables) port.«module» in
      ap (port_cell model flat k s port number time) (slice_get-map untold cs (k - 1)) ∙ port_bare k s port number time (slice_get cs (k - 1))

  by_driver : (s : ColumnStart) (time : ℕ) (o : Option ℕ) (cs : List ClusterAt) → cell_by_driver model flat s time (map untold cs) o ≡ cell_by_driver model flat s time cs o
  by_driver s time None cs = refl
  by_driver s time (Some number) cs = driven_bare s time number (slice_get flat.tables.ports number) cs

  signal_bare : (s : ColumnStart) (time signal : ℕ) (cs : List ClusterAt) → signal_cell model flat s time (map untold cs) signal ≡ signal_cell model flat s time cs signal
  signal_bare s time signal cs = by_driver s time (driver_of_row (slice_get flat.tables.signals signal)) cs

  option_tracked : (port : PortRow) (o : Option ClusterAt) → option_map (λ (c : ClusterAt). record { port = port; cluster = c }) (option_map untold o)
      ≡ option_map bare_tracked (option_map (λ (c : ClusterAt). record { port = port; cluster = c }) o)
  option_tracked port None = refl
  option_tracked port (Some c) = refl

  port_tracked : (port : PortRow) (cs : List ClusterAt) → tracked_port flat.tables (map untold cs) port ≡ option_map bare_tracked (tracked_port flat.tables cs port)
  port_tracked port cs = ap (option_map (λ (c : ClusterAt). record { port = port; cluster = c })) (slice_get-map untold cs (slice_index (clusters_of flat.tables) port.«module» - 1))
      ∙ option_tracked port (cluster_of_port flat.tables cs port)

  signal_tracked : (cs : List ClusterAt) (o : Option PortRow) → option_and_then (tracked_port flat.tables (map untold cs)) o ≡ option_map bare_tracked (option_and_then (tracked_port flat.tables cs) o)
  signal_tracked cs None = refl
  signal_tracked cs (Some port) = port_tracked port cs

  row_tracked : (row : TraceRow) (cs : List ClusterAt) → tracked_of flat.tables (map untold cs) row ≡ option_map bare_tracked (tracked_of flat.tables cs row)
  row_tracked row cs = go row.event
    where
      driver : Option PortRow
      driver = option_and_then (slice_get flat.tables.ports) (driver_of_row (slice_get flat.tables.signals row.signal))

      go : (b : Bool) → (if b then None else option_and_then (tracked_port flat.tables (map untold cs)) driver) ≡ option_map bare_tracked (if b then None else option_and_then (tracked_port flat.tables cs) driver)
      go true = refl
      go false = signal_tracked cs driver

  until_bare : (time : ℕ) (o : Option Tracked) → shown_until time (option_map bare_tracked o) ≡ shown_until time o
  until_bare time None = refl
  until_bare time (Some x) = refl

  later_bare : (s : ColumnStart) (o : Option Tracked) (driver : Option ℕ) → later_of model flat s (option_map bare_tracked o) driver ≡ later_of model flat s o driver
  later_bare s None driver = refl
  later_bare s (Some x) None = refl
  later_bare s (Some x) (Some number) = refl

  saved_bare : (number time : ℕ) (h : ClusterAt) (s : ClusterStateOf) → IsSavedCluster model flat number time h s → IsSavedCluster model flat number time (untold h) s
  saved_bare number time h s is = record {
    start = is.start;
    play = is.play;
    steps = is.steps;
    turns = is.turns;
    actors = is.actors;
    stands = is.stands;
    modules = is.modules;
    edges = is.edges;
    done = is.done;
    own = is.own;
  }

  saved_told : (number time : ℕ) (h : ClusterAt) (s : ClusterStateOf) → IsSavedCluster model flat number time (untold h) s → IsSavedCluster model flat number time h s
  saved_told number time h s is = record {
    start = is.start;
    play = is.play;
    steps = is.steps;
    turns = is.turns;
    actors = is.actors;
    stands = is.stands;
    modules = is.modules;
    edges = is.edges;
    done = is.done;
    own = is.own;
  }

-- the samples of a column, where the cells are the same
samples_same : (f g : ℕ → Option (Option Raw)) (from n : ℕ) → ((t : ℕ) → t < from + n → f t ≡ g t)
    → flat_map (λ t. stamp_of_cell t (f t)) (range_with_len from n) ≡ flat_map (λ t. stamp_of_cell t (g t)) (range_with_len from n)
samples_same f g from zero same = refl
samples_same f g from (suc n) same =
    λ i. stamp_of_cell from (same from (omega arith) i) ++ samples_same f g (from + 1) n (λ t low. same t (omega (arith, low))) i

-- rows are still to be written from the same time on
pub rows_agree : (g h : Cells) (time rows : ℕ) → Agree g h time → IsRowsFrom g time rows → IsRowsFrom h time rows
rows_agree g h time rows agree is = record {
  within = is.within;
  known = λ column t inside low at. (
      let c = agree.columns in let r = is.within in let within : column < g.columns = omega (arith, inside, c) in
      is.known column t within low (agree.cells column t within (omega (arith, low, r)) ∙ at));
  one = elim is.one [
    | inl last ↦ inl last
    | inr found ↦ elim (cases_lt rows time) [
      | inl less ↦ (let c = agree.columns in let i = found.1 in inr (found.0, omega (arith, i, c), sym (agree.cells found.0 rows found.1 less) ∙ found.2))
      | inr past ↦ (let r = is.within in inl (omega (arith, r, past)))
    ]
  ];
}

-- ---- two histories

module _ (law : BoundariesHaveOne) (model : PureTree) (flat : Flat) (one other : World SideOf) (stop : ℕ) (kept : IsKept model) (is : IsFlatOf model flat) (limits : AreWithinLimits flat)
    (told : AreToldAlike model flat one other stop) where
  alike : (time : ℕ) → time ≤ stop
      → state_as world_untold (history (engine model flat (rules_of model flat)) 0 one time) ≡ state_as world_untold (history (engine model flat (rules_of model flat)) 0 other time)
  alike time low = answers_agree law model flat (rules_of model flat) one other stop time kept is.bodies limits told.attributes told.start told.answers told.others low

  agree : (below : ℕ) → below ≤ stop → Agree (run_cells model flat (rules_of model flat) one below) (run_cells model flat (rules_of model flat) other below) below
  agree below low = cells_same model flat (rules_of model flat) one other stop told.start alike below low

  come_to_the_same : ComeToTheSame model flat one other stop
  come_to_the_same =
      let low : stop ≤ stop = omega arith in record {
        end = λ turns. sym (ended_bare stop turns (history (engine model flat (rules_of model flat)) 0 one stop)) ∙ ap (end_of stop turns) (alike stop low)
            ∙ ended_bare stop turns (history (engine model flat (rules_of model flat)) 0 other stop);
        time = end_same model flat (rules_of model flat) one other stop told.start alike;
        cells = agree;
        notes = to_same model flat (rules_of model flat) one other stop told.start alike stop low;
      }

  -- ---- a snapshot

  module _ (w v : World SideOf) (there : history (engine model flat (rules_of model flat)) 0 other stop ≡ On v) (budget : ℕ) (vcd : Bool) (s : SnapshotOf)
      (snapshot : IsSnapshot model flat one w stop budget vcd s) where
    abbrev here : Cells
    here = run_cells model flat (rules_of model flat) one stop

    abbrev yonder : Cells
    yonder = run_cells model flat (rules_of model flat) other stop

    worlds : world_untold w ≡ world_untold v
    worlds = ap world_untold (sym (ap world_of snapshot.reached))
        ∙ states_leave (history (engine model flat (rules_of model flat)) 0 one stop) (history (engine model flat (rules_of model flat)) 0 other stop) (alike stop (omega arith))
        ∙ ap world_untold (ap world_of there)

    left : w.left ≡ v.left
    left = ap (λ (u : World SideOf). u.left) worlds

    events : w.events ≡ v.events
    events = ap (λ (u : World SideOf). u.events) worlds

    clusters : AreSavedClusters model flat stop v s.clusters
    clusters = record {
      same = snapshot.clusters.same ∙ by_bare length (λ cs. length-map cs untold) w v worlds;
      each = λ n h c at on. (
          let i = slice_get_within v.clusters n h at in let l = by_bare length (λ cs. length-map cs untold) w v worlds in
          let g = get_inside w.clusters n (omega (arith, i, l)) in
          let bare : untold g.0 ≡ untold h = some_same (untold g.0) (untold h) (sym (slice_get-map untold w.clusters n ∙ ap (option_map untold) g.1)
          ∙ ap (λ (u : World SideOf). slice_get u.clusters n) worlds ∙ slice_get-map untold v.clusters n ∙ ap (option_map untold) at) in
          saved_told model flat (n + 1) stop h c (subst (λ (x : ClusterAt). IsSavedCluster model flat (n + 1) stop x c) bare (saved_bare model flat (n + 1) stop g.0 c (snapshot.clusters.each n g.0 c g.1 on))));
    }

    abbrev rows : ℕ
    rows = snapshot.columns.rows

    rows_are : IsRowsFrom yonder stop rows
    rows_are = rows_agree here yonder stop rows (agree stop (omega arith)) snapshot.columns.rows_are

    start_same : (column : ℕ) → start_of one.shown column ≡ start_of other.shown column
    start_same column = ap (λ (u : World SideOf). start_of u.shown column) told.start

    -- the cells of a column up to where it is shown
    cell_same : (column : ℕ) (row : TraceRow) → column < length flat.tables.traces → slice_get flat.tables.traces column ≡ Some row → (b : Bool) → row.event ≡ b → (t : ℕ)
        → t < rows + (shown_until stop (tracked_of flat.tables w.clusters row) - rows) → here.at column t ≡ yonder.at column t
    cell_same column row inside at true event t low = (agree stop (omega arith)).cells column t inside (
        let u : shown_until stop (tracked_of flat.tables w.clusters row) ≡ stop = ap (λ b. shown_until stop (if b then None else tracked_signal flat.tables w.clusters row.signal)) event in
        let r = snapshot.columns.rows_are.within in omega (arith, low, u, r))
    cell_same column row inside at false event t low =
        ap (λ o. trace_cell model flat (rules_of model flat) one stop t (start_of one.shown column) o) at
        ∙ ap (λ b. if b then event_column_cell model flat (rules_of model flat) one (start_of one.shown column) row.signal t
        else signal_cell model flat (start_of one.shown column) t (world_before model flat (rules_of model flat) one stop).clusters row.signal) event
        ∙ by_bare (λ cs. signal_cell model flat (start_of one.shown column) t cs row.signal) (signal_bare model flat (start_of one.shown column) t row.signal)
        (world_before model flat (rules_of model flat) one stop) (world_before model flat (rules_of model flat) other stop)
        (states_leave (history (engine model flat (rules_of model flat)) 0 one stop) (history (engine model flat (rules_of model flat)) 0 other stop) (alike stop (omega arith)))
        ∙ ap (λ (c : ColumnStart). signal_cell model flat c t (world_before model flat (rules_of model flat) other stop).clusters row.signal) (start_same column)
        ∙ sym (ap (λ b. if b then event_column_cell model flat (rules_of model flat) other (start_of other.shown column) row.signal t
        else signal_cell model flat (start_of other.shown column) t (world_before model flat (rules_of model flat) other stop).clusters row.signal) event)
        ∙ sym (ap (λ o. trace_cell model flat (rules_of model flat) other stop t (start_of other.shown column) o) at)

    tracked_bare : {A : Type 0} (F : Option Tracked → A) → ((o : Option Tracked) → F (option_map bare_tracked o) ≡ F o) → (row : TraceRow)
        → F (tracked_of flat.tables w.clusters row) ≡ F (tracked_of flat.tables v.clusters row)
    tracked_bare F bare row = by_bare (λ cs. F (tracked_of flat.tables cs row)) (λ cs. ap F (row_tracked model flat row cs) ∙ bare (tracked_of flat.tables cs row)) w v worlds

    column : (n : ℕ) (row : TraceRow) (c : ColumnStateOf) → slice_get flat.tables.traces n ≡ Some row → IsSavedColumn model flat one w here rows stop n row c → IsSavedColumn model flat other v yonder rows stop n row c
    column n row c at saved =
        let inside = slice_get_within flat.tables.traces n row at in
        let until = tracked_bare (shown_until stop) (until_bare model flat stop) row in record {
          carry = saved.carry ∙ ap (option_map (λ (value : Raw). value.num)) (last_same here yonder stop n rows (agree stop (omega arith)) inside snapshot.columns.rows_are.within);
          samples = saved.samples
              ∙ samples_same (here.at n) (yonder.at n) rows (shown_until stop (tracked_of flat.tables w.clusters row) - rows) (λ t low. cell_same n row inside at row.event refl t low)
              ∙ ap (λ k. stamps_between yonder n rows k) until;
          later = saved.later
              ∙ ap (λ (k : ColumnStart). later_of model flat k (tracked_of flat.tables w.clusters row) (driver_of_row (slice_get flat.tables.signals row.signal))) (start_same n)
              ∙ tracked_bare (λ o. later_of model flat (start_of other.shown n) o (driver_of_row (slice_get flat.tables.signals row.signal)))
              (λ o. later_bare model flat (start_of other.shown n) o (driver_of_row (slice_get flat.tables.signals row.signal))) row;
        }

    snapshot_there : IsSnapshot model flat other v stop budget vcd s
    snapshot_there = record {
      reached = there;
      vcd_is = snapshot.vcd_is;
      time_is = snapshot.time_is;
      used_is = snapshot.used_is ∙ ap (λ n. budget - n) left;
      budget_is = snapshot.budget_is;
      clusters = clusters;
      side = subst (λ (x : SideOf). IsSavedSide flat stop x s.kernel) events snapshot.side;
      columns = record { rows = rows; rows_are = rows_are; same = snapshot.columns.same; each = λ n row c at on. column n row c at (snapshot.columns.each n row c at on) };
    }

pub answers_come_to_the_same : BoundariesHaveOne → AnswersComeToTheSame
answers_come_to_the_same law model flat one other stop kept is limits told = come_to_the_same law model flat one other stop kept is limits told

pub answers_have_snapshots : BoundariesHaveOne → AnswersHaveSnapshots
answers_have_snapshots law model flat one other w v stop budget vcd s kept is limits told there snapshot =
    snapshot_there law model flat one other stop kept is limits told w v there budget vcd s snapshot
