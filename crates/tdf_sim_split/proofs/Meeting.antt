-- The columns of a run that goes on from a snapshot meet those of the whole run.
use Rattle.std.proofs.Common.{◌≡◌, ◌≢◌, ◌∙◌, ◌<◌, ◌≤◌, ◌+◌, ◌-◌, ℕ, ℤ, zero, suc, Bool, true, false, ◌&&◌, if◌then◌else◌, nat_eq, Option, Some, None, option_map, List, [], ◌∷◌, length, map, slice_get, slice_index, slice_index_or, unwrap_or, refl, ap, sym, subst, inl, inr, arith}
use Rattle.std.proofs.lemmas.Bool.{cases_lt, eq-eqb}
use Rattle.std.proofs.lemmas.Bool.Decides.{Decides-int_eq}
use Rattle.std.proofs.lemmas.List.{length-map}
use Rattle.std.proofs.lemmas.List.FromFn.{length-map-range_with_len}
use Rattle.std.proofs.lemmas.Option.{get_or_from_slice_get, slice_get-map, slice_get_past, slice_get_within}
use Rattle.std.specs.List.{enumerate_from, flat_map, range_with_len, zip}
use Rattle.std.specs.Option.{option_and_then}
use Rattle.std.specs.Ordering.{int_eq}
use Rattle.tdf_bind.specs.Flat.{IsFlatOf}
use Rattle.tdf_bind.specs.declared.model.Flat.{Flat}
use Rattle.tdf_bind_connections.specs.declared.modules.PortRow.{PortRow}
use Rattle.tdf_bind_connections.specs.declared.traces.TraceRow.{TraceRow}
use Rattle.tdf_bind_invariants.specs.Limits.{AreWithinLimits}
use Rattle.tdf_dynamic_first.specs.declared.first.First.{First}
use Rattle.tdf_dynamic_plans.specs.Attributes.{clusters_of}
use Rattle.tdf_events.specs.Side.{SideOf}
use Rattle.tdf_exec_layout.specs.Wires.{SinksHaveOne}
use Rattle.tdf_fixed.specs.declared.raw.Raw.{Raw}
use Rattle.tdf_lang_tree.specs.Pure.{PureTree}
use Rattle.tdf_saved.specs.State.{ClusterStateOf, ColumnStateOf, SnapshotOf}
use Rattle.tdf_saved.specs.declared.state.Stamp.{Stamp as SavedStamp}
use Rattle.tdf_sim_history.proofs.Api.{port_cluster}
use Rattle.tdf_sim_history.specs.Cells.{cell_by_driver, cell_or, changed_cell, column_spans, driven_cell, driver_of_row, event_cell, event_column_cell, is_same_value, port_cell, run_cells, sample_at, samples_done, signal_cell, trace_cell, value_before, world_of}
use Rattle.tdf_sim_history.specs.Columns.{ColumnStart, Stamp, no_start, stamp_at, start_of}
use Rattle.tdf_sim_history.specs.Continuing.{AllGoOn, Continues}
use Rattle.tdf_sim_history.specs.History.{On}
use Rattle.tdf_sim_history.specs.Instant.{periods_of}
use Rattle.tdf_sim_history.specs.Rules.{rules_of}
use Rattle.tdf_sim_history.specs.Start.{starting_value, text_column, text_columns}
use Rattle.tdf_sim_history.specs.Texts.{state_at}
use Rattle.tdf_sim_history.specs.World.{Change, ClusterAt, World}
use Rattle.tdf_sim_history.specs.WorldLaws.{SamplesAreThere}
use Rattle.tdf_sim_resumed.proofs.Api.{ResumedAt, resumed_at}
use Rattle.tdf_sim_resumed.specs.Resuming.{resumed_cluster, resumed_clusters}
use Rattle.tdf_sim_resumed.specs.Snapshot.{IsRowsFrom, IsSavedColumn, later_of, number_of_sample, shown_until, stamps_between}
use Rattle.tdf_sim_resumed.specs.Starting.{Tracked, column_start_of, resumed_world, rows_from_saved, stamp_of_trace, tracked_of, tracked_port, tracked_signal, value_of_trace}
use Rattle.tdf_sim_resumed.specs.Valid.{IsValid, IsValidSamples, IsValidTracked}
use Rattle.tdf_sim_split.proofs.Fitting.{EventsFit, FitsShown, FitsTrace, SamplesFit, fitting}
use Rattle.tdf_sim_split.proofs.RowsSplit.{AreRestOf}
use Rattle.tdf_sim_split.proofs.Samples.{BeginsWithText, none_early, same_late, stays}
use Rattle.tdf_sim_split.proofs.Stamped.{stamp_lacks, stamp_there, stamps_in}
use Rattle.tdf_sim_split.proofs.Timely.{AreTimely}
use Rattle.tdf_sim_split.specs.Following.{Follows, IsResumedCluster, IsSoundCluster}
use Rattle.tdf_sim_split.specs.Laws.{AreSound, GoesOnFrom, HasCome, HaveCome}
use Rattle.tdf_streams.proofs.Api.{get_inside, none_some, some_same}
use Rattle.tdf_streams.specs.Cluster.{driver_samples, initial_sample, initial_samples}
use Rattle.tdf_streams.specs.Laws.{IsClusterPort}
use Rattle.tdf_streams_onward.specs.Laws.{BodiesGoByTable, FiringsAreEnough, StreamsGoOn}
use Rattle.tdf_trace_rows.proofs.Api.{last_same}
use Rattle.tdf_trace_rows.specs.Laws.{Agree}
use Rattle.tdf_trace_rows.specs.Positions.{count_of_spans, position_at}
use Rattle.tdf_trace_rows.specs.Rows.{Cells, last}

zip_at : {A B : Type 0} (xs : List A) (ys : List B) (n : ℕ) (x : A) (y : B) → slice_get xs n ≡ Some x → slice_get ys n ≡ Some y → slice_get (zip xs ys) n ≡ Some (x, y)
zip_at [] ys n x y x_at y_at = none_some x x_at
zip_at (a ∷ xs) [] n x y x_at y_at = none_some y y_at
zip_at (a ∷ xs) (b ∷ ys) zero x y x_at y_at = λ i. Some (some_same a x x_at i, some_same b y y_at i)
zip_at (a ∷ xs) (b ∷ ys) (suc n) x y x_at y_at = zip_at xs ys n x y x_at y_at

int_same : (z : ℤ) → int_eq z z ≡ true
int_same z = (Decides-int_eq z z).1 refl

-- a column of the run when it waited, of the whole, and of what goes on: it meets from a time on, up to an end
pub record ColumnMeets (was all rest : ℕ → Option (Option Raw)) (rows end : ℕ) : Type 0 where
  pub agree : (t : ℕ) → t < rows → was t ≡ all t
  pub none : (t : ℕ) → t < rows → rest t ≡ None
  pub same : (t : ℕ) → rows ≤ t → t < end → rest t ≡ all t

-- one that never shows anything
nothing_meets : (was all rest : ℕ → Option (Option Raw)) (rows end : ℕ) → ((t : ℕ) → was t ≡ None) → ((t : ℕ) → all t ≡ None) → ((t : ℕ) → rest t ≡ None) → ColumnMeets was all rest rows end
nothing_meets was all rest rows end a b c = record { agree = λ t low. a t ∙ sym (b t); none = λ t low. c t; same = λ t low high. c t ∙ sym (b t) }

module _ (there : SamplesAreThere) (by_table : BodiesGoByTable) (goes_on : StreamsGoOn) (enough : FiringsAreEnough) (model : PureTree) (flat : Flat) (is_flat : IsFlatOf model flat) (limits : AreWithinLimits flat) (sinks : SinksHaveOne flat.tables)
    (firsts : List First) (s : SnapshotOf) (more : List (List Change)) (one w a e : World SideOf) (from end rows : ℕ) (low : from ≤ end)
    (valid : IsValid model flat firsts s) (time_is : s.time ≡ from) (rows_is : rows_from_saved model flat firsts s ≡ rows) (rows_are : IsRowsFrom (run_cells model flat (rules_of model flat) one from) from rows)
    (saved : (n : ℕ) (row : TraceRow) (state : ColumnStateOf) → slice_get flat.tables.traces n ≡ Some row → slice_get s.columns n ≡ Some state → IsSavedColumn model flat one w (run_cells model flat (rules_of model flat) one from) rows from n row state)
    (shown_is : one.shown ≡ text_columns flat.tables) (goes : GoesOnFrom model flat from w (resumed_world model flat firsts s more))
    (at_w : state_at model flat (rules_of model flat) one from ≡ On w) (at_a : state_at model flat (rules_of model flat) one end ≡ On a) (at_e : state_at model flat (rules_of model flat) (resumed_world model flat firsts s more) end ≡ On e)
    (come : HaveCome w (resumed_world model flat firsts s more) a e) (sound_w : AreSound flat w) (sound_a : AreSound flat a) (sound_e : AreSound flat e) (timely : AreTimely w)
    (longer : AllGoOn w a) (longer_part : AllGoOn (resumed_world model flat firsts s more) e)
    (values : (signal t : ℕ) → from ≤ t → t ≤ end → value_before model flat (rules_of model flat) (resumed_world model flat firsts s more) signal t ≡ value_before model flat (rules_of model flat) one signal t)
    (resting : (signal t : ℕ) → t ≤ from → value_before model flat (rules_of model flat) (resumed_world model flat firsts s more) signal t ≡ value_before model flat (rules_of model flat) (resumed_world model flat firsts s more) signal from)
    (samples_fit : (column : ℕ) (row : TraceRow) → slice_get flat.tables.traces column ≡ Some row → row.event ≡ false → SamplesFit model flat one w column row) (events_fit : EventsFit model flat one from rows) where
  abbrev two : World SideOf
  two = resumed_world model flat firsts s more

  abbrev pub then_cells : Cells
  then_cells = run_cells model flat (rules_of model flat) one from

  abbrev pub whole_cells : Cells
  whole_cells = run_cells model flat (rules_of model flat) one end

  abbrev pub part_cells : Cells
  part_cells = run_cells model flat (rules_of model flat) two end

  module _ (column : ℕ) (row : TraceRow) (row_at : slice_get flat.tables.traces column ≡ Some row) (state : ColumnStateOf) (state_there : slice_get s.columns column ≡ Some state) where
    abbrev start_one : ColumnStart
    start_one = start_of one.shown column

    is_saved : IsSavedColumn model flat one w then_cells rows from column row state
    is_saved = saved column row state row_at state_there

    abbrev tracked : Option Tracked
    tracked = tracked_of flat.tables (resumed_clusters model flat firsts s []) row

    -- the starts of both
    one_is : start_one ≡ text_column flat.tables row
    one_is = ap (λ (l : List ColumnStart). start_of l column) shown_is
        ∙ get_or_from_slice_get (text_columns flat.tables) column (text_column flat.tables row) no_start (slice_get-map (text_column flat.tables) flat.tables.traces column ∙ ap (option_map (text_column flat.tables)) row_at)

    two_is : start_of two.shown column ≡ column_start_of flat.tables rows row state tracked
    two_is = get_or_from_slice_get two.shown column _ no_start
        (slice_get-map (λ (c : TraceRow × ColumnStateOf). column_start_of flat.tables (rows_from_saved model flat firsts s) c.0 c.1 (tracked_of flat.tables (resumed_clusters model flat firsts s []) c.0)) (zip flat.tables.traces s.columns) column
        ∙ ap (option_map (λ (c : TraceRow × ColumnStateOf). column_start_of flat.tables (rows_from_saved model flat firsts s) c.0 c.1 (tracked_of flat.tables (resumed_clusters model flat firsts s []) c.0))) (zip_at flat.tables.traces s.columns column row state row_at state_there))
        ∙ ap (λ n. column_start_of flat.tables n row state tracked) rows_is

    -- what the trace has of a time
    cell_at_row : (start : World SideOf) (stop t : ℕ) → (run_cells model flat (rules_of model flat) start stop).at column t ≡ trace_cell model flat (rules_of model flat) start stop t (start_of start.shown column) (Some row)
    cell_at_row start stop t = ap (trace_cell model flat (rules_of model flat) start stop t (start_of start.shown column)) row_at

    -- ---- an event signal

    module _ (event : row.event ≡ true) where
      abbrev value_one : ℕ → Raw
      value_one t = value_before model flat (rules_of model flat) one row.signal t

      abbrev cell_one : ℕ → Option (Option Raw)
      cell_one t = event_cell model flat (rules_of model flat) one row.signal t

      abbrev cell_two : ℕ → Option (Option Raw)
      cell_two t = event_cell model flat (rules_of model flat) two row.signal t

      event_at : (start : World SideOf) (stop t : ℕ) → (run_cells model flat (rules_of model flat) start stop).at column t ≡ event_column_cell model flat (rules_of model flat) start (start_of start.shown column) row.signal t
      event_at start stop t = cell_at_row start stop t
          ∙ ap (λ b. if b then event_column_cell model flat (rules_of model flat) start (start_of start.shown column) row.signal t
          else signal_cell model flat (start_of start.shown column) t (world_of (state_at model flat (rules_of model flat) start stop)).clusters row.signal) event

      -- those of the text have the changes alone
      one_at : (stop t : ℕ) → (run_cells model flat (rules_of model flat) one stop).at column t ≡ cell_one t
      one_at stop t = event_at one stop t ∙ ap (λ (c : ColumnStart). cell_or (stamp_at c.stamps t) (cell_one t)) one_is

      tracked_none : tracked ≡ None
      tracked_none = ap (λ (b : Bool). if b then None else tracked_signal flat.tables (resumed_clusters model flat firsts s []) row.signal) event

      samples_are : state.samples ≡ stamps_in cell_one rows (from - rows)
      samples_are = is_saved.samples
          ∙ ap (λ (b : Bool). stamps_between then_cells column rows (shown_until from (if b then None else tracked_signal flat.tables w.clusters row.signal))) event
          ∙ (λ i. stamps_in (λ t. one_at from t i) rows (from - rows))

      stamp : SavedStamp → Stamp
      stamp x = stamp_of_trace flat.tables row x

      two_at : (t : ℕ) → part_cells.at column t ≡ cell_or (stamp_at (map (stamp_of_trace flat.tables row) (stamps_in cell_one rows (from - rows))) t) (cell_two t)
      two_at t = event_at two end t
          ∙ ap (λ (c : ColumnStart). cell_or (stamp_at c.stamps t) (cell_two t)) (two_is ∙ ap (column_start_of flat.tables rows row state) tracked_none)
          ∙ ap (λ (l : List SavedStamp). cell_or (stamp_at (map (stamp_of_trace flat.tables row) l) t) (cell_two t)) samples_are

      -- nothing changes where nothing is due
      kept_value : (v u : Raw) → u ≡ v → changed_cell v u ≡ None
      kept_value v u same =
          ap (changed_cell v) same
          ∙ ap (λ (b : Bool). if b then None else Some (Some v)) both_same
        where
          both_same : is_same_value v v ≡ true
          both_same = (λ i. int_same v.num i && nat_eq v.frac v.frac) ∙ eq-eqb v.frac v.frac refl

      two_rests : (t : ℕ) → t < from → cell_two t ≡ None
      two_rests t before = kept_value _ _ (resting row.signal (t + 1) (omega (arith, before)) ∙ sym (resting row.signal t (omega (arith, before))))

      known_change : (v u : Raw) → changed_cell v u ≡ Some None → ⊥
      known_change v u is = go (is_same_value v u) is
        where
          go : (b : Bool) → (if b then None else Some (Some u)) ≡ Some None → ⊥
          go true same = absurd cc
          go false same = absurd cc

      fits_event : FitsShown flat.tables then_cells column row rows from
      fits_event = events_fit column row row_at event

      event_meets : ColumnMeets (then_cells.at column) (whole_cells.at column) (part_cells.at column) rows end
      event_meets = record {
        agree = λ t before. one_at from t ∙ sym (one_at end t);
        none = λ t before. (
            let within = rows_are.within in
            two_at t
            ∙ ap (λ (o : Option Raw). cell_or o (cell_two t)) (stamp_lacks cell_one (stamp_of_trace flat.tables row) (λ x. refl) rows (from - rows) t (λ value up high is. omega (arith, up, before)))
            ∙ two_rests t (omega (arith, before, within)));
        same = λ t after before. two_at t ∙ elim (cases_lt t from) [
          | inl early ↦ (ap (cell_or (stamp_at (map (stamp_of_trace flat.tables row) (stamps_in cell_one rows (from - rows))) t)) (two_rests t early) ∙ found t after early (cell_one t) refl) ∙ sym (one_at end t)
          | inr late ↦ (
              ap (λ (o : Option Raw). cell_or o (cell_two t)) (stamp_lacks cell_one (stamp_of_trace flat.tables row) (λ x. refl) rows (from - rows) t (λ value up high is. (let within = rows_are.within in omega (arith, high, late, within))))
              ∙ (λ i. changed_cell (values row.signal t late (omega (arith, before)) i) (values row.signal (t + 1) (omega (arith, late)) (omega (arith, before)) i))
              ∙ sym (one_at end t))
        ];
      }
        where
          found : (t : ℕ) → rows ≤ t → t < from → (o : Option (Option Raw)) → cell_one t ≡ o → cell_or (stamp_at (map (stamp_of_trace flat.tables row) (stamps_in cell_one rows (from - rows))) t) None ≡ cell_one t
          found t after early None is = ap (λ (o : Option Raw). cell_or o None) (stamp_lacks cell_one (stamp_of_trace flat.tables row) (λ x. refl) rows (from - rows) t (λ value up high there_is. none_some (Some value) (sym is ∙ there_is))) ∙ sym is
          found t after early (Some None) is = absurd (known_change (value_one t) (value_one (t + 1)) is)
          found t after early (Some (Some v)) is =
              ap (λ (o : Option Raw). cell_or o None) (stamp_there cell_one (stamp_of_trace flat.tables row) (λ x. refl) rows (from - rows) t v after (omega (arith, after, early)) is)
              ∙ ap (λ (x : Raw). Some (Some x)) (fitting flat.tables row v (fits_event.after t v after early (one_at from t ∙ is))) ∙ sym is

    -- ---- a signal of samples

    module _ (plain : row.event ≡ false) where
      plain_at : (start : World SideOf) (stop : ℕ) (v : World SideOf) → state_at model flat (rules_of model flat) start stop ≡ On v → (t : ℕ)
          → (run_cells model flat (rules_of model flat) start stop).at column t ≡ signal_cell model flat (start_of start.shown column) t v.clusters row.signal
      plain_at start stop v at t = cell_at_row start stop t
          ∙ ap (λ b. if b then event_column_cell model flat (rules_of model flat) start (start_of start.shown column) row.signal t
          else signal_cell model flat (start_of start.shown column) t (world_of (state_at model flat (rules_of model flat) start stop)).clusters row.signal) plain
          ∙ ap (λ u. signal_cell model flat (start_of start.shown column) t (world_of u).clusters row.signal) at

      abbrev driver : Option ℕ
      driver = driver_of_row (slice_get flat.tables.signals row.signal)

      -- the cells, by the driver
      abbrev by_driver : World SideOf → ColumnStart → ℕ → Option ℕ → Option (Option Raw)
      by_driver v start t o = cell_by_driver model flat start t v.clusters o

      abbrev start_two : ColumnStart
      start_two = start_of two.shown column

      -- a port that drives it
      module _ (out : ℕ) (drives : driver ≡ Some out) (port : PortRow) (port_at : slice_get flat.tables.ports out ≡ Some port) where
        abbrev own : ℕ
        own = slice_index (clusters_of flat.tables) port.«module»

        some_own : 0 < own
        some_own = port_cluster flat out port limits port_at

        own_is : own - 1 + 1 ≡ own
        own_is = let s = some_own in omega (arith, s)

        -- what is tracked of a world
        tracked_is : (clusters : List ClusterAt) → tracked_of flat.tables clusters row ≡ option_map (λ (c : ClusterAt). record { port = port; cluster = c }) (slice_get clusters (own - 1))
        tracked_is clusters =
            ap (λ (b : Bool). if b then None else tracked_signal flat.tables clusters row.signal) plain
            ∙ ap (λ (o : Option ℕ). option_and_then (tracked_port flat.tables clusters) (option_and_then (slice_get flat.tables.ports) o)) drives
            ∙ ap (option_and_then (tracked_port flat.tables clusters)) port_at

        cell_is : (v : World SideOf) (start : ColumnStart) (t : ℕ) → signal_cell model flat start t v.clusters row.signal ≡ port_cell model flat own start port out t (slice_get v.clusters (own - 1))
        cell_is v start t = ap (by_driver v start t) drives ∙ ap (driven_cell model flat start t v.clusters out) port_at

        -- a cluster that waited, and all that came of it
        module _ (c : ClusterAt) (c_at : slice_get w.clusters (own - 1) ≡ Some c) where
          inside : own - 1 < length w.clusters
          inside = slice_get_within w.clusters (own - 1) c c_at

          h_there : (h : ClusterAt) × (slice_get a.clusters (own - 1) ≡ Some h)
          h_there = get_inside a.clusters (own - 1) (let i = inside in let l = longer.same in omega (arith, i, l))

          g_there : (g : ClusterAt) × (slice_get e.clusters (own - 1) ≡ Some g)
          g_there = get_inside e.clusters (own - 1) (let i = slice_get_within a.clusters (own - 1) h_there.0 h_there.1 in let l = come.same in omega (arith, i, l))

          abbrev h : ClusterAt
          h = h_there.0

          abbrev g : ClusterAt
          g = g_there.0

          came : HasCome w two (own - 1) h g
          came = come.each (own - 1) h g h_there.1 g_there.1

          abbrev b : ClusterAt
          b = came.b

          c_is : came.c ≡ c
          c_is = some_same came.c c (sym came.c_at ∙ c_at)

          resumed : IsResumedCluster model flat own c b
          resumed = subst (λ n. IsResumedCluster model flat n c b) own_is (goes.each (own - 1) c b c_at came.b_at)

          follows : Follows c b h g
          follows = subst (λ d. Follows d b h g) c_is came.follows

          sound_c : IsSoundCluster flat own c
          sound_c = subst (λ n. IsSoundCluster flat n c) own_is (sound_w.each (own - 1) c c_at)

          sound_h : IsSoundCluster flat own h
          sound_h = subst (λ n. IsSoundCluster flat n h) own_is (sound_a.each (own - 1) h h_there.1)

          sound_g : IsSoundCluster flat own g
          sound_g = subst (λ n. IsSoundCluster flat n g) own_is (sound_e.each (own - 1) g g_there.1)

          whole_goes : Continues c h
          whole_goes = (longer.each (own - 1) c h c_at h_there.1).continues sound_c.plan

          part_goes : Continues b g
          part_goes = (longer_part.each (own - 1) b g came.b_at g_there.1).continues (goes.sound.each (own - 1) b came.b_at).plan

          -- the cluster as the snapshot says it
          at_b : ResumedAt model flat firsts s more (own - 1) b
          at_b = resumed_at model flat firsts s more (own - 1) b came.b_at

          untold_there : (d : ClusterAt) × (slice_get (resumed_clusters model flat firsts s []) (own - 1) ≡ Some d)
          untold_there = get_inside (resumed_clusters model flat firsts s []) (own - 1) (
              let i = slice_get_within two.clusters (own - 1) b came.b_at in
              let l = long more [] in omega (arith, i, l))
            where
              all : List (ℕ × (First × ClusterStateOf))
              all = enumerate_from 0 (zip firsts s.clusters)

              of : List (List Change) → ℕ × (First × ClusterStateOf) → ClusterAt
              of told c = resumed_cluster model flat (c.0 + 1) s.time c.1.0 c.1.1 (slice_index_or told c.0 [])

              long : (x y : List (List Change)) → length (resumed_clusters model flat firsts s x) ≡ length (resumed_clusters model flat firsts s y)
              long x y = length-map all (of x) ∙ sym (length-map all (of y))

          abbrev d : ClusterAt
          d = untold_there.0

          at_d : ResumedAt model flat firsts s [] (own - 1) d
          at_d = resumed_at model flat firsts s [] (own - 1) d untold_there.1

          -- but for what is told it is the same
          d_is : d ≡ record b { ahead = [] }
          d_is =
              at_d.is
              ∙ (λ i. resumed_cluster model flat (own - 1 + 1) s.time (some_same at_d.first at_b.first (sym at_d.first_at ∙ at_b.first_at) i) (some_same at_d.state at_b.state (sym at_d.state_at ∙ at_b.state_at) i) [])
              ∙ ap (λ (k : ClusterAt). record k { ahead = [] }) (sym at_b.is)

          abbrev x : Tracked
          x = record { port = port; cluster = d }

          tracked_x : tracked ≡ Some x
          tracked_x = tracked_is (resumed_clusters model flat firsts s []) ∙ ap (option_map (λ (k : ClusterAt). record { port = port; cluster = k })) untold_there.1

          tracked_w : tracked_of flat.tables w.clusters row ≡ Some (record { port = port; cluster = c })
          tracked_w = tracked_is w.clusters ∙ ap (option_map (λ (k : ClusterAt). record { port = port; cluster = k })) c_at

          begins : c.since + c.now.info.period ≡ at_b.state.start + at_b.first.plan.period
          begins = λ i. start_is i + period_is i
            where
              start_is : c.since ≡ at_b.state.start
              start_is = sym resumed.since ∙ ap (λ (k : ClusterAt). k.since) at_b.is

              period_is : c.now.info.period ≡ at_b.first.plan.period
              period_is = sym (ap (λ k. k.period) resumed.rest.info) ∙ ap (λ (k : ClusterAt). k.now.info.period) at_b.is

          ends : from ≤ c.since + c.now.info.period
          ends =
              let u = valid.clusters.each (own - 1) at_b.first at_b.state at_b.first_at at_b.state_at in
              let t = begins in
              let z = time_is in
              elim u.inside [ inl none ↦ (let n = none.1 in omega (arith, t, z, n)) | inr some ↦ (let n = some.1 in omega (arith, t, z, n)) ]

          origin_g : g.origin ≡ c.since
          origin_g = part_goes.origin ∙ ap (λ (k : ClusterAt). k.origin) at_b.is ∙ sym (ap (λ (k : ClusterAt). k.since) at_b.is) ∙ resumed.since

          text : BeginsWithText start_one port
          text = record {
            stamps = ap (λ (k : ColumnStart). k.stamps) one_is;
            skipped = ap (λ (k : ColumnStart). k.skipped) one_is;
            ahead = ap (λ (k : ColumnStart). length k.ahead) one_is
                ∙ ap (λ (o : Option ℕ). length (driver_samples flat.tables o)) drives ∙ ap (λ (o : Option PortRow). length (initial_samples flat.tables o)) port_at
                ∙ length-map-range_with_len (initial_sample flat.tables port) 0 port.delay;
          }

          then_at : (t : ℕ) → then_cells.at column t ≡ port_cell model flat own start_one port out t (Some c)
          then_at t = plain_at one from w at_w t ∙ cell_is w start_one t ∙ ap (port_cell model flat own start_one port out t) c_at

          whole_at : (t : ℕ) → whole_cells.at column t ≡ port_cell model flat own start_one port out t (Some h)
          whole_at t = plain_at one end a at_a t ∙ cell_is a start_one t ∙ ap (port_cell model flat own start_one port out t) h_there.1

          part_at : (t : ℕ) → part_cells.at column t ≡ port_cell model flat own (column_start_of flat.tables rows row state (Some x)) port out t (Some g)
          part_at t = plain_at two end e at_e t ∙ cell_is e start_two t ∙ ap (port_cell model flat own start_two port out t) g_there.1
              ∙ ap (λ (k : ColumnStart). port_cell model flat own k port out t (Some g)) (two_is ∙ ap (column_start_of flat.tables rows row state) tracked_x)

          is_valid : IsValidSamples rows x state
          is_valid = subst (λ n. IsValidSamples n x state) rows_is (subst (λ o. IsValidTracked (rows_from_saved model flat firsts s) o state) tracked_x ((valid.columns.each column row state row_at state_there).1 plain))

          samples_saved : state.samples ≡ stamps_in (λ t. port_cell model flat own start_one port out t (Some c)) rows (c.since + c.now.info.period - rows)
          samples_saved = is_saved.samples ∙ ap (λ o. stamps_between then_cells column rows (shown_until from o)) tracked_w ∙ (λ i. stamps_in (λ t. then_at t i) rows (c.since + c.now.info.period - rows))

          later_saved : state.later ≡ flat_map (λ j. number_of_sample (sample_at model flat own c start_one port out j)) (range_with_len (count_of_spans (column_spans port start_one c.origin (periods_of c)))
              (samples_done start_one port c - count_of_spans (column_spans port start_one c.origin (periods_of c))))
          later_saved = is_saved.later ∙ (λ i. later_of model flat start_one (tracked_w i) (drives i))

          rows_within : rows ≤ c.since + c.now.info.period
          rows_within = let e = ends in let r = rows_are.within in omega (arith, e, r)

          known_then : (t : ℕ) → t < rows → port_cell model flat own start_one port out t (Some c) ≢ Some None
          known_then t before is = rows_are.known column t (slice_get_within flat.tables.traces column row row_at) before (then_at t ∙ is)

          sample_fits : (j : ℕ) (v : Raw) → sample_at model flat own c start_one port out j ≡ Some v → FitsTrace flat.tables row v
          sample_fits j v is = samples_fit column row row_at plain out port c drives port_at c_at j v is

          there_meets : ColumnMeets (then_cells.at column) (whole_cells.at column) (part_cells.at column) rows end
          there_meets = record {
            agree = λ t before. then_at t ∙ stays there by_table goes_on enough model flat is_flat limits sinks own c b h g resumed follows sound_c sound_h sound_g (timely (own - 1) c c_at) whole_goes origin_g x out of since_x place_x entries_x info_x start_one text
                t (let r = rows_within in omega (arith, before, r)) (known_then t before) ∙ sym (whole_at t);
            none = λ t before. part_at t ∙ none_early there by_table goes_on enough model flat is_flat limits sinks own c b h g resumed follows sound_c sound_h sound_g (timely (own - 1) c c_at) whole_goes origin_g x out of since_x place_x entries_x info_x start_one text
                row state rows is_valid rows_within known_then samples_saved later_saved (λ j v is. fitting flat.tables row v (sample_fits j v is)) t before;
            same = λ t after before. part_at t ∙ same_late there by_table goes_on enough model flat is_flat limits sinks own c b h g resumed follows sound_c sound_h sound_g (timely (own - 1) c c_at) whole_goes origin_g x out of since_x place_x entries_x info_x start_one text
                row state rows is_valid rows_within known_then samples_saved later_saved (λ j v is. fitting flat.tables row v (sample_fits j v is)) t after ∙ sym (whole_at t);
          }
            where
              of : IsClusterPort flat own out port
              of = record { there = port_at; inside = refl }

              since_x : d.since ≡ c.since
              since_x = ap (λ (k : ClusterAt). k.since) d_is ∙ resumed.since

              place_x : d.place ≡ c.place
              place_x = ap (λ (k : ClusterAt). k.place) d_is ∙ resumed.place

              entries_x : d.entries ≡ c.entries
              entries_x = ap (λ (k : ClusterAt). k.entries) d_is ∙ resumed.entries

              info_x : d.now.info ≡ b.now.info
              info_x = ap (λ (k : ClusterAt). k.now.info) d_is

          there_fits : (t : ℕ) (v : Raw) → then_cells.at column t ≡ Some (Some v) → FitsTrace flat.tables row v
          there_fits t v is = go (position_at 0 (column_spans port start_one c.origin (periods_of c)) t) (sym (then_at t) ∙ is)
            where
              go : (o : Option ℕ) → option_map (sample_at model flat own c start_one port out) o ≡ Some (Some v) → FitsTrace flat.tables row v
              go None at = absurd cc
              go (Some j) at = sample_fits j v (some_same (sample_at model flat own c start_one port out j) (Some v) at)

        -- and where there is no such cluster, nothing is shown
        port_meets : ColumnMeets (then_cells.at column) (whole_cells.at column) (part_cells.at column) rows end
        port_meets = go (slice_get w.clusters (own - 1)) refl
          where
            go : (o : Option ClusterAt) → slice_get w.clusters (own - 1) ≡ o → ColumnMeets (then_cells.at column) (whole_cells.at column) (part_cells.at column) rows end
            go (Some c) at = there_meets c at
            go None at = nothing_meets (then_cells.at column) (whole_cells.at column) (part_cells.at column) rows end
                (λ t. plain_at one from w at_w t ∙ cell_is w start_one t ∙ ap (port_cell model flat own start_one port out t) at)
                (λ t. plain_at one end a at_a t ∙ cell_is a start_one t ∙ ap (port_cell model flat own start_one port out t) a_none)
                (λ t. plain_at two end e at_e t ∙ cell_is e start_two t ∙ ap (port_cell model flat own start_two port out t) e_none)
              where
                past : length w.clusters ≤ own - 1
                past = elim (cases_lt (own - 1) (length w.clusters)) [ inl less ↦ (let k = get_inside w.clusters (own - 1) less in none_some k.0 (sym at ∙ k.1)) | inr more ↦ more ]

                a_none : slice_get a.clusters (own - 1) ≡ None
                a_none = slice_get_past a.clusters (own - 1) (let p = past in let l = longer.same in omega (arith, p, l))

                e_none : slice_get e.clusters (own - 1) ≡ None
                e_none = slice_get_past e.clusters (own - 1) (let p = past in let l = longer.same in let m = come.same in omega (arith, p, l, m))

        port_fits : (t : ℕ) (v : Raw) → then_cells.at column t ≡ Some (Some v) → FitsTrace flat.tables row v
        port_fits t v is = go (slice_get w.clusters (own - 1)) refl
          where
            go : (o : Option ClusterAt) → slice_get w.clusters (own - 1) ≡ o → FitsTrace flat.tables row v
            go (Some c) at = there_fits c at t v is
            go None at = none_some (Some v) (sym (plain_at one from w at_w t ∙ cell_is w start_one t ∙ ap (port_cell model flat own start_one port out t) at) ∙ is)

      -- one that no port drives shows nothing
      unknown_port : (out : ℕ) → driver ≡ Some out → slice_get flat.tables.ports out ≡ None → (v : World SideOf) (start : ColumnStart) (t : ℕ) → signal_cell model flat start t v.clusters row.signal ≡ None
      unknown_port out drives none v start t = ap (by_driver v start t) drives ∙ ap (driven_cell model flat start t v.clusters out) none

      plain_meets : ColumnMeets (then_cells.at column) (whole_cells.at column) (part_cells.at column) rows end
      plain_meets = go driver refl
        where
          shows_nothing : ((v : World SideOf) (start : ColumnStart) (t : ℕ) → signal_cell model flat start t v.clusters row.signal ≡ None) → ColumnMeets (then_cells.at column) (whole_cells.at column) (part_cells.at column) rows end
          shows_nothing none = nothing_meets (then_cells.at column) (whole_cells.at column) (part_cells.at column) rows end
              (λ t. plain_at one from w at_w t ∙ none w start_one t) (λ t. plain_at one end a at_a t ∙ none a start_one t) (λ t. plain_at two end e at_e t ∙ none e start_two t)

          by_port : (out : ℕ) → driver ≡ Some out → (o : Option PortRow) → slice_get flat.tables.ports out ≡ o → ColumnMeets (then_cells.at column) (whole_cells.at column) (part_cells.at column) rows end
          by_port out drives None at = shows_nothing (unknown_port out drives at)
          by_port out drives (Some port) at = port_meets out drives port at

          go : (o : Option ℕ) → driver ≡ o → ColumnMeets (then_cells.at column) (whole_cells.at column) (part_cells.at column) rows end
          go None at = shows_nothing (λ v start t. ap (by_driver v start t) at)
          go (Some out) at = by_port out at (slice_get flat.tables.ports out) refl

      plain_fits : (t : ℕ) (v : Raw) → then_cells.at column t ≡ Some (Some v) → FitsTrace flat.tables row v
      plain_fits t v is = go driver refl
        where
          shown_at_all : signal_cell model flat start_one t w.clusters row.signal ≡ Some (Some v)
          shown_at_all = sym (plain_at one from w at_w t) ∙ is

          by_port : (out : ℕ) → driver ≡ Some out → (o : Option PortRow) → slice_get flat.tables.ports out ≡ o → FitsTrace flat.tables row v
          by_port out drives None at = none_some (Some v) (sym (unknown_port out drives at w start_one t) ∙ shown_at_all)
          by_port out drives (Some port) at = port_fits out drives port at t v is

          go : (o : Option ℕ) → driver ≡ o → FitsTrace flat.tables row v
          go None at = none_some (Some v) (sym (ap (by_driver w start_one t) at) ∙ shown_at_all)
          go (Some out) at = by_port out at (slice_get flat.tables.ports out) refl

    -- ---- each column

    column_meets : ColumnMeets (then_cells.at column) (whole_cells.at column) (part_cells.at column) rows end
    column_meets = go row.event refl
      where
        go : (b : Bool) → row.event ≡ b → ColumnMeets (then_cells.at column) (whole_cells.at column) (part_cells.at column) rows end
        go true is = event_meets is
        go false is = plain_meets is

    -- what it shows just before a time fits
    plain_last : row.event ≡ false → (t : ℕ) (v : Raw) → last then_cells column t ≡ Some v → FitsTrace flat.tables row v
    unfolding last
    plain_last plain zero v is = none_some v (sym (ap (λ (c : ColumnStart). c.carry) one_is ∙ ap (λ (b : Bool). if b then Some (starting_value (slice_get flat.tables.de_signals row.signal)) else None) plain) ∙ is)
    plain_last plain (suc t) v is = go (plain_last plain t) (then_cells.at column t) refl is
      where
        go : ((u : Raw) → last then_cells column t ≡ Some u → FitsTrace flat.tables row u) → (o : Option (Option Raw)) → then_cells.at column t ≡ o → unwrap_or o (last then_cells column t) ≡ Some v → FitsTrace flat.tables row v
        go earlier None at shows = earlier v shows
        go earlier (Some None) at shows = none_some v shows
        go earlier (Some (Some u)) at shows = plain_fits plain t v (at ∙ ap Some shows)

    last_fits : (v : Raw) → last then_cells column rows ≡ Some v → FitsTrace flat.tables row v
    last_fits v is = go row.event refl
      where
        go : (b : Bool) → row.event ≡ b → FitsTrace flat.tables row v
        go true event = (fits_event event).before v is
        go false plain = plain_last plain rows v is

    -- so what it begins with, where it goes on, is what it showed
    carry_is : part_cells.first column ≡ last then_cells column rows
    carry_is = ap (λ (k : ColumnStart). k.carry) two_is ∙ carried tracked ∙ ap (option_map (value_of_trace flat.tables row)) is_saved.carry ∙ back (last then_cells column rows) refl
      where
        carried : (o : Option Tracked) → (column_start_of flat.tables rows row state o).carry ≡ option_map (value_of_trace flat.tables row) state.carry
        carried None = refl
        carried (Some y) = refl

        back : (o : Option Raw) → last then_cells column rows ≡ o → option_map (value_of_trace flat.tables row) (option_map (λ (v : Raw). v.num) o) ≡ o
        back None is = refl
        back (Some v) is = ap Some (fitting flat.tables row v (last_fits v is))

  -- ---- all columns

  abbrev Facts : (column : ℕ) → Type 0
  Facts column = ColumnMeets (then_cells.at column) (whole_cells.at column) (part_cells.at column) rows end × (part_cells.first column ≡ last then_cells column rows)

  facts : (column : ℕ) → column < length flat.tables.traces → Facts column
  facts column inside =
      let row = get_inside flat.tables.traces column inside in
      let state = get_inside s.columns column (let l = valid.members.columns in omega (arith, inside, l)) in
      (column_meets column row.0 row.1 state.0 state.1, carry_is column row.0 row.1 state.0 state.1)

  -- the run that waited has the cells of the whole below the rows
  pub cells_agree : Agree then_cells whole_cells rows
  cells_agree = record { columns = refl; first = λ column inside. refl; cells = λ column t inside before. (facts column inside).0.agree t before }

  -- and what goes on is the rest
  pub is_rest : AreRestOf whole_cells part_cells rows end
  is_rest = record {
    columns = refl;
    first = λ column inside. (facts column inside).1 ∙ last_same then_cells whole_cells rows column rows cells_agree inside (omega arith);
    none = λ column t inside before. (facts column inside).0.none t before;
    cells = λ column t inside after before. (facts column inside).0.same t after before;
  }
