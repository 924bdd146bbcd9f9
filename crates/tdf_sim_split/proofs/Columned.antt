-- The columns of a snapshot are valid: one column of samples.
use Rattle.std.proofs.Common.{◌≡◌, ◌∙◌, ◌<◌, ◌≤◌, ◌+◌, ◌-◌, ◌*◌, ◌/◌, ◌++◌, ℕ, if◌then◌else◌, Option, Some, None, option_map, List, [], ◌∷◌, length, slice_get, slice_index, refl, ap, sym, subst, inl, inr, arith}
use Rattle.std.proofs.lemmas.Bool.{cases_lt, le-ltb, lt-ltb}
use Rattle.std.proofs.lemmas.Option.{slice_get_past}
use Rattle.std.specs.List.{sum_by}
use Rattle.std.specs.Option.{option_and_then}
use Rattle.tdf_bind.specs.declared.model.Flat.{Flat}
use Rattle.tdf_bind_connections.specs.declared.modules.PortRow.{PortRow}
use Rattle.tdf_bind_connections.specs.declared.traces.TraceRow.{TraceRow}
use Rattle.tdf_bind_invariants.specs.Limits.{AreWithinLimits}
use Rattle.tdf_dynamic_plans.specs.Attributes.{clusters_of}
use Rattle.tdf_dynamic_plans.specs.Rates.{port_rate}
use Rattle.tdf_fixed.specs.declared.raw.Raw.{Raw}
use Rattle.tdf_lang_tree.specs.Pure.{PureTree}
use Rattle.tdf_schedule.specs.Plan.{done}
use Rattle.tdf_schedule.specs.declared.entry.Entry.{Entry}
use Rattle.tdf_sim_history.proofs.Api.{sample_value}
use Rattle.tdf_sim_history.specs.Cells.{cell_by_driver, column_spans, driven_cell, driver_of_row, port_cell, sample_at, sample_of, samples_done, signal_cell}
use Rattle.tdf_sim_history.specs.Columns.{ColumnStart, held_by}
use Rattle.tdf_sim_history.specs.Instant.{periods_of, run_in}
use Rattle.tdf_sim_history.specs.World.{ClusterAt}
use Rattle.tdf_sim_history.specs.WorldLaws.{AreRecordsOf, HasDone}
use Rattle.tdf_sim_resumed.specs.Starting.{Tracked, known_count, position_count, tracked_port, tracked_signal}
use Rattle.tdf_sim_split.proofs.Spanning.{InPeriod, PeriodNumbers, here, later}
use Rattle.tdf_sim_split.specs.Columns.{BeginsIn, IsAtSame}
use Rattle.tdf_streams.proofs.Api.{get_inside, none_some}
use Rattle.tdf_streams.specs.Cluster.{Start, cluster_net}
use Rattle.tdf_streams.specs.Grounds.{firings}
use Rattle.tdf_streams.specs.Laws.{IsClusterPort}
use Rattle.tdf_streams.specs.Periods.{PeriodRecord}
use Rattle.tdf_streams.specs.Signals.{outputs_in, positions, rate_in, step_in, time_of_periods}
use Rattle.tdf_streams.specs.Streams.{known}
use Rattle.tdf_trace_rows.specs.Positions.{position_at}

-- ---- numbers of a period

abbrev pub numbers_of : Tracked → PeriodNumbers
numbers_of x = record {
  since = x.cluster.since;
  step = step_in x.port x.cluster.now;
  count = position_count x;
  known = known_count x;
}

-- they are the same at the same place of the same period
pub same_numbers : (port : PortRow) (c d : ClusterAt) → IsAtSame c d → numbers_of (record { port = port; cluster = d }) ≡ numbers_of (record { port = port; cluster = c })
same_numbers port c d same = λ i. record {
  since = same.since i;
  step = same.period i / (slice_index (same.counts i) port.«module» * port_rate (same.table i) port);
  count = slice_index (same.counts i) port.«module» * port_rate (same.table i) port;
  known = port.delay + done (same.entries i) (same.place i) port.«module» * port_rate (same.table i) port;
}

-- ---- how a signal of samples is shown

-- by a port of a cluster
pub record IsDriven (flat : Flat) (clusters : List ClusterAt) (row : TraceRow) : Type 0 where
  pub number : ℕ
  pub port : PortRow
  pub cluster : ClusterAt
  pub driver : driver_of_row (slice_get flat.tables.signals row.signal) ≡ Some number
  pub port_is : slice_get flat.tables.ports number ≡ Some port
  pub there : slice_get clusters (slice_index (clusters_of flat.tables) port.«module» - 1) ≡ Some cluster

abbrev pub tracked_by : {flat : Flat} {clusters : List ClusterAt} {row : TraceRow} → IsDriven flat clusters row → Tracked
tracked_by d = record { port = d.port; cluster = d.cluster }

-- or not at all
pub data HowShown (model : PureTree) (flat : Flat) (clusters : List ClusterAt) (row : TraceRow) : Type 0 where
  Nothing : tracked_signal flat.tables clusters row.signal ≡ None → ((s : ColumnStart) (t : ℕ) → signal_cell model flat s t clusters row.signal ≡ None)
      → ((others : List ClusterAt) → length others ≡ length clusters → tracked_signal flat.tables others row.signal ≡ None) → HowShown model flat clusters row
  Driven : IsDriven flat clusters row → HowShown model flat clusters row

get_none : {A B : Type 0} (xs : List A) (ys : List B) (n : ℕ) → length ys ≡ length xs → slice_get xs n ≡ None → slice_get ys n ≡ None
get_none xs ys n same none = elim (cases_lt n (length xs)) [
  | inl inside ↦ (let x = get_inside xs n inside in none_some x.0 (sym none ∙ x.1))
  | inr past ↦ slice_get_past ys n (omega (arith, same, past))
]

module _ (model : PureTree) (flat : Flat) (clusters : List ClusterAt) (row : TraceRow) where
  abbrev tracks : (others : List ClusterAt) → Option ℕ → Option Tracked
  tracks others o = option_and_then (tracked_port flat.tables others) (option_and_then (slice_get flat.tables.ports) o)

  pub how_shown : HowShown model flat clusters row
  how_shown = by_driver (driver_of_row (slice_get flat.tables.signals row.signal)) refl
    where
      by_cluster : (number : ℕ) (port : PortRow) → driver_of_row (slice_get flat.tables.signals row.signal) ≡ Some number → slice_get flat.tables.ports number ≡ Some port
          → (o : Option ClusterAt) → slice_get clusters (slice_index (clusters_of flat.tables) port.«module» - 1) ≡ o → HowShown model flat clusters row
      by_cluster number port driver port_is None there = Nothing
          (ap (tracks clusters) driver ∙ ap (option_and_then (tracked_port flat.tables clusters)) port_is ∙ ap (option_map (λ (c : ClusterAt). record { port = port; cluster = c })) there)
          (λ s t. ap (cell_by_driver model flat s t clusters) driver ∙ ap (driven_cell model flat s t clusters number) port_is
          ∙ ap (port_cell model flat (slice_index (clusters_of flat.tables) port.«module») s port number t) there)
          (λ others same. ap (tracks others) driver ∙ ap (option_and_then (tracked_port flat.tables others)) port_is
          ∙ ap (option_map (λ (c : ClusterAt). record { port = port; cluster = c })) (get_none clusters others (slice_index (clusters_of flat.tables) port.«module» - 1) same there))
      by_cluster number port driver port_is (Some c) there = Driven (record { number = number; port = port; cluster = c; driver = driver; port_is = port_is; there = there })

      by_port : (number : ℕ) → driver_of_row (slice_get flat.tables.signals row.signal) ≡ Some number → (o : Option PortRow) → slice_get flat.tables.ports number ≡ o → HowShown model flat clusters row
      by_port number driver None port_is = Nothing
          (ap (tracks clusters) driver ∙ ap (option_and_then (tracked_port flat.tables clusters)) port_is)
          (λ s t. ap (cell_by_driver model flat s t clusters) driver ∙ ap (driven_cell model flat s t clusters number) port_is)
          (λ others same. ap (tracks others) driver ∙ ap (option_and_then (tracked_port flat.tables others)) port_is)
      by_port number driver (Some port) port_is = by_cluster number port driver port_is (slice_get clusters (slice_index (clusters_of flat.tables) port.«module» - 1)) refl

      by_driver : (o : Option ℕ) → driver_of_row (slice_get flat.tables.signals row.signal) ≡ o → HowShown model flat clusters row
      by_driver None driver = Nothing (ap (tracks clusters) driver) (λ s t. ap (cell_by_driver model flat s t clusters) driver) (λ others same. ap (tracks others) driver)
      by_driver (Some number) driver = by_port number driver (slice_get flat.tables.ports number) refl

  module _ (d : IsDriven flat clusters row) where
    abbrev own : ℕ
    own = slice_index (clusters_of flat.tables) d.port.«module»

    pub tracked_is : tracked_signal flat.tables clusters row.signal ≡ Some (tracked_by d)
    tracked_is = ap (tracks clusters) d.driver ∙ ap (option_and_then (tracked_port flat.tables clusters)) d.port_is ∙ ap (option_map (λ (c : ClusterAt). record { port = d.port; cluster = c })) d.there

    pub tracked_in : (others : List ClusterAt) (e : ClusterAt) → slice_get others (own - 1) ≡ Some e → tracked_signal flat.tables others row.signal ≡ Some (record { port = d.port; cluster = e })
    tracked_in others e at = ap (tracks others) d.driver ∙ ap (option_and_then (tracked_port flat.tables others)) d.port_is ∙ ap (option_map (λ (c : ClusterAt). record { port = d.port; cluster = c })) at

    pub cell_is : (s : ColumnStart) (t : ℕ) → signal_cell model flat s t clusters row.signal
        ≡ option_map (sample_at model flat own d.cluster s d.port d.number) (position_at 0 (column_spans d.port s d.cluster.origin (periods_of d.cluster)) t)
    cell_is s t = ap (cell_by_driver model flat s t clusters) d.driver ∙ ap (driven_cell model flat s t clusters d.number) d.port_is ∙ ap (port_cell model flat own s d.port d.number t) d.there

-- ---- the period of a cluster

module _ (flat : Flat) (limits : AreWithinLimits flat) (number cluster : ℕ) (port : PortRow) (of : IsClusterPort flat cluster number port) (begun : Start) (rows : ℕ) (s : ColumnStart) where
  pub in_period : (old : List PeriodRecord) (now : PeriodRecord) (origin since from place : ℕ) (entries : List Entry) → BeginsIn rows s port origin (old ++ now ∷ []) → AreRecordsOf flat cluster begun (old ++ now ∷ []) → since ≡ origin + time_of_periods old → from ≤ place
      → slice_index now.counts port.«module» + done entries from port.«module» ≡ done entries (length entries) port.«module» → slice_index now.info.counts port.«module» ≡ done entries (length entries) port.«module»
      → InPeriod rows (column_spans port s origin (old ++ now ∷ [])) (length (held_by s) + (sum_by (outputs_in port) old + (done entries place port.«module» - done entries from port.«module») * rate_in port now))
      (record { since = since; step = step_in port now; count = positions port now; known = port.delay + done entries place port.«module» * rate_in port now })
  in_period [] now origin since from place entries begins records timed up counts whole =
      let z : time_of_periods [] ≡ 0 = refl in
      let e : origin ≡ since = omega (arith, timed, z) in
      subst (λ k. InPeriod rows (column_spans port s origin (now ∷ [])) (length (held_by s) + (sum_by (outputs_in port) [] + (done entries place port.«module» - done entries from port.«module») * rate_in port now))
      (record { since = k; step = step_in port now; count = positions port now; known = port.delay + done entries place port.«module» * rate_in port now })) e
      (here flat limits number cluster port of rows s origin now records.head.timed begins entries from place up counts whole)
  in_period (p ∷ ps) now origin since from place entries begins records timed up counts whole =
      later flat limits number cluster port of rows s origin p records.head.timed begins entries from place up ps now since records.rest timed counts whole

-- ---- the samples that are there

module _ (model : PureTree) (flat : Flat) (number : ℕ) (c : ClusterAt) (has : HasDone model flat number c) (s : ColumnStart) (port : PortRow) (out : ℕ) where
  pub sample_there : (j : ℕ) → j < samples_done s port c → (v : Raw) × (sample_at model flat number c s port out j ≡ Some v)
  sample_there j low = let v = sample_value model flat number c has port out s j low in
      (v.0, ap (λ b. if b then sample_of s (periods_of c) port out (known (cluster_net model flat number c.begun) (run_in c) (firings (periods_of c))) j else None) (lt-ltb j (samples_done s port c) low) ∙ v.1)

  pub sample_past : (j : ℕ) → samples_done s port c ≤ j → sample_at model flat number c s port out j ≡ None
  sample_past j past = ap (λ b. if b then sample_of s (periods_of c) port out (known (cluster_net model flat number c.begun) (run_in c) (firings (periods_of c))) j else None) (le-ltb j (samples_done s port c) past)
