-- Later instants change no cell below a mark.
use Rattle.std.proofs.Common.{◌≡◌, ◌∙◌, ℕ, zero, suc, ◌+◌, ◌-◌, ◌<◌, ◌≤◌, Bool, true, false, Option, Some, None, List, if◌then◌else◌, length, slice_get, slice_index, refl, sym, ap, subst, inl, inr, arith}
use Rattle.std.proofs.lemmas.Bool.{cases_lt}
use Rattle.std.proofs.lemmas.List.Sums.{sum_by_push}
use Rattle.std.proofs.lemmas.Option.{slice_get_past}
use Rattle.tdf_dynamic_plans.proofs.Api.{modules_few}
use Rattle.tdf_dynamic_plans.specs.Attributes.{clusters_of}
use Rattle.tdf_dynamic.specs.Below.{AreWithinLimits, Flat, PeriodRecord}
use Rattle.tdf_dynamic.proofs.Api.{get_inside, is_wired}
use Rattle.tdf_graph.specs.Clusters.{AreClusters}
use Rattle.tdf_graph.specs.declared.actors.Edge.{Edge}
use Rattle.tdf_sim_history.specs.Cells.{cell_by_driver, driven_cell, driver_of_row, event_column_cell, port_cell, run_cells, signal_cell, trace_cell, world_of}
use Rattle.tdf_sim_history.specs.Columns.{ColumnStart, start_of}
use Rattle.tdf_sim_history.specs.Instant.{engine}
use Rattle.tdf_sim_history.specs.World.{ClusterAt, Rules, World}
use Rattle.tdf_sim_history.specs.History.{On, history}
use Rattle.tdf_trace_rows.specs.Laws.{Agree}
use Rattle.tdf_lang_tree.specs.Pure.{PureTree}
use Rattle.tdf_bind_connections.specs.declared.modules.PortRow.{PortRow}
use Rattle.tdf_bind_connections.specs.declared.traces.TraceRow.{TraceRow}
use Rattle.tdf_sim_history.proofs.Below.{all_at, cell_stays, whole_plan}
use Rattle.tdf_sim_history.proofs.Known.{done_before}
use Rattle.tdf_sim_history.proofs.Worlds.{go_on}
use Rattle.tdf_sim_history.specs.Continuing.{AllGoOn}
use Rattle.tdf_sim_history.specs.WorldLaws.{AreSteady, CellsStay, HasDone, IsSettled, MarksAreSettled, Shows}
use Rattle.tdf_sim_history.specs.Rules.{rules_of, world_engine}

-- clusters have numbers from 1 on
module _ (count : ℕ) (edges : List Edge) (numbers : List ℕ) (are : AreClusters count edges numbers) where
  some_below : (k a : ℕ) → a < k → a < count → 0 < slice_index numbers a
  some_below zero a low inside = absurd (omega (arith, low))
  some_below (suc k) a low inside = elim (cases_lt 0 (slice_index numbers a)) [
    | inl some ↦ some
    | inr none ↦ (let f = are.first a inside (λ b less joined. (
        let s = some_below k b (omega (arith, less, low)) (omega (arith, less, inside)) in
        let e = are.joined b a (omega (arith, less, inside)) inside joined in omega (arith, s, e, none))) in omega (arith, f))
  ]

-- the cluster of the module of a port
pub port_cluster : (flat : Flat) (number : ℕ) (port : PortRow) → AreWithinLimits flat → slice_get flat.tables.ports number ≡ Some port → 0 < slice_index (clusters_of flat.tables) port.«module»
port_cluster flat number port limits at =
    let m = all_at (λ (row : PortRow). row.«module» < length flat.tables.modules) flat.tables.ports number port limits.in_range.port_modules at in
    let few = modules_few flat.tables (is_wired flat limits) in
    some_below (length flat.tables.actors) _ (clusters_of flat.tables) limits.actors.clusters (suc port.«module») port.«module» (omega arith) (omega (arith, m, few))

either : {A : Type 0} (b : Bool) (x y z : A) → (b ≡ false → y ≡ z) → (if b then x else y) ≡ (if b then x else z)
either true x y z e = refl
either false x y z e = e refl

module _ {K : Type 0} (model : PureTree) (flat : Flat) (limits : AreWithinLimits flat) (shown : List ColumnStart) (w e : World K) (steady : AreSteady model flat w) (all : AllGoOn w e) (mark time : ℕ)
    (below : time < mark) (settled : IsSettled flat shown w mark) where
  module _ (s : ColumnStart) (number : ℕ) (port : PortRow) (shows : Shows flat shown s number port) where
    abbrev own : ℕ
    own = slice_index (clusters_of flat.tables) port.«module»

    port_stays : 0 < own → port_cell model flat own s port number time (slice_get w.clusters (own - 1)) ≡ port_cell model flat own s port number time (slice_get e.clusters (own - 1))
    port_stays some = elim (cases_lt (own - 1) (length w.clusters)) [
      | inl inside ↦ both (get_inside w.clusters (own - 1) inside) (get_inside e.clusters (own - 1) (let l = all.same in omega (arith, l, inside)))
      | inr past ↦ ap (port_cell model flat own s port number time) (slice_get_past w.clusters (own - 1) past)
          ∙ sym (ap (port_cell model flat own s port number time) (slice_get_past e.clusters (own - 1) (let l = all.same in omega (arith, l, past))))
    ]
      where
        both : (c : ClusterAt) × (slice_get w.clusters (own - 1) ≡ Some c) → (d : ClusterAt) × (slice_get e.clusters (own - 1) ≡ Some d)
            → port_cell model flat own s port number time (slice_get w.clusters (own - 1)) ≡ port_cell model flat own s port number time (slice_get e.clusters (own - 1))
        both c d =
            let is : own - 1 + 1 ≡ own = omega (arith, some) in
            let has = subst (λ k. HasDone model flat k c.0) is (steady.each (own - 1) c.0 c.1) in
            let m = settled.within (own - 1) c.0 c.1 in
            ap (port_cell model flat own s port number time) c.1
            ∙ cell_stays model flat own c.0 d.0 has ((all.each (own - 1) c.0 d.0 c.1 d.1).continues (whole_plan model flat own c.0 has)) port number s time (omega (arith, below, m))
            (λ j at. settled.there s number port c.0 time j shows c.1 below at)
            ∙ sym (ap (port_cell model flat own s port number time) d.1)

  module _ (column : ℕ) (row : TraceRow) (there : slice_get flat.tables.traces column ≡ Some row) (plain : row.event ≡ false) where
    abbrev s : ColumnStart
    s = start_of shown column

    driven_stays : (number : ℕ) → driver_of_row (slice_get flat.tables.signals row.signal) ≡ Some number → (o : Option PortRow) → slice_get flat.tables.ports number ≡ o
        → driven_cell model flat s time w.clusters number o ≡ driven_cell model flat s time e.clusters number o
    driven_stays number driver None at = refl
    driven_stays number driver (Some port) at =
        port_stays s number port (record { column = column; row = row; there = there; plain = plain; driver = driver; port_is = at; start_is = refl }) (port_cluster flat number port limits at)

    by_driver : (o : Option ℕ) → driver_of_row (slice_get flat.tables.signals row.signal) ≡ o → cell_by_driver model flat s time w.clusters o ≡ cell_by_driver model flat s time e.clusters o
    by_driver None driver = refl
    by_driver (Some number) driver = driven_stays number driver (slice_get flat.tables.ports number) refl

    -- the cell of a signal of samples
    pub signal_cell_stays : signal_cell model flat s time w.clusters row.signal ≡ signal_cell model flat s time e.clusters row.signal
    signal_cell_stays = by_driver (driver_of_row (slice_get flat.tables.signals row.signal)) refl

module _ {K : Type 0} (model : PureTree) (flat : Flat) (rules : Rules K)
    (start w e : World K) (now end mark : ℕ) (limits : AreWithinLimits flat) (on : history (engine model flat rules) 0 start now ≡ On w) (low : now ≤ end)
    (on_end : history (engine model flat rules) 0 start end ≡ On e) (steady : AreSteady model flat w) (settled : IsSettled flat start.shown w mark) where
  trace_stays : (time : ℕ) → time < mark → (column : ℕ) (o : Option TraceRow) → slice_get flat.tables.traces column ≡ o
      → trace_cell model flat rules start now time (start_of start.shown column) o ≡ trace_cell model flat rules start end time (start_of start.shown column) o
  trace_stays time below column None there = refl
  trace_stays time below column (Some row) there = either row.event (event_column_cell model flat rules start (start_of start.shown column) row.signal time) _ _ (λ plain.
      ap (λ v. signal_cell model flat (start_of start.shown column) time (world_of v).clusters row.signal) on
      ∙ signal_cell_stays model flat limits start.shown w e steady (go_on model flat rules start w now on end e low on_end) mark time below settled column row there plain
      ∙ sym (ap (λ v. signal_cell model flat (start_of start.shown column) time (world_of v).clusters row.signal) on_end))

  pub cells_agree : Agree (run_cells model flat rules start now) (run_cells model flat rules start end) mark
  cells_agree = record {
    columns = refl;
    first = λ column inside. refl;
    cells = λ column time inside below. trace_stays time below column (slice_get flat.tables.traces column) refl;
  }

pub cells_stay : CellsStay
cells_stay model flat start w e now end mark limits on low on_end steady not_after settled =
    let z : now ≡ now - 0 = omega arith in
    cells_agree model flat (rules_of model flat) start w e now end mark limits (ap (history (world_engine model flat) 0 start) z ∙ on.on) low on_end steady settled

-- where no cluster began its period before a mark, each position below it has its sample
pub marks_are_settled : MarksAreSettled
marks_are_settled model flat shown w mark limits steady started marked = record {
  within = λ n c at. (let m = marked n c at in let p = sum_by_push (λ (q : PeriodRecord). q.info.period) c.old c.now in omega (arith, m, p));
  there = λ s number port c time j shows at below position. (
      let some = port_cluster flat number port limits shows.port_is in
      let is : slice_index (clusters_of flat.tables) port.«module» - 1 + 1 ≡ slice_index (clusters_of flat.tables) port.«module» = omega (arith, some) in
      let has = subst (λ k. HasDone model flat k c) is (steady.each (slice_index (clusters_of flat.tables) port.«module» - 1) c at) in
      let m = marked (slice_index (clusters_of flat.tables) port.«module» - 1) c at in
      done_before model flat (slice_index (clusters_of flat.tables) port.«module») c has port number s (started s number port c shows at) time j (omega (arith, below, m)) position);
}
