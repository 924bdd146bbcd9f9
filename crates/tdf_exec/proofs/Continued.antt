-- A cluster that goes on from a state is one of its flat model, and stands for its streams.
use Rattle.std.proofs.Common.{◌≡◌, ◌∙◌, ◌≢◌, ℕ, ◌+◌, ◌*◌, ◌<◌, ◌≤◌, true, false, if◌then◌else◌, List, [], Some, ℤ, length, refl, sym, ap, subst, inl, inr, ◌⊎◌, arith}
use Rattle.std.proofs.lemmas.Bool.{cases_eq, eq-eqb, ne_eqb}
use Rattle.std.proofs.lemmas.List.{length-map}
use Rattle.std.proofs.lemmas.List.Elements.{All-map}
use Rattle.std.proofs.lemmas.List.Sums.{count_by-le-length}
use Rattle.std.specs.Prelude.{All, slice_get, slice_index, slice_index_or}
use Rattle.tdf_bind.specs.declared.model.Flat.{Flat}
use Rattle.tdf_bind_connections.specs.declared.edges.EdgeRow.{EdgeRow}
use Rattle.tdf_dynamic_first.specs.declared.first.First.{First}
use Rattle.tdf_dynamic_plans.proofs.Api.{modules_few}
use Rattle.tdf_dynamic_plans.specs.Attributes.{AttrsOf, IsOfCluster, attrs_at, clusters_of, rates_in}
use Rattle.tdf_dynamic_plans.specs.Known.{AreTrueFor}
use Rattle.tdf_dynamic_plans.specs.Rates.{net_of}
use Rattle.tdf_exec_parts.specs.Below.{IsTableFirst}
use Rattle.tdf_exec.proofs.Elsewhere.{IsPlaced}
use Rattle.tdf_exec.proofs.Kept.{held_at, is_cluster, stands_from, zero_at}
use Rattle.tdf_exec.proofs.Planned.{is_safe, no_times, none_done, start_of}
use Rattle.tdf_exec.proofs.Resumed.{rates_of_state, state_of_row, state_rows}
use Rattle.tdf_exec.proofs.Rows.{all_at}
use Rattle.tdf_exec.specs.Crossing.{cells_in, values_at}
use Rattle.tdf_exec.specs.Made.{AreHeld, HasRows, IsClusterOf}
use Rattle.tdf_exec.specs.Played.{runner_cells}
use Rattle.tdf_exec.specs.Restored.{IsAtState, IsStateStart, StandsAtState}
use Rattle.tdf_exec.specs.Starts.{IsSoundFlat}
use Rattle.tdf_exec.specs.declared.runners.Runner.{Runner}
use Rattle.tdf_exec.specs.machine.Laid.{AreParts, IsLaid}
use Rattle.tdf_exec.specs.machine.Resuming.{HoldsState}
use Rattle.tdf_exec_layout.specs.Samples.{edge_format}
use Rattle.tdf_exec_parts.specs.Restored.{AreStateRings, held_by_state, samples_by}
use Rattle.tdf_exec_parts.specs.States.{HoldEdges, IsStateUnder, due_before, place_of_edge}
use Rattle.tdf_expr.specs.Frames.{IsOfFormat}
use Rattle.tdf_expr_state.specs.State.{FrameState}
use Rattle.tdf_fixed.specs.Cast.{fraction_of}
use Rattle.tdf_fixed.specs.declared.format.Format.{Format}
use Rattle.tdf_fixed.specs.declared.raw.Raw.{Raw}
use Rattle.tdf_rings.specs.Carried.{ring_at}
use Rattle.tdf_rings.specs.Rings.{RingOf}
use Rattle.tdf_saved.specs.State.{ClusterStateOf, ModuleStateOf}
use Rattle.tdf_schedule.specs.Laws.{PlansArePresent}
use Rattle.tdf_schedule.specs.Plan.{done}
use Rattle.tdf_schedule.specs.declared.entry.Entry.{Entry}
use Rattle.tdf_schedule.specs.declared.entry.Plan.{Plan}
use Rattle.tdf_streams.proofs.Api.{get_inside, is_wired, one_cluster}
use Rattle.tdf_streams.specs.Cluster.{Start}
use Rattle.tdf_streams.specs.Periods.{read_rates, write_rates}
use Rattle.tdf_streams.specs.Places.{is_own, reader_at, reader_of_row, writer_at, writer_of_row}
use Rattle.tdf_streams.specs.Starts.{held_at_head, initial_of_row}

-- ---- what the edges hold

abbrev raw_of : Format → ℤ → Raw
raw_of f num = record { num = num; frac = fraction_of f }

module _ (flat : Flat) (cluster : ℕ) (first : First) (sound : IsSoundFlat flat) (laid : IsLaid flat) (is : IsTableFirst flat cluster first.attrs.rows first) (law : PlansArePresent)
    (edges : List (List ℤ)) (place : ℕ) (within_plan : place ≤ length first.plan.entries.items)
    (hold : HoldEdges flat.tables cluster first.attrs.rows first.plan.entries.items place edges) where
  abbrev entries : List Entry
  entries = first.plan.entries.items

  abbrev taken : List ℕ
  taken = read_rates (net_of flat.tables first.attrs.rows)

  abbrev given : List ℕ
  given = write_rates (net_of flat.tables first.attrs.rows)

  abbrev nums : ℕ → List ℤ
  nums e = slice_index_or edges (place_of_edge flat.tables cluster e) []

  format_there : (e : ℕ) → e < length flat.tables.edges → (f : Format) × (edge_format flat.tables e ≡ Some f)
  format_there e within = (let row = get_inside flat.tables.edges e within in let h = laid.formats e row.0 row.1 in (h.format, h.format_is))

  list_own : (e : ℕ) (f : Format) → is_own flat.tables cluster e ≡ true → edge_format flat.tables e ≡ Some f → held_by_state flat.tables cluster edges e ≡ samples_by (Some f) (nums e)
  list_own e f own format = ap (λ b. if b then samples_by (edge_format flat.tables e) (nums e) else []) own ∙ ap (λ o. samples_by o (nums e)) format

  list_other : (e : ℕ) → is_own flat.tables cluster e ≡ false → held_by_state flat.tables cluster edges e ≡ []
  list_other e other = ap (λ b. if b then samples_by (edge_format flat.tables e) (nums e) else []) other

  -- an edge holds what was written and not read
  abbrev IsFull : ℕ → Type 0
  IsFull e = length (held_by_state flat.tables cluster edges e) + done entries place (reader_at flat.tables.edges e) * slice_index taken e
      ≡ held_at_head flat.tables cluster e + done entries place (writer_at flat.tables.edges e) * slice_index given e

  full : (e : ℕ) → e < length flat.tables.edges → IsFull e
  full e within = go (cases_eq (slice_index (clusters_of flat.tables) (writer_at flat.tables.edges e)) cluster)
    where
      row : (r : EdgeRow) × (slice_get flat.tables.edges e ≡ Some r)
      row = get_inside flat.tables.edges e within

      reader_apart : (slice_index (clusters_of flat.tables) (writer_at flat.tables.edges e) ≢ cluster) → slice_index (clusters_of flat.tables) (reader_at flat.tables.edges e) ≡ cluster → ⊥
      reader_apart apart own = apart (ap (λ o. slice_index (clusters_of flat.tables) (writer_of_row o)) row.1 ∙ one_cluster flat laid.limits e row.0 row.1
          ∙ sym (ap (λ o. slice_index (clusters_of flat.tables) (reader_of_row o)) row.1) ∙ own)

      go : (slice_index (clusters_of flat.tables) (writer_at flat.tables.edges e) ≡ cluster) ⊎ (slice_index (clusters_of flat.tables) (writer_at flat.tables.edges e) ≢ cluster) → IsFull e
      go (inl here) =
          let own : is_own flat.tables cluster e ≡ true = eq-eqb (slice_index (clusters_of flat.tables) (writer_at flat.tables.edges e)) cluster here in
          let f = format_there e within in
          ap (λ n. n + done entries place (reader_at flat.tables.edges e) * slice_index taken e) (ap (λ (l : List Raw). length l) (list_own e f.0 own f.1) ∙ length-map (nums e) (raw_of f.0))
          ∙ (hold.each e within own).held
      go (inr apart) =
          let other : is_own flat.tables cluster e ≡ false = ne_eqb (slice_index (clusters_of flat.tables) (writer_at flat.tables.edges e)) cluster apart in
          let l : length (held_by_state flat.tables cluster edges e) ≡ 0 = ap (λ (l : List Raw). length l) (list_other e other) in
          let h : held_at_head flat.tables cluster e ≡ 0 = ap (λ b. if b then initial_of_row (slice_get flat.tables.edges e) else 0) other in
          let w = no_times (done entries place (writer_at flat.tables.edges e)) (slice_index given e)
          (none_done flat cluster first sound laid is law (writer_at flat.tables.edges e) place apart) in
          let r = no_times (done entries place (reader_at flat.tables.edges e)) (slice_index taken e)
          (none_done flat cluster first sound laid is law (reader_at flat.tables.edges e) place (reader_apart apart)) in
          omega (arith, l, h, w, r)

  -- an edge that stands at a place has room for what the state says there
  pub state_fits : (e i : ℕ) → IsPlaced flat.tables cluster e i → length (samples_by (edge_format flat.tables e) (slice_index_or edges i [])) ≤ slice_index first.plan.bounds.items e
  state_fits e i placed =
      let f = full e placed.0 in let b = (is_safe flat cluster first sound laid is law place [] [] []).bounded place e within_plan placed.0 in
      let fits : length (held_by_state flat.tables cluster edges e) ≤ slice_index first.plan.bounds.items e = omega (arith, f, b) in
      subst (λ n. length (samples_by (edge_format flat.tables e) (slice_index_or edges n [])) ≤ slice_index first.plan.bounds.items e) placed.2
      (subst (λ b. length (if b then samples_by (edge_format flat.tables e) (nums e) else []) ≤ slice_index first.plan.bounds.items e) placed.1 fits)

  formatted : (e : ℕ) (f : Format) → e < length flat.tables.edges → edge_format flat.tables e ≡ Some f → All (IsOfFormat f) (held_by_state flat.tables cluster edges e)
  formatted e f within format = go (cases_eq (slice_index (clusters_of flat.tables) (writer_at flat.tables.edges e)) cluster)
    where
      go : (slice_index (clusters_of flat.tables) (writer_at flat.tables.edges e) ≡ cluster) ⊎ (slice_index (clusters_of flat.tables) (writer_at flat.tables.edges e) ≢ cluster)
          → All (IsOfFormat f) (held_by_state flat.tables cluster edges e)
      go (inl here) =
          let own : is_own flat.tables cluster e ≡ true = eq-eqb (slice_index (clusters_of flat.tables) (writer_at flat.tables.edges e)) cluster here in
          subst (λ (l : List Raw). All (IsOfFormat f) l) (sym (list_own e f own format))
          (All-map (IsOfFormat f) (raw_of f) (nums e) (λ k d inside. record { frac = refl; num = (hold.each e within own).format f format k d inside }))
      go (inr apart) =
          subst (λ (l : List Raw). All (IsOfFormat f) l) (sym (list_other e (ne_eqb (slice_index (clusters_of flat.tables) (writer_at flat.tables.edges e)) cluster apart)))
          (λ k d inside. absurd (omega (arith, inside)))

  pub state_held : (rings : List RingOf) (runners : List Runner) (positions : List ℕ) → AreStateRings flat.tables cluster first.plan.bounds.items edges (length flat.tables.edges) rings
      → AreHeld flat.tables (start_of cluster first place taken given rings runners positions)
  state_held rings runners positions rings_are = record {
    same = rings_are.long;
    held = λ e within. (let l = ap (λ (r : RingOf). length r.samples) (rings_are.each e within) in let f = full e within in omega (arith, l, f));
    room = λ e within. ap (λ (r : RingOf). r.capacity) (rings_are.each e within);
    formats = λ e f within format. subst (λ (l : List Raw). All (IsOfFormat f) l) (sym (ap (λ (r : RingOf). r.samples) (rings_are.each e within))) (formatted e f within format);
  }

-- ---- the cluster

-- the place lies in the plan
pub place_in : (start time : ℕ) (entries : List Entry) → due_before start time entries ≤ length entries
place_in start time entries = count_by-le-length _ entries

-- a state is one under a table with its plan
pub first_of : (flat : Flat) (cluster : ℕ) (first : First) (state : ClusterStateOf) (time : ℕ) → IsStateUnder flat cluster state time first.attrs.rows first.plan
    → AreTrueFor flat.tables cluster first.attrs.known.plans → IsTableFirst flat cluster first.attrs.rows first
first_of flat cluster first state time under known = record { attrs_are = refl; attributes = under.table_is.attributes; plan_is = under.planned; known = known }

pub held_at_place : (flat : Flat) (cluster : ℕ) (table : List AttrsOf) (plan : Plan) (state : ClusterStateOf) (time place : ℕ) → IsStateUnder flat cluster state time table plan
    → place ≡ due_before state.start time plan.entries.items → HoldEdges flat.tables cluster table plan.entries.items place state.edges
held_at_place flat cluster table plan state time place under is = subst (λ n. HoldEdges flat.tables cluster table plan.entries.items n state.edges) (sym is) under.edges

module _ (flat : Flat) (cluster : ℕ) (first : First) (sound : IsSoundFlat flat) (laid : IsLaid flat) (is : IsTableFirst flat cluster first.attrs.rows first) (law : PlansArePresent)
    (state : ClusterStateOf) (time place : ℕ) (under : IsStateUnder flat cluster state time first.attrs.rows first.plan) (place_is : place ≡ due_before state.start time first.plan.entries.items)
    (reads writes : List ℕ) (rings : List RingOf) (runners : List Runner) (positions : List ℕ)
    (parts : AreParts flat cluster first (HoldsState first.attrs.rows state.modules) (AreStateRings flat.tables cluster first.plan.bounds.items state.edges (length flat.tables.edges))
    reads writes rings runners positions) where
  abbrev table : List AttrsOf
  table = first.attrs.rows

  within_plan : place ≤ length first.plan.entries.items
  within_plan = let p = place_in state.start time first.plan.entries.items in omega (arith, p, place_is)

  hold : HoldEdges flat.tables cluster table first.plan.entries.items place state.edges
  hold = held_at_place flat cluster table first.plan state time place under place_is

  rows : HasRows flat.tables cluster table
  rows = state_rows flat cluster laid.limits state.modules table under.modules under.table_is

  rates : (m : ℕ) (s : FrameState) → m < length flat.tables.modules → slice_index (clusters_of flat.tables) m ≡ cluster → HoldsState table state.modules m s → s.rates ≡ rates_in (attrs_at table m)
  rates = rates_of_state flat cluster laid.limits state.modules table under.modules under.table_is

  held : AreHeld flat.tables (start_of cluster first place (read_rates (net_of flat.tables table)) (write_rates (net_of flat.tables table)) rings runners positions)
  held = state_held flat cluster first sound laid is law state.edges place within_plan hold rings runners positions parts.rings_are

  bare : IsClusterOf flat (start_of cluster first place (read_rates (net_of flat.tables table)) (write_rates (net_of flat.tables table)) rings runners positions)
  bare = is_cluster flat cluster first sound laid is law rows (HoldsState table state.modules) rates place rings runners positions within_plan held parts.runners_are parts.none_done

  pub resumed_is : IsClusterOf flat (start_of cluster first place reads writes rings runners positions)
  resumed_is =
      subst (λ r. IsClusterOf flat (start_of cluster first place r writes rings runners positions)) (sym parts.reads_are)
      (subst (λ w. IsClusterOf flat (start_of cluster first place (read_rates (net_of flat.tables table)) w rings runners positions)) (sym parts.writes_are) bare)

  -- the edges and the modules hold what the state says
  list_is : (e : ℕ) → e < length flat.tables.edges → (ring_at rings e).samples ≡ held_by_state flat.tables cluster state.edges e
  list_is e within = ap (λ (r : RingOf). r.samples) (parts.rings_are.each e within)

  cells_are : (i : ℕ) (attrs : AttrsOf) (m : ModuleStateOf) → slice_get table i ≡ Some attrs → slice_get state.modules i ≡ Some m → values_at runners attrs.number ≡ m.cells
  cells_are i attrs m at there =
      let own : IsOfCluster flat.tables cluster attrs = all_at (IsOfCluster flat.tables cluster) table i attrs is.attributes.own at in
      let few = modules_few flat.tables (is_wired flat laid.limits) in let long = bare.actors in let below = own.is_module in
      let r = get_inside runners attrs.number (omega (arith, few, long, below)) in
      let x = held_at flat cluster first sound laid is law rows (HoldsState table state.modules) rates place rings runners positions within_plan held parts.runners_are parts.none_done
      attrs.number r.0 r.1 own.is_module own.inside in
      ap cells_in r.1 ∙ ap runner_cells x.1 ∙ (x.2.each i attrs m at there refl).1

  pub resumed_at : IsAtState flat cluster state time (start_of cluster first place reads writes rings runners positions)
  resumed_at = record {
    plan = first.plan;
    is = under;
    number_is = refl;
    entries_are = refl;
    bounds_are = refl;
    period_is = refl;
    place_is = place_is;
    not_crossed = refl;
    none_done = zero_at flat cluster first sound laid is law rows (HoldsState table state.modules) rates place rings runners positions within_plan held parts.runners_are parts.none_done;
    lists = list_is;
    cells = cells_are;
  }

  module _ (start : Start) (says : IsStateStart flat cluster table state start) where
    start_cells : (m : ℕ) (s : FrameState) → m < length flat.tables.modules → slice_index (clusters_of flat.tables) m ≡ cluster → HoldsState table state.modules m s
        → s.cells ≡ slice_index_or start.cells m []
    start_cells m s below own holds =
        let row = rows.each m below own in
        let x = state_of_row flat cluster laid.limits state.modules table under.modules under.table_is row.0 row.1 row.2 in
        (holds.each row.0 row.1 x.0 row.2 x.1 row.3).1 ∙ sym (says.cells row.0 row.1 x.0 row.2 x.1) ∙ ap (λ k. slice_index_or start.cells k []) row.3

  pub resumed_stands : StandsAtState flat state (start_of cluster first place reads writes rings runners positions)
  resumed_stands model start p values checked says =
      stands_from flat cluster first sound laid is law rows (HoldsState table state.modules) rates place rings runners positions within_plan held parts.runners_are parts.none_done
      model start (λ e within. list_is e within ∙ sym (says.lists e within)) (start_cells start says) says.none p values
