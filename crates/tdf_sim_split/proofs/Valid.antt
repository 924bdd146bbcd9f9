-- The states of clusters in the snapshot of a run are ones that the clusters can go on from.
use Rattle.std.proofs.Common.{◌≡◌, ◌∙◌, ℕ, ℤ, ◌+◌, ◌<◌, Bool, true, false, cond, ◌||◌, not, nat_eq, List, [], ◌∷◌, Option, Some, None, option_map, length, slice_get, slice_index_or, refl, sym, ap, subst, arith}
use Rattle.std.proofs.lemmas.Bool.{eq-eqb}
use Rattle.std.proofs.lemmas.List.{length-map}
use Rattle.std.proofs.lemmas.List.Elements.{All-head, All-tail}
use Rattle.std.proofs.lemmas.List.Sums.{sum_by-cons}
use Rattle.std.proofs.lemmas.Option.{get_or_from_slice_get, slice_get-map, slice_get_within}
use Rattle.std.proofs.lemmas.List.Elements.{All-from_recursion}
use Rattle.std.specs.List.{All, AllByRecursion, count_by, filter, range_with_len}
use Rattle.std.specs.Prelude.{slice_index}
use Rattle.tdf_base.specs.Limits.{time_end}
use Rattle.tdf_bind.specs.declared.model.Flat.{Flat}
use Rattle.tdf_bind_invariants.specs.Limits.{AreWithinLimits, limits_in}
use Rattle.tdf_bind_connections.specs.declared.modules.ModuleRow.{ModuleRow}
use Rattle.tdf_bind_tables.specs.declared.actors.ActorRow.{ActorRow}
use Rattle.tdf_dynamic_first.specs.Text.{first_table}
use Rattle.tdf_dynamic_plans.specs.Attributes.{AttrsOf, IsOfCluster, clusters_of, ports_of_module}
use Rattle.tdf_dynamic_values.specs.States.{state_flags, state_rates, state_steps}
use Rattle.tdf_dynamic_values.specs.Values.{HoldsValues, limits_of_row}
use Rattle.tdf_exec.specs.Saved.{module_state, nums_of, own_edges}
use Rattle.tdf_exec_parts.specs.States.{AreStatesOfRows, HoldEdges, HoldsUpTo, IsFilledTo, IsInPeriod, IsStateOfRow, IsStateUnder, due_before, place_of_edge}
use Rattle.tdf_exec_layout.proofs.Api.{module_kind}
use Rattle.tdf_expr.specs.Checked.{IsCheckedOf}
use Rattle.tdf_expr.specs.Frames.{IsOfFormat}
use Rattle.tdf_expr.specs.Made.{CellsFit}
use Rattle.tdf_expr_laws.specs.Cells.{BodiesKeepCells}
use Rattle.tdf_expr_semantics.specs.Fits.{RatesFit}
use Rattle.tdf_fixed.specs.Overflow.{IsOfWidth}
use Rattle.tdf_fixed.specs.declared.format.Format.{Format}
use Rattle.tdf_fixed.specs.declared.raw.Raw.{Raw}
use Rattle.tdf_graph.specs.declared.actors.Actor.TheVariants as actor
use Rattle.tdf_lang_tree.specs.Pure.{PureTree}
use Rattle.tdf_saved.specs.State.{ClusterStateOf, ModuleStateOf}
use Rattle.tdf_schedule.specs.declared.entry.Entry.{Entry}
use Rattle.tdf_schedule.specs.declared.entry.Plan.{Plan}
use Rattle.tdf_sim_history.proofs.Api.{last_record, record_at}
use Rattle.tdf_sim_history.specs.Instant.{periods_of, run_in}
use Rattle.tdf_sim_history.specs.World.{ClusterAt}
use Rattle.tdf_sim_refinement.proofs.Api.{all_at}
use Rattle.tdf_sim_resumed.specs.Snapshot.{IsSavedCluster}
use Rattle.tdf_sim_split.proofs.Fits.{all_allowed, play_fits}
use Rattle.tdf_sim_split.proofs.Saved.{flags_said, nums_there, rates_said, steps_said}
use Rattle.tdf_sim_split.proofs.Sound.{number_of}
use Rattle.tdf_sim_split.specs.Following.{IsSoundCluster}
use Rattle.tdf_sim_split.specs.Snapshots.{HasFitCells}
use Rattle.tdf_streams.proofs.Api.{get_inside, some_same, text_attributes}
use Rattle.tdf_streams.specs.Periods.{IsPeriodRecord}
use Rattle.tdf_streams.specs.Cluster.{is_outside_cluster, is_sampler_kind}
use Rattle.tdf_streams.specs.Places.{block_at, block_of_row, is_own, kind_of_row}

-- as many pass a test as are counted
length_filter : (test : ℕ → Bool) (xs : List ℕ) → length (filter test xs) ≡ count_by test xs
length_filter test [] = refl
length_filter test (x ∷ xs) = go (length_filter test xs) (test x) refl
  where
    total : count_by test (x ∷ xs) ≡ cond {A = ℕ} (test x) 1 0 + count_by test xs
    total = sum_by-cons (λ e. cond {A = ℕ} (test e) 1 0) x xs

    go : length (filter test xs) ≡ count_by test xs → (b : Bool) → test x ≡ b → length (cond (test x) (x ∷ filter test xs) (filter test xs)) ≡ count_by test (x ∷ xs)
    go rest true on =
        let l = ap (λ b. length (cond b (x ∷ filter test xs) (filter test xs))) on in let w = ap (λ b. cond {A = ℕ} b 1 0) on in omega (arith, l, w, rest, total)
    go rest false off =
        let l = ap (λ b. length (cond b (x ∷ filter test xs) (filter test xs))) off in let w = ap (λ b. cond {A = ℕ} b 1 0) off in omega (arith, l, w, rest, total)

widths : (f : Format) (xs : List Raw) → All (IsOfFormat f) xs → AllByRecursion (IsOfWidth f.signed f.wl) (nums_of xs)
widths f [] all = tt
widths f (x ∷ xs) all = ((All-head (IsOfFormat f) x xs all).num, widths f xs (All-tail (IsOfFormat f) x xs all))

module _ (keep : BodiesKeepCells) (model : PureTree) (flat : Flat) (checked : IsCheckedOf model flat.checked) (limits : AreWithinLimits flat) (number time : ℕ) (c : ClusterAt) (sound : IsSoundCluster flat number c) (begins : HasFitCells flat c.begun.cells)
    (s : ClusterStateOf) (saved : IsSavedCluster model flat number time c s) where
  abbrev table : List AttrsOf
  table = c.now.info.table

  abbrev plan : Plan
  plan = sound.planned.plan

  last : IsPeriodRecord flat number c.now
  last = last_record flat number c.begun c.old c.now sound.records

  holds : HoldsValues flat number (state_flags s.modules) (state_rates s.modules) (state_steps s.modules) table
  holds = subst (λ (ms : List ModuleStateOf). HoldsValues flat number (state_flags ms) (state_rates ms) (state_steps ms) table) (sym saved.modules) (record {
    members = sound.members;
    accepts_are = flags_said saved.play.states table;
    rates_are = rates_said saved.play.states table;
    steps_are = steps_said saved.play.states table;
  })

  table_long : length table ≡ length (first_table flat number)
  table_long = sym (length-map table number_of) ∙ ap (λ (l : List ℕ). length l) sound.members ∙ length-map (first_table flat number) number_of

  -- what a module of the cluster holds
  holds_fit : (a : AttrsOf) → IsOfCluster flat.tables number a → CellsFit flat.checked (block_at flat.tables.modules a.number) (slice_index_or saved.play.states a.number [])
  holds_fit a own =
      let kind = module_kind (length flat.tables.modules) flat.tables limits.actors a.number own.is_module in
      let inside : is_outside_cluster flat.tables number a.number ≡ false = ap (λ o. is_sampler_kind o || not (nat_eq (slice_index (clusters_of flat.tables) a.number) number)) kind
      ∙ ap not (eq-eqb (slice_index (clusters_of flat.tables) a.number) number own.inside) in
      let row = get_inside flat.tables.modules a.number own.is_module in
      let below : a.number < length flat.tables.actors = acts_below (slice_get flat.tables.actors a.number) refl kind in
      let x = get_inside saved.play.states a.number (let l = saved.actors in omega (arith, below, l)) in
      subst (λ (o : Option ModuleRow). CellsFit flat.checked (block_of_row o) (slice_index_or saved.play.states a.number [])) (sym row.1)
      (subst (CellsFit flat.checked row.0.block) (sym (get_or_from_slice_get saved.play.states a.number x.0 [] x.1))
      (play_fits keep model flat checked a.number row.0 row.1 number c.begun (begins a.number row.0 row.1) c.old c.now (run_in c).reads saved.steps saved.play x.0
      (all_allowed keep model flat checked a.number row.0 row.1 number (periods_of c) (λ k p there. record_at flat number c.begun (periods_of c) k p sound.records there)) saved.stands x.1 inside))
    where
      acts_below : (o : Option ActorRow) → slice_get flat.tables.actors a.number ≡ o → kind_of_row o ≡ Some actor.Module → a.number < length flat.tables.actors
      acts_below None at is = absurd cc
      acts_below (Some r) at is = slice_get_within flat.tables.actors a.number r at

  state_of_row : (i : ℕ) (attrs : AttrsOf) (m : ModuleStateOf) → slice_get (first_table flat number) i ≡ Some attrs → slice_get s.modules i ≡ Some m → IsStateOfRow flat attrs m
  state_of_row i attrs m at there = record {
    rates = subst (λ (x : ModuleStateOf). RatesFit (limits_of_row flat attrs) x.rates) (sym made) (subst (λ k. RatesFit (limits_in flat.checked (slice_get flat.tables.modules k)) a.0.rates) same allowed);
    long = (let e = own.each in let t = text.each in
        let p : length a.0.ports ≡ length attrs.ports = ap (λ (l : List ℕ). length l) (own.own ∙ ap (ports_of_module flat.tables.ports) same ∙ sym text.own) in
        let l = ap (λ (x : ModuleStateOf). length x.steps) made in omega (arith, e, t, p, l));
    short = subst (λ (x : ModuleStateOf). All (λ step. step < time_end) x.steps) (sym made) own.short;
    cells = subst (λ k. CellsFit flat.checked (block_at flat.tables.modules k) m.cells) same
        (subst (λ (x : ModuleStateOf). CellsFit flat.checked (block_at flat.tables.modules a.0.number) x.cells) (sym made) (holds_fit a.0 own));
  }
    where
      a : (x : AttrsOf) × (slice_get table i ≡ Some x)
      a = get_inside table i (let w = slice_get_within (first_table flat number) i attrs at in let l = table_long in omega (arith, w, l))

      made : m ≡ module_state saved.play.states a.0
      made = some_same m (module_state saved.play.states a.0) (sym there ∙ ap (λ (l : List ModuleStateOf). slice_get l i) saved.modules ∙ slice_get-map (module_state saved.play.states) table i ∙ ap (option_map (module_state saved.play.states)) a.1)

      same : a.0.number ≡ attrs.number
      same = some_same a.0.number attrs.number (sym (slice_get-map number_of table i ∙ ap (option_map number_of) a.1) ∙ ap (λ (l : List ℕ). slice_get l i) sound.members ∙ slice_get-map number_of (first_table flat number) i ∙ ap (option_map number_of) at)

      own : IsOfCluster flat.tables number a.0
      own = all_at (IsOfCluster flat.tables number) table i a.0 last.timed.attributes.own a.1

      text : IsOfCluster flat.tables number attrs
      text = all_at (IsOfCluster flat.tables number) (first_table flat number) i attrs (text_attributes flat number limits).own at

      allowed : RatesFit (limits_in flat.checked (slice_get flat.tables.modules a.0.number)) a.0.rates
      allowed = all_at (λ (x : AttrsOf). RatesFit (limits_in flat.checked (slice_get flat.tables.modules x.number)) x.rates) table i a.0 last.timed.attributes.allowed a.1

  modules : AreStatesOfRows flat (first_table flat number) s.modules
  modules = record {
    long = ap (λ (l : List ModuleStateOf). length l) saved.modules ∙ length-map table (module_state saved.play.states) ∙ table_long;
    each = state_of_row;
  }

  place_is : due_before s.start time plan.entries.items ≡ c.place
  place_is = (λ i. due_before (saved.start i) time (sym sound.planned.entries i)) ∙ sym saved.done.place_is

  edge_holds : (e : ℕ) → e < length flat.tables.edges → is_own flat.tables number e ≡ true
      → HoldsUpTo flat.tables number table plan.entries.items (due_before s.start time plan.entries.items) e (slice_index_or s.edges (place_of_edge flat.tables number e) [])
  edge_holds e below own =
      subst (HoldsUpTo flat.tables number table plan.entries.items (due_before s.start time plan.entries.items) e)
      (sym (ap (λ (l : List (List ℤ)). slice_index_or l (place_of_edge flat.tables number e) []) saved.edges ∙ nums_there flat.tables number saved.play.lists e below own)) (record {
        held = subst (IsFilledTo flat.tables number table plan.entries.items (due_before s.start time plan.entries.items) e) (sym (length-map list (λ (x : Raw). x.num)))
            (subst (λ (es : List Entry). IsFilledTo flat.tables number table es (due_before s.start time plan.entries.items) e (length list)) sound.planned.entries
            (subst (λ k. IsFilledTo flat.tables number table c.entries k e (length list)) (sym place_is) (saved.own.left e below)));
        format = λ f is. All-from_recursion (IsOfWidth f.signed f.wl) (nums_of list) (widths f list (saved.own.formats e f below is));
      })
    where
      list : List Raw
      list = slice_index_or saved.play.lists e []

  edges : HoldEdges flat.tables number table plan.entries.items (due_before s.start time plan.entries.items) s.edges
  edges = record {
    long = ap (λ (l : List (List ℤ)). length l) saved.edges ∙ length-map (own_edges flat.tables number) (λ e. nums_of (slice_index_or saved.play.lists e []))
        ∙ length_filter (is_own flat.tables number) (range_with_len 0 (length flat.tables.edges));
    each = edge_holds;
  }

  pub is_under : IsStateUnder flat number s time table plan
  is_under = record {
    modules = modules;
    table_is = record { attributes = last.timed.attributes; holds = holds };
    planned = sound.planned.is;
    inside = subst (λ k. IsInPeriod s.start time k) sound.planned.period (subst (λ k. IsInPeriod k time c.now.info.period) (sym saved.start) saved.done.inside);
    edges = edges;
  }
