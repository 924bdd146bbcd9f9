-- A cluster that goes on from the state that a snapshot has of another one.
use Rattle.std.proofs.Common.{◌≡◌, ◌≢◌, ◌∙◌, ℕ, zero, suc, ℤ, ◌+◌, ◌-◌, ◌*◌, ◌<◌, ◌≤◌, Bool, true, false, ◌||◌, not, nat_eq, cond, if◌then◌else◌, List, [], ◌∷◌, ◌++◌, Option, Some, None, option_map, length, map, slice_get, slice_index_or, refl, sym, ap, subst, inl, inr, arith}
use Rattle.std.proofs.lemmas.Bool.{cases_lt, eq-eqb, eqb-true}
use Rattle.std.proofs.lemmas.List.{get_or_past, length-map, length-replicate, nil_from_length}
use Rattle.std.proofs.lemmas.List.Elements.{All-head, All-nil, All-tail}
use Rattle.std.proofs.lemmas.List.FromFn.{length-map-range_with_len}
use Rattle.std.proofs.lemmas.List.Sums.{sum_by-cons}
use Rattle.std.proofs.lemmas.Option.{get_or_from_slice_get, slice_get-map}
use Rattle.std.specs.List.{All, count_by, enumerate_from, filter, flat_map, range_with_len}
use Rattle.std.specs.Prelude.{filter_map, slice_index}
use Rattle.std.specs.List.{cons_option}
use Rattle.tdf_balance.specs.Laws.{AnswersExclude, CountsAreUnique}
use Rattle.tdf_bind.specs.Flat.{IsFlatOf}
use Rattle.tdf_bind.specs.declared.model.Flat.{Flat}
use Rattle.tdf_bind_connections.specs.declared.modules.PortRow.{PortRow}
use Rattle.tdf_bind_invariants.specs.Formats.{IsSoundModel}
use Rattle.tdf_bind_invariants.specs.Limits.{AreWithinLimits}
use Rattle.tdf_bind_tables.specs.Actors.{actor_of_kind, actor_place, actor_places, cluster_of, module_actor, port_actor}
use Rattle.tdf_bind_tables.specs.FlatTables.{FlatTablesOf}
use Rattle.tdf_bind_tables.specs.declared.actors.ActorPlace.{ActorPlace}
use Rattle.tdf_bind_tables.specs.declared.actors.ActorRow.{ActorRow}
use Rattle.tdf_dynamic_first.proofs.Api.{net_clusters, net_fit}
use Rattle.tdf_dynamic_first.specs.declared.first.First.{First}
use Rattle.tdf_dynamic_plans.proofs.Api.{plan_once}
use Rattle.tdf_dynamic_plans.specs.Attributes.{AttrsOf, IsOfCluster, clusters_of}
use Rattle.tdf_dynamic_plans.specs.Faults.{IsTablePlan}
use Rattle.tdf_dynamic_plans.specs.Rates.{net_of}
use Rattle.tdf_dynamic_plans.specs.Same.{AreSamePlans}
use Rattle.tdf_dynamic_values.specs.Laws.{ValuesAreOfOne}
use Rattle.tdf_dynamic_values.specs.States.{state_flags, state_rates, state_steps}
use Rattle.tdf_dynamic_values.specs.Values.{HoldsValues}
use Rattle.tdf_exec.specs.Made.{HasRows}
use Rattle.tdf_exec.specs.Restored.{IsStateStart}
use Rattle.tdf_exec.specs.Saved.{edge_states, module_state, nums_of, own_edges}
use Rattle.tdf_exec_layout.specs.Samples.{EdgesHaveFormats, edge_format}
use Rattle.tdf_exec_parts.specs.Restored.{held_by_state, samples_by}
use Rattle.tdf_exec_parts.specs.States.{IsStateUnder, due_before, place_of_edge}
use Rattle.tdf_expr.specs.Frames.{IsOfFormat}
use Rattle.tdf_fixed.specs.declared.format.Format.{Format}
use Rattle.tdf_fixed.specs.declared.raw.Raw.{Raw}
use Rattle.tdf_graph.specs.declared.actors.Actor.TheVariants as actor
use Rattle.tdf_lang_tree.specs.Pure.{PureTree}
use Rattle.tdf_lang_tree.specs.declared.blocks.PortKind.{PortKind}
use Rattle.tdf_lang_tree.specs.declared.blocks.PortKind.TheVariants.{DeIn, DeOut, In, Out}
use Rattle.tdf_saved.specs.State.{ClusterStateOf, ModuleStateOf}
use Rattle.tdf_schedule.specs.Laws.{BoundsAreUnique, PlansAreUnique}
use Rattle.tdf_schedule.specs.Plan.{done}
use Rattle.tdf_schedule.specs.declared.entry.Entry.{Entry}
use Rattle.tdf_sim_history.proofs.Api.{last_record}
use Rattle.tdf_sim_history.specs.Continuing.{HasWholePlan}
use Rattle.tdf_sim_history.specs.Start.{counts_in}
use Rattle.tdf_sim_history.specs.World.{ClusterAt}
use Rattle.tdf_sim_refinement.proofs.Api.{all_at, cluster_there}
use Rattle.tdf_sim_resumed.proofs.Api.{plan_whole, says, whole_is}
use Rattle.tdf_sim_resumed.specs.Resuming.{place_before, resumed_cluster, whole_period}
use Rattle.tdf_sim_resumed.specs.Snapshot.{IsSavedCluster}
use Rattle.tdf_sim_split.proofs.Others.{state_others}
use Rattle.tdf_sim_split.proofs.Sound.{done_rises}
use Rattle.tdf_sim_split.proofs.Starts.{none_read}
use Rattle.tdf_sim_split.specs.Following.{IsResumedCluster, IsRestOf, IsSoundCluster}
use Rattle.tdf_sim_split.specs.Snapshots.{SaysOthers}
use Rattle.tdf_streams.proofs.Api.{are_rates, get_high, get_inside, is_wired, none_some, one_cluster, some_same}
use Rattle.tdf_streams.specs.Cluster.{cluster_net, is_outside_cluster, is_sampler_kind, zero_sample}
use Rattle.tdf_streams.specs.Periods.{IsPeriodRecord, IsWholeRecord, done_before, read_rates, write_rates}
use Rattle.tdf_streams.specs.Places.{actor_kind, is_own, kind_of_row, reader_at, reader_of_row, writer_at, writer_of_row}
use Rattle.tdf_streams.specs.Stands.{Play}
use Rattle.tdf_streams.specs.Starts.{HasLists, held_at_head, initial_of_row}
use Rattle.tdf_streams_onward.specs.Onward.{StartsFrom}

-- ---- the table that states of modules say

pub flags_said : (states : List (List ℤ)) (table : List AttrsOf) → map (λ (a : AttrsOf). a.accepts) table ≡ state_flags (map (module_state states) table)
flags_said states [] = refl
flags_said states (a ∷ table) = ap (λ l. a.accepts ∷ l) (flags_said states table)

pub rates_said : (states : List (List ℤ)) (table : List AttrsOf) → flat_map (λ (a : AttrsOf). a.rates) table ≡ state_rates (map (module_state states) table)
rates_said states [] = refl
rates_said states (a ∷ table) = ap (λ l. a.rates ++ l) (rates_said states table)

pub steps_said : (states : List (List ℤ)) (table : List AttrsOf) → flat_map (λ (a : AttrsOf). a.steps) table ≡ state_steps (map (module_state states) table)
steps_said states [] = refl
steps_said states (a ∷ table) = ap (λ l. a.steps ++ l) (steps_said states table)

-- ---- the samples that numbers say

again : (f : Format) (xs : List Raw) → All (IsOfFormat f) xs → samples_by (Some f) (nums_of xs) ≡ xs
again f [] all = refl
again f (x ∷ xs) all = λ i. record { num = x.num; frac = sym (All-head (IsOfFormat f) x xs all).frac i } ∷ again f xs (All-tail (IsOfFormat f) x xs all) i

-- what passes a test in a range, by how many pass before
found_at : (test : ℕ → Bool) (a n k : ℕ) → k < n → test (a + k) ≡ true → slice_get (filter test (range_with_len a n)) (count_by test (range_with_len a k)) ≡ Some (a + k)
found_at test a zero k less is = absurd (omega (arith, less))
found_at test a (suc n) zero less is =
    let z : a + 0 ≡ a = omega arith in
    ap (λ b. slice_get (cond b (a ∷ filter test (range_with_len (a + 1) n)) (filter test (range_with_len (a + 1) n))) 0) (ap test (sym z) ∙ is) ∙ ap Some (sym z)
found_at test a (suc n) (suc k) less is = go (found_at test (a + 1) n k (omega (arith, less)) (ap test z ∙ is) ∙ ap Some z) (test a) refl
  where
    z : a + 1 + k ≡ a + suc k
    z = omega arith

    total : count_by test (range_with_len a (suc k)) ≡ cond {A = ℕ} (test a) 1 0 + count_by test (range_with_len (a + 1) k)
    total = sum_by-cons (λ e. cond {A = ℕ} (test e) 1 0) a (range_with_len (a + 1) k)

    go : slice_get (filter test (range_with_len (a + 1) n)) (count_by test (range_with_len (a + 1) k)) ≡ Some (a + suc k) → (b : Bool) → test a ≡ b → slice_get (cond (test a) (a ∷ filter test (range_with_len (a + 1) n)) (filter test (range_with_len (a + 1) n))) (count_by test (range_with_len a (suc k))) ≡ Some (a + suc k)
    go rest true on =
        let w : cond {A = ℕ} (test a) 1 0 ≡ 1 = ap (λ b. cond {A = ℕ} b 1 0) on in
        let c : count_by test (range_with_len a (suc k)) ≡ suc (count_by test (range_with_len (a + 1) k)) = omega (arith, total, w) in
        ap (λ b. slice_get (cond b (a ∷ filter test (range_with_len (a + 1) n)) (filter test (range_with_len (a + 1) n))) (count_by test (range_with_len a (suc k)))) on ∙ ap (slice_get (a ∷ filter test (range_with_len (a + 1) n))) c ∙ rest
    go rest false off =
        let w : cond {A = ℕ} (test a) 1 0 ≡ 0 = ap (λ b. cond {A = ℕ} b 1 0) off in
        let c : count_by test (range_with_len a (suc k)) ≡ count_by test (range_with_len (a + 1) k) = omega (arith, total, w) in
        ap (λ b. slice_get (cond b (a ∷ filter test (range_with_len (a + 1) n)) (filter test (range_with_len (a + 1) n))) (count_by test (range_with_len a (suc k)))) off ∙ ap (slice_get (filter test (range_with_len (a + 1) n))) c ∙ rest

-- the numbers of an edge of the cluster, among those of its edges
pub nums_there : (tables : FlatTablesOf) (number : ℕ) (lists : List (List Raw)) (e : ℕ) → e < length tables.edges → is_own tables number e ≡ true
    → slice_index_or (edge_states lists (own_edges tables number)) (place_of_edge tables number e) [] ≡ nums_of (slice_index_or lists e [])
nums_there tables number lists e below own =
    let z : 0 + e ≡ e = omega arith in
    let at : slice_get (own_edges tables number) (place_of_edge tables number e) ≡ Some e = found_at (is_own tables number) 0 (length tables.edges) e below (ap (is_own tables number) z ∙ own) ∙ ap Some z in
    get_or_from_slice_get (edge_states lists (own_edges tables number)) (place_of_edge tables number e) (nums_of (slice_index_or lists e [])) []
    (slice_get-map (λ k. nums_of (slice_index_or lists k [])) (own_edges tables number) (place_of_edge tables number e) ∙ ap (option_map (λ k. nums_of (slice_index_or lists k []))) at)

-- ---- actors

-- an actor at a port is no module
no_module : (k : ℕ) (ports : List PortRow) (j : ℕ) (x : ActorPlace) → slice_get (filter_map (λ port. port_actor port.0 port.1) (enumerate_from k ports)) j ≡ Some x → x.kind ≡ actor.Module → ⊥
no_module k [] j x at is = none_some x at
no_module k (port ∷ ports) j x at is = by_kind (λ i there. no_module (k + 1) ports i x there is) port.kind j at
  where
    by_kind : ((i : ℕ) → slice_get (filter_map (λ p. port_actor p.0 p.1) (enumerate_from (k + 1) ports)) i ≡ Some x → ⊥) → (kind : PortKind) (i : ℕ) → slice_get (cons_option (actor_of_kind kind k port) (filter_map (λ p. port_actor p.0 p.1) (enumerate_from (k + 1) ports))) i ≡ Some x → ⊥
    by_kind rest In i there = rest i there
    by_kind rest Out i there = rest i there
    by_kind rest DeIn zero there = let same : actor.Sampler ≡ actor.Module = ap (λ (p : ActorPlace). p.kind) (some_same _ x there) ∙ is in absurd cc
    by_kind rest DeIn (suc i) there = rest i there
    by_kind rest DeOut zero there = let same : actor.Sink ≡ actor.Module = ap (λ (p : ActorPlace). p.kind) (some_same _ x there) ∙ is in absurd cc
    by_kind rest DeOut (suc i) there = rest i there

-- the modules come first
is_module : (flat : Flat) → AreWithinLimits flat → (m : ℕ) → actor_kind flat.tables m ≡ Some actor.Module → m < length flat.tables.modules
is_module flat limits m kind = elim (cases_lt m (length flat.tables.modules)) [
  | inl inside ↦ inside
  | inr past ↦ absurd (by_row past (slice_get flat.tables.actors m) refl kind)
]
  where
    by_row : length flat.tables.modules ≤ m → (o : Option ActorRow) → slice_get flat.tables.actors m ≡ o → kind_of_row o ≡ Some actor.Module → ⊥
    by_row past None at is = absurd cc
    by_row past (Some row) at is =
        let long = length-map-range_with_len module_actor 0 (length flat.tables.modules) in
        let there : slice_get (actor_places (length flat.tables.modules) flat.tables.ports) m ≡ Some (actor_place row)
        = ap (λ (l : List ActorPlace). slice_get l m) (sym limits.actors.places) ∙ slice_get-map actor_place flat.tables.actors m ∙ ap (option_map actor_place) at in
        no_module 0 flat.tables.ports (m - length (map module_actor (range_with_len 0 (length flat.tables.modules)))) (actor_place row)
        (sym (get_high (map module_actor (range_with_len 0 (length flat.tables.modules))) _ m (omega (arith, long, past))) ∙ there) (some_same row.kind actor.Module is)

or_right : (a b : Bool) → (a || b) ≡ false → b ≡ false
or_right true b is = absurd cc
or_right false b is = is

not_off : (b : Bool) → not b ≡ false → b ≡ true
not_off true is = refl
not_off false is = absurd cc

equal_sums : (a b c d e f g h : ℕ) → a ≡ e → b ≡ f → c ≡ g → d ≡ h → e + f ≡ g + h → a + b ≡ c + d
equal_sums a b c d e f g h w x y z sum = omega (arith, w, x, y, z, sum)

none_left : (n r w h x y : ℕ) → n + r * x ≡ h + w * y → r ≡ 0 → w ≡ 0 → h ≡ 0 → n ≡ 0
none_left n r w h x y sum none nothing head =
    let a : r * x ≡ 0 * x = ap (λ k. k * x) none in
    let b : w * y ≡ 0 * y = ap (λ k. k * y) nothing in
    let c : 0 * x ≡ 0 = omega arith in let d : 0 * y ≡ 0 = omega arith in omega (arith, sum, a, b, c, d, head)

-- ---- the cluster

module _ (values : ValuesAreOfOne) (formats : EdgesHaveFormats) (answers : AnswersExclude) (unique : CountsAreUnique) (plans : PlansAreUnique) (bounds : BoundsAreUnique)
    (model : PureTree) (flat : Flat) (sound_model : IsSoundModel model) (is : IsFlatOf model flat) (limits : AreWithinLimits flat)
    (number time : ℕ) (some : 0 < number) (c : ClusterAt) (sound : IsSoundCluster flat number c) (others : SaysOthers model flat number c.begun)
    (s : ClusterStateOf) (saved : IsSavedCluster model flat number time c s) (first : First) (under : IsStateUnder flat number s time first.attrs.rows first.plan) where
  abbrev table : List AttrsOf
  table = c.now.info.table

  abbrev rows : List AttrsOf
  rows = first.attrs.rows

  abbrev entries : List Entry
  entries = first.plan.entries.items

  abbrev place : ℕ
  place = place_before time first s

  abbrev b : ClusterAt
  b = resumed_cluster model flat number time first s c.ahead

  abbrev play : Play (List ℤ) Raw
  play = saved.play

  last : IsPeriodRecord flat number c.now
  last = last_record flat number c.begun c.old c.now sound.records

  -- the table and the plan are those of the cluster
  holds : HoldsValues flat number (state_flags s.modules) (state_rates s.modules) (state_steps s.modules) table
  holds = subst (λ (ms : List ModuleStateOf). HoldsValues flat number (state_flags ms) (state_rates ms) (state_steps ms) table) (sym saved.modules) (record {
    members = sound.members;
    accepts_are = flags_said play.states table;
    rates_are = rates_said play.states table;
    steps_are = steps_said play.states table;
  })

  pub table_is : rows ≡ table
  table_is = values flat number (state_flags s.modules) (state_rates s.modules) (state_steps s.modules) rows table under.table_is.attributes under.table_is.holds last.timed.attributes holds

  one : AreSamePlans sound.planned.plan first.plan
  one =
      let wired = is_wired flat limits in
      let rates = are_rates flat limits rows under.table_is.attributes.allowed in
      plan_once flat.tables (net_of flat.tables rows) number rows answers unique (net_fit flat.tables rows wired rates) (net_clusters flat.tables rows wired rates) (cluster_there flat number c.now limits last)
      plans bounds sound.planned.plan first.plan (subst (λ (t : List AttrsOf). IsTablePlan flat.tables number t sound.planned.plan) (sym table_is) sound.planned.is) under.planned

  entries_is : entries ≡ c.entries
  entries_is = sym one.entries ∙ sym sound.planned.entries

  bounds_is : first.plan.bounds.items ≡ c.bounds
  bounds_is = sym one.bounds ∙ sym sound.planned.bounds

  period_is : first.plan.period ≡ c.now.info.period
  period_is = sym one.period ∙ sym sound.planned.period

  place_is : place ≡ c.place
  place_is = ap (λ k. due_before k time entries) saved.start ∙ ap (due_before c.since time) entries_is ∙ sym saved.done.place_is

  done_is : (m : ℕ) → done entries place m ≡ done c.entries c.place m
  done_is m = λ i. done (entries_is i) (place_is i) m

  whole : HasWholePlan b
  whole = plan_whole flat number time first s under model c.ahead sound.plan.ahead

  -- what is left of the period
  counts_is : counts_in flat.tables entries ≡ c.now.info.counts
  counts_is = ap (counts_in flat.tables) entries_is ∙ sym sound.counts

  rest : IsRestOf c b.now
  rest = record {
    counts = λ m. (
        let w = whole.counts m in let p = sound.plan.counts m in let r = done_rises c.entries m c.from c.place sound.from in
        let d = done_is m in
        let a : done entries (length entries) m ≡ done c.entries (length c.entries) m = λ i. done (entries_is i) (length (entries_is i)) m in
        omega (arith, w, p, r, d, a));
    writes = ap (λ (t : List AttrsOf). write_rates (net_of flat.tables t)) table_is ∙ sym last.timed.writes_are;
    reads = ap (λ (t : List AttrsOf). read_rates (net_of flat.tables t)) table_is ∙ sym last.timed.reads_are;
    info = λ i. record { table = table_is i; counts = counts_is i; period = period_is i; is_new = false };
  }

  -- the start says what the play holds
  own_rows : (i : ℕ) (a : AttrsOf) → slice_get rows i ≡ Some a → IsOfCluster flat.tables number a
  own_rows i a at = all_at (IsOfCluster flat.tables number) rows i a under.table_is.attributes.own at

  rows_once : HasRows flat.tables number rows
  rows_once = subst (HasRows flat.tables number) (sym table_is) saved.own.rows

  start : IsStateStart flat number rows s b.begun
  start = says model flat number rows s (λ i a at. (own_rows i a at).is_module) rows_once.once

  nums_said : (e : ℕ) → e < length flat.tables.edges → is_own flat.tables number e ≡ true → slice_index_or s.edges (place_of_edge flat.tables number e) [] ≡ nums_of (slice_index_or play.lists e [])
  nums_said e below own = ap (λ (l : List (List ℤ)). slice_index_or l (place_of_edge flat.tables number e) []) saved.edges ∙ nums_there flat.tables number play.lists e below own

  -- actors of other clusters don't fire
  none_done : (m : ℕ) → slice_index (clusters_of flat.tables) m ≢ number → done c.entries c.place m ≡ 0
  none_done m away =
      let r = done_rises c.entries m c.place (length c.entries) sound.place in
      let w = sound.plan.whole m in let o = last.timed.counts_are.outside m away in omega (arith, r, w, o)

  none_held : (e : ℕ) → e < length flat.tables.edges → is_own flat.tables number e ≡ false → slice_index_or play.lists e [] ≡ []
  none_held e below other =
      let row = get_inside flat.tables.edges e below in
      let away : slice_index (clusters_of flat.tables) (writer_at flat.tables.edges e) ≢ number = (λ same. let on : true ≡ false = sym (eq-eqb _ number same) ∙ other in absurd cc) in
      let joined : slice_index (clusters_of flat.tables) (writer_at flat.tables.edges e) ≡ slice_index (clusters_of flat.tables) (reader_at flat.tables.edges e)
      = ap (λ o. slice_index (clusters_of flat.tables) (writer_of_row o)) row.1 ∙ one_cluster flat limits e row.0 row.1 ∙ ap (λ o. slice_index (clusters_of flat.tables) (reader_of_row o)) (sym row.1) in
      nil_from_length (slice_index_or play.lists e []) (none_left _ (done c.entries c.place (reader_at flat.tables.edges e)) (done c.entries c.place (writer_at flat.tables.edges e)) (held_at_head flat.tables number e) _ _
      (saved.own.left e below) (none_done (reader_at flat.tables.edges e) (λ same. away (joined ∙ same))) (none_done (writer_at flat.tables.edges e) away)
      (ap (λ t. if t then initial_of_row (slice_get flat.tables.edges e) else 0) other))

  held : (e : ℕ) → e < length flat.tables.edges → held_by_state flat.tables number s.edges e ≡ slice_index_or play.lists e []
  held e below = go (is_own flat.tables number e) refl
    where
      go : (t : Bool) → is_own flat.tables number e ≡ t → (if t then samples_by (edge_format flat.tables e) (slice_index_or s.edges (place_of_edge flat.tables number e) []) else []) ≡ slice_index_or play.lists e []
      go true own =
          let row = get_inside flat.tables.edges e below in
          let has = formats model flat e row.0 sound_model is row.1 in
          ap (samples_by (edge_format flat.tables e)) (nums_said e below own) ∙ ap (λ o. samples_by o (nums_of (slice_index_or play.lists e []))) has.format_is
          ∙ again has.format (slice_index_or play.lists e []) (saved.own.formats e has.format below has.format_is)
      go false other = sym (none_held e below other)

  pub lists_are : (e : ℕ) → e < length flat.tables.edges → slice_index_or b.begun.lists e [] ≡ slice_index_or play.lists e []
  lists_are e below = start.lists e below ∙ held e below

  -- and so of the modules of the cluster
  cells_are : (m : ℕ) → slice_index (clusters_of flat.tables) m ≡ number → slice_index_or b.begun.cells m [] ≡ slice_index_or play.states m []
  cells_are m own = elim (cases_lt m (length flat.tables.modules)) [
    | inl inside ↦ (
        let r = saved.own.rows.each m inside own in
        subst (λ k. slice_index_or b.begun.cells k [] ≡ slice_index_or play.states k []) r.3
        (start.cells r.0 r.1 (module_state play.states r.1) (ap (λ (t : List AttrsOf). slice_get t r.0) table_is ∙ r.2)
        (ap (λ (ms : List ModuleStateOf). slice_get ms r.0) saved.modules ∙ slice_get-map (module_state play.states) table r.0 ∙ ap (option_map (module_state play.states)) r.2)))
    | inr past ↦ start.none m past ∙ sym (saved.own.none m (λ kind. let i = is_module flat limits m kind in omega (arith, i, past)))
  ]

  state_is : (m : ℕ) → is_outside_cluster flat.tables number m ≡ false → slice_get play.states m ≡ Some (slice_index_or b.begun.cells m [])
  state_is m inside =
      let own : slice_index (clusters_of flat.tables) m ≡ number = eqb-true (slice_index (clusters_of flat.tables) m) number
      (not_off (nat_eq (slice_index (clusters_of flat.tables) m) number) (or_right (is_sampler_kind (actor_kind flat.tables m)) (not (nat_eq (slice_index (clusters_of flat.tables) m) number)) inside)) in
      let below : m < length play.states = (
      let a = saved.actors in let l = length-map flat.tables.actors cluster_of in
      elim (cases_lt m (length flat.tables.actors)) [
        | inl low ↦ omega (arith, low, a)
        | inr past ↦ absurd (let z = get_or_past (clusters_of flat.tables) m 0 (omega (arith, past, l)) in omega (arith, z, own, some))
      ]) in
      let x = get_inside play.states m below in
      x.1 ∙ ap Some (sym (get_or_from_slice_get play.states m x.0 [] x.1) ∙ sym (cells_are m own))

  own_others : SaysOthers model flat number b.begun
  own_others = state_others model flat limits number rows own_rows s

  starts : StartsFrom (cluster_net model flat number c.begun) play (cluster_net model flat number b.begun).delay (cluster_net model flat number b.begun).initial (cluster_net model flat number b.begun).start
  starts = record {
    long = λ e below. ap (λ (l : List Raw). length l) (lists_are e below);
    items = λ e j x below at. ap (λ (l : List Raw). slice_index_or l j zero_sample) (lists_are e below) ∙ get_or_from_slice_get (slice_index_or play.lists e []) j x zero_sample at;
    states = λ m inside. state_is m inside;
    kept = λ m outside. own_others.same m outside ∙ sym (others.same m outside);
  }

  pub goes_on : IsResumedCluster model flat number c b
  goes_on = record {
    play = play;
    steps = saved.steps;
    turns = saved.turns;
    actors = saved.actors;
    stands = saved.stands;
    starts = starts;
    rest = rest;
    entries = entries_is;
    bounds = bounds_is;
    since = saved.start;
    from = place_is;
    place = place_is;
    old = refl;
    ahead = refl;
    many = length-replicate (length flat.tables.actors) [] ∙ sym sound.many;
    none = λ m. none_read (length flat.tables.actors) m;
  }

  -- ---- and it is sound

  before : (m : ℕ) → done_before b.now m ≡ done c.entries c.place m
  before m = let l = whole.counts m in let w = whole.whole m in let d = done_is m in omega (arith, l, w, d)

  lists : HasLists flat number b.begun b.now
  lists e below = equal_sums _ _ _ _ _ _ _ _ (ap (λ (l : List Raw). length l) (lists_are e below))
      (λ i. before (reader_at flat.tables.edges e) i * slice_index (read_rates (net_of flat.tables (table_is i))) e) refl
      (λ i. before (writer_at flat.tables.edges e) i * slice_index (write_rates (net_of flat.tables (table_is i))) e) (saved.own.left e below)

  record_whole : IsWholeRecord flat number (whole_period flat.tables first)
  record_whole = whole_is flat number time first s under

  head : IsPeriodRecord flat number b.now
  head = record {
    timed = record {
      attributes = record_whole.is.timed.attributes;
      writes_are = record_whole.is.timed.writes_are;
      reads_are = record_whole.is.timed.reads_are;
      counts_are = record_whole.is.timed.counts_are;
      period_is = record_whole.is.timed.period_is;
      long = length-map-range_with_len (λ m. slice_index (whole_period flat.tables first).counts m - done entries place m) 0 (length (whole_period flat.tables first).counts);
      left = λ m. (let l = whole.counts m in let w = whole.whole m in omega (arith, l, w));
    };
    grounded = record_whole.is.grounded;
  }

  pub stays_sound : IsSoundCluster flat number b
  stays_sound = record {
    records = record { lists = lists; head = head; rest = All-nil (IsWholeRecord flat number) };
    members = under.table_is.holds.members;
    planned = record { plan = first.plan; is = under.planned; entries = refl; bounds = refl; period = refl };
    plan = whole;
    counts = refl;
    from = omega arith;
    place = let p = place_is in let l = sound.place in let n = ap (λ (es : List Entry). length es) entries_is in omega (arith, p, l, n);
    many = length-replicate (length flat.tables.actors) [];
    samplers = λ m sampler. (let l = ap (λ (x : List Raw). length x) (none_read (length flat.tables.actors) m) in omega (arith, l));
    none = λ m other. none_read (length flat.tables.actors) m;
  }
