-- A run has one snapshot at a time.
use Rattle.std.proofs.Common.{◌≡◌, ◌∙◌, ℕ, zero, suc, ℤ, ◌+◌, ◌*◌, ◌<◌, Bool, true, false, not, ◌||◌, nat_eq, Option, Some, None, option_map, List, [], ◌∷◌, append-nil, length, map, slice_get, inl, inr, refl, sym, ap, subst, arith}
use Rattle.std.proofs.lemmas.Bool.{cases_lt, eq-eqb}
use Rattle.std.proofs.lemmas.List.{length-map}
use Rattle.std.proofs.lemmas.List.FromFn.{length-map-range_with_len}
use Rattle.std.proofs.lemmas.Option.{get_or_from_slice_get, slice_get-map, slice_get_within}
use Rattle.std.specs.List.{range_with_len, sum_by}
use Rattle.std.specs.Prelude.{cond, filter, slice_index, slice_index_or}
use Rattle.tdf_bind.specs.declared.model.Flat.{Flat}
use Rattle.tdf_bind_connections.specs.declared.traces.TraceRow.{TraceRow}
use Rattle.tdf_bind_invariants.specs.Limits.{AreWithinLimits}
use Rattle.tdf_bind_tables.specs.Actors.{actor_place, actor_places, cluster_of, module_actor}
use Rattle.tdf_bind_tables.specs.declared.actors.ActorPlace.{ActorPlace}
use Rattle.tdf_bind_tables.specs.declared.actors.ActorRow.{ActorRow}
use Rattle.tdf_dynamic_plans.proofs.Api.{modules_few}
use Rattle.tdf_dynamic_plans.specs.Attributes.{AttrsOf, IsOfCluster, clusters_of}
use Rattle.tdf_events.specs.Side.{SideOf}
use Rattle.tdf_sim_refinement.specs.Below.{module_state, nums_of}
use Rattle.tdf_graph.specs.declared.actors.Actor.TheVariants as actor
use Rattle.tdf_lang_tree.specs.Pure.{PureTree}
use Rattle.tdf_saved.specs.State.{ClusterStateOf, ColumnStateOf, KernelStateOf, ModuleStateOf, SnapshotOf}
use Rattle.tdf_saved.specs.declared.state.Stamp.{Stamp as SavedStamp}
use Rattle.tdf_sim_history.specs.Cells.{run_cells}
use Rattle.tdf_sim_history.specs.Instant.{run_in}
use Rattle.tdf_sim_history.specs.Rules.{rules_of}
use Rattle.tdf_sim_history.specs.World.{ClusterAt, World}
use Rattle.tdf_sim_resumed.proofs.Members.{each_at}
use Rattle.tdf_sim_resumed.specs.Laws.{SnapshotIsOne}
use Rattle.tdf_sim_resumed.specs.Snapshot.{AreSavedColumns, IsRowsFrom, IsSavedCluster, IsSavedColumn}
use Rattle.tdf_streams.proofs.Api.{get_inside, get_low, get_made_at, is_wired, known_more, none_some, place_kept, some_same, state_more}
use Rattle.tdf_streams.specs.Cluster.{cluster_net, is_outside_cluster, is_sampler_kind}
use Rattle.tdf_streams.specs.Net.{Net, Period, Run, count, taken, written}
use Rattle.tdf_streams.specs.Periods.{AreAttributes}
use Rattle.tdf_streams.specs.Places.{actor_kind, is_own, kind_of_row}
use Rattle.tdf_streams.specs.Stands.{Less, Play, Stands, run_of}
use Rattle.tdf_streams.specs.Streams.{known, place, spot, state_before}
use Rattle.tdf_trace_rows.specs.Rows.{Cells}

-- ---- lists

same_items : {A : Type 0} (xs ys : List A) → length xs ≡ length ys → ((j : ℕ) (x y : A) → slice_get xs j ≡ Some x → slice_get ys j ≡ Some y → x ≡ y) → xs ≡ ys
same_items [] [] long same = refl
same_items [] (y ∷ ys) long same = absurd (omega (arith, long))
same_items (x ∷ xs) [] long same = absurd (omega (arith, long))
same_items (x ∷ xs) (y ∷ ys) long same = rw (same 0 x y refl refl, same_items xs ys (omega (arith, long)) (λ j a b at there. same (suc j) a b at there)) refl

map_same : {A B : Type 0} (f g : A → B) (xs : List A) → ((i : ℕ) (x : A) → slice_get xs i ≡ Some x → f x ≡ g x) → map f xs ≡ map g xs
map_same f g [] same = refl
map_same f g (x ∷ xs) same = rw (same 0 x refl, map_same f g xs (λ i y at. same (suc i) y at)) refl

lengths_same : (x y r s w v d : ℕ) → x + r ≡ d + w → y + s ≡ d + v → r ≡ s → w ≡ v → x ≡ y
lengths_same x y r s w v d one other reads writes = omega (arith, one, other, reads, writes)

-- ---- two plays that stand for the same streams hold the same

module _ {S V I : Type 0} (net : Net S V I) (old : List (Period I)) (p : Period I) (reads : ℕ → List V) (f g : ℕ) (y z : Play S V)
    (one : Stands net old p reads f y) (other : Stands net old p reads g z) (turns : (m : ℕ) → slice_index y.turns m ≡ slice_index z.turns m) where
  abbrev run : Run V I
  run = run_of old p reads

  one_more : Less (known net run f) (known net run (g + f))
  one_more = known_more net run run (record { rest = []; periods = sym (append-nil run.periods); reads = λ m n x at. at }) f g

  other_more : Less (known net run g) (known net run (g + f))
  other_more = let e : f + g ≡ g + f = omega arith in subst (λ k. Less (known net run g) (known net run k)) e
      (known_more net run run (record { rest = []; periods = sym (append-nil run.periods); reads = λ m n x at. at }) g f)

  pub same_state : (m : ℕ) (x w : S) → slice_get y.states m ≡ Some x → slice_get z.states m ≡ Some w → net.is_sampler m ≡ false → x ≡ w
  same_state m x w x_at w_at plain =
      let a = state_more net [] [] (known net run f) (known net run (g + f)) one_more m _ _ x (one.states m x x_at plain) in
      let b = state_more net [] [] (known net run g) (known net run (g + f)) other_more m _ _ w (other.states m w w_at plain) in
      some_same x w (sym a ∙ ap (λ k. state_before net (known net run (g + f)) m (spot old p k) (sum_by (count m) old + k)) (turns m) ∙ b)

  pub same_list : (e : ℕ) → e < net.edges → slice_index_or y.lists e [] ≡ slice_index_or z.lists e []
  same_list e inside =
      let a = one.lists e inside in let b = other.lists e inside in
      let r = ap (λ k. sum_by (taken net e) old + k * slice_index p.reads e) (turns (net.reader e)) in
      let w = ap (λ k. sum_by (written net e) old + k * slice_index p.writes e) (turns (net.writer e)) in
      same_items (slice_index_or y.lists e []) (slice_index_or z.lists e [])
      (lengths_same (length (slice_index_or y.lists e [])) (length (slice_index_or z.lists e [])) _ _ _ _ (net.delay e) a.count b.count r w)
      (λ j x v x_at v_at. some_same x v (sym (place_kept net run.periods (known net run f) (known net run (g + f)) one_more e _ x (a.items j x x_at))
      ∙ ap (λ k. place net run.periods (known net run (g + f)) e (k + j)) r
      ∙ place_kept net run.periods (known net run g) (known net run (g + f)) other_more e _ v (b.items j v v_at)))

-- ---- states by their parts

abbrev module_with : AttrsOf → List ℤ → ModuleStateOf
module_with x cells = record { accept = x.accepts; rates = x.rates; steps = x.steps; cells = cells }

abbrev cluster_with : ℕ → List ModuleStateOf → List (List ℤ) → ClusterStateOf
cluster_with start modules edges = record { start = start; modules = modules; edges = edges }

abbrev column_with : Option ℤ → List SavedStamp → List ℤ → ColumnStateOf
column_with carry samples later = record { carry = carry; samples = samples; later = later }

abbrev snapshot_with : Bool → (time used budget : ℕ) → List ClusterStateOf → KernelStateOf → List ColumnStateOf → SnapshotOf
snapshot_with vcd time used budget clusters kernel columns = record { vcd = vcd; time = time; used = used; budget = budget; clusters = clusters; kernel = kernel; columns = columns }

-- ---- the modules and the edges of a cluster

map_filter : {A B : Type 0} (p : A → Bool) (f g : A → B) (xs : List A) → ((i : ℕ) (x : A) → slice_get xs i ≡ Some x → f x ≡ g x) → map f (filter p xs) ≡ map g (filter p xs)
map_filter p f g [] same = refl
map_filter p f g (x ∷ xs) same = go (map_filter p f g xs (λ i y at. same (suc i) y at)) (p x)
  where
    go : map f (filter p xs) ≡ map g (filter p xs) → (b : Bool) → map f (cond b (x ∷ filter p xs) (filter p xs)) ≡ map g (cond b (x ∷ filter p xs) (filter p xs))
    go rest true = rw (same 0 x refl, rest) refl
    go rest false = rest

range_at : (a n i e : ℕ) → slice_get (range_with_len a n) i ≡ Some e → e < a + n
range_at a zero i e at = none_some e at
range_at a (suc n) zero e at = let s = some_same a e at in omega (arith, s)
range_at a (suc n) (suc i) e at = let r = range_at (a + 1) n i e at in omega (arith, r)

module _ (flat : Flat) (limits : AreWithinLimits flat) where
  module_kind : (m : ℕ) → m < length flat.tables.modules → actor_kind flat.tables m ≡ Some actor.Module
  module_kind m inside = go (slice_get flat.tables.actors m) (sym (slice_get-map actor_place flat.tables.actors m) ∙ ap (λ (l : List ActorPlace). slice_get l m) (is_wired flat limits).actors.places ∙ at_module)
    where
      at_module : slice_get (actor_places (length flat.tables.modules) flat.tables.ports) m ≡ Some (module_actor (0 + m))
      at_module = get_low (map module_actor (range_with_len 0 (length flat.tables.modules))) _ m (let l = length-map-range_with_len module_actor 0 (length flat.tables.modules) in omega (arith, inside, l))
          ∙ get_made_at module_actor 0 (length flat.tables.modules) m inside

      go : (o : Option ActorRow) → option_map actor_place o ≡ Some (module_actor (0 + m)) → kind_of_row o ≡ Some actor.Module
      go None h = absurd cc
      go (Some row) h = ap (λ (x : ActorPlace). Some x.kind) (some_same (actor_place row) (module_actor (0 + m)) h)

  plain : (cluster : ℕ) (a : AttrsOf) → IsOfCluster flat.tables cluster a → is_outside_cluster flat.tables cluster a.number ≡ false
  plain cluster a own = ap (λ k. is_sampler_kind k || not (nat_eq (slice_index (clusters_of flat.tables) a.number) cluster)) (module_kind a.number own.is_module)
      ∙ ap not (eq-eqb (slice_index (clusters_of flat.tables) a.number) cluster own.inside)

  module _ (model : PureTree) (number time : ℕ) (h : ClusterAt) (attributes : AreAttributes flat number h.now.info.table) (one other : ClusterStateOf)
      (a : IsSavedCluster model flat number time h one) (b : IsSavedCluster model flat number time h other) where
    same_turns : (m : ℕ) → slice_index a.play.turns m ≡ slice_index b.play.turns m
    same_turns m = a.turns m ∙ sym (b.turns m)

    cells_same : (i : ℕ) (x : AttrsOf) → slice_get h.now.info.table i ≡ Some x → slice_index_or a.play.states x.number [] ≡ slice_index_or b.play.states x.number []
    cells_same i x at =
        let own = each_at (IsOfCluster flat.tables number) h.now.info.table i x attributes.own at in
        let few = modules_few flat.tables (is_wired flat limits) in let long = length-map flat.tables.actors cluster_of in let is = own.is_module in let la = a.actors in let lb = b.actors in
        let s = get_inside a.play.states x.number (omega (arith, few, long, is, la)) in
        let t = get_inside b.play.states x.number (omega (arith, few, long, is, lb)) in
        get_or_from_slice_get a.play.states x.number s.0 [] s.1
        ∙ same_state (cluster_net model flat number h.begun) h.old h.now (run_in h).reads a.steps b.steps a.play b.play a.stands b.stands same_turns x.number s.0 t.0 s.1 t.1 (plain number x own)
        ∙ sym (get_or_from_slice_get b.play.states x.number t.0 [] t.1)

    modules_same : one.modules ≡ other.modules
    modules_same = a.modules ∙ map_same (module_state a.play.states) (module_state b.play.states) h.now.info.table
        (λ i x at. ap (module_with x) (cells_same i x at)) ∙ sym b.modules

    edges_same : one.edges ≡ other.edges
    edges_same = a.edges ∙ map_filter (is_own flat.tables number) (λ e. nums_of (slice_index_or a.play.lists e [])) (λ e. nums_of (slice_index_or b.play.lists e [])) (range_with_len 0 (length flat.tables.edges))
        (λ i e at. ap nums_of (same_list (cluster_net model flat number h.begun) h.old h.now (run_in h).reads a.steps b.steps a.play b.play a.stands b.stands same_turns e (let r = range_at 0 (length flat.tables.edges) i e at in omega (arith, r))))
        ∙ sym b.edges

    pub cluster_same : one ≡ other
    cluster_same = ap (λ n. cluster_with n one.modules one.edges) (a.start ∙ sym b.start) ∙ ap (λ l. cluster_with other.start l one.edges) modules_same ∙ ap (cluster_with other.start other.modules) edges_same

-- ---- columns

rows_below : (cells : Cells) (time one other : ℕ) → IsRowsFrom cells time one → IsRowsFrom cells time other → one < other → ⊥
rows_below cells time one other a b less = elim a.one [
  | inl last ↦ (let w = b.within in omega (arith, last, less, w))
  | inr found ↦ b.known found.0 one found.1 less found.2
]

pub rows_same : (cells : Cells) (time one other : ℕ) → IsRowsFrom cells time one → IsRowsFrom cells time other → one ≡ other
rows_same cells time one other a b = elim (cases_lt one other) [
  | inl less ↦ absurd (rows_below cells time one other a b less)
  | inr past ↦ elim (cases_lt other one) [ inl less ↦ absurd (rows_below cells time other one b a less) | inr up ↦ omega (arith, past, up) ]
]

column_same : (model : PureTree) (flat : Flat) (start w : World SideOf) (cells : Cells) (rows time column : ℕ) (row : TraceRow) (one other : ColumnStateOf)
    → IsSavedColumn model flat start w cells rows time column row one → IsSavedColumn model flat start w cells rows time column row other → one ≡ other
column_same model flat start w cells rows time column row one other a b =
    ap (λ c. column_with c one.samples one.later) (a.carry ∙ sym b.carry) ∙ ap (λ l. column_with other.carry l one.later) (a.samples ∙ sym b.samples) ∙ ap (column_with other.carry other.samples) (a.later ∙ sym b.later)

columns_same : (model : PureTree) (flat : Flat) (start w : World SideOf) (time : ℕ) (one other : List ColumnStateOf) → AreSavedColumns model flat start w time one → AreSavedColumns model flat start w time other → one ≡ other
columns_same model flat start w time one other a b = same_items one other (a.same ∙ sym b.same) (λ n x y x_at y_at. (
    let inside : n < length flat.tables.traces = (let i = slice_get_within one n x x_at in let l = a.same in omega (arith, i, l)) in
    let row = get_inside flat.tables.traces n inside in
    let rows = rows_same (run_cells model flat (rules_of model flat) start time) time a.rows b.rows a.rows_are b.rows_are in
    column_same model flat start w (run_cells model flat (rules_of model flat) start time) b.rows time n row.0 x y
    (subst (λ k. IsSavedColumn model flat start w (run_cells model flat (rules_of model flat) start time) k time n row.0 x) rows (a.each n row.0 x row.1 x_at)) (b.each n row.0 y row.1 y_at)))

-- ---- all together

pub snapshot_is_one : SnapshotIsOne
snapshot_is_one model flat start w time budget vcd one other limits have a b =
    ap (λ x. snapshot_with x one.time one.used one.budget one.clusters one.kernel one.columns) (a.vcd_is ∙ sym b.vcd_is)
    ∙ ap (λ x. snapshot_with other.vcd x one.used one.budget one.clusters one.kernel one.columns) (a.time_is ∙ sym b.time_is)
    ∙ ap (λ x. snapshot_with other.vcd other.time x one.budget one.clusters one.kernel one.columns) (a.used_is ∙ sym b.used_is)
    ∙ ap (λ x. snapshot_with other.vcd other.time other.used x one.clusters one.kernel one.columns) (a.budget_is ∙ sym b.budget_is)
    ∙ ap (λ x. snapshot_with other.vcd other.time other.used other.budget x one.kernel one.columns) clusters_same
    ∙ ap (λ x. snapshot_with other.vcd other.time other.used other.budget other.clusters x one.columns) (a.side.is ∙ sym b.side.is)
    ∙ ap (snapshot_with other.vcd other.time other.used other.budget other.clusters other.kernel) (columns_same model flat start w time one.columns other.columns a.columns b.columns)
  where
    clusters_same : one.clusters ≡ other.clusters
    clusters_same = same_items one.clusters other.clusters (a.clusters.same ∙ sym b.clusters.same) (λ n x y x_at y_at. (
        let inside : n < length w.clusters = (let i = slice_get_within one.clusters n x x_at in let l = a.clusters.same in omega (arith, i, l)) in
        let h = get_inside w.clusters n inside in
        cluster_same flat limits model (n + 1) time h.0 (have.each n h.0 h.1) x y (a.clusters.each n h.0 x h.1 x_at) (b.clusters.each n h.0 y h.1 y_at)))
