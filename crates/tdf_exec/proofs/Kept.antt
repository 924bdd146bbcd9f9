-- A cluster at its start is one of its flat model, and stands for its streams.
use Rattle.std.proofs.Common.{◌≡◌, ◌∙◌, ◌≢◌, ℕ, zero, suc, ◌+◌, ◌<◌, ◌≤◌, ◌||◌, Bool, true, false, not, List, [], ◌∷◌, Option, Some, None, option_map, ℤ, length, map, take, refl, sym, ap, subst, inl, inr, ◌⊎◌, arith}
use Rattle.std.proofs.Math.ListN.{get_or-map}
use Rattle.std.proofs.lemmas.Bool.{cases_eq, cases_lt, eqb-true}
use Rattle.std.proofs.lemmas.List.{get_or-replicate, get_or_past, length-replicate}
use Rattle.std.proofs.lemmas.List.FromFn.{length-map-range_with_len}
use Rattle.std.proofs.lemmas.List.Sums.{sum_by-cons}
use Rattle.std.proofs.lemmas.Option.{get_or_from_slice_get, slice_get-map, slice_get_within}
use Rattle.std.specs.List.{range_with_len}
use Rattle.std.specs.Prelude.{cond, replicate, slice_get, slice_index, slice_index_or}
use Rattle.tdf_bind_tables.specs.Actors.{cluster_of}
use Rattle.tdf_bind_tables.specs.declared.actors.ActorRow.{ActorRow}
use Rattle.tdf_dynamic_plans.specs.Attributes.{attrs_at, clusters_of, rates_in}
use Rattle.tdf_dynamic_first.specs.First.{IsFirstPlan}
use Rattle.tdf_exec_parts.specs.Below.{IsTableFirst}
use Rattle.tdf_dynamic_plans.specs.Rates.{AreRates, net_of}
use Rattle.tdf_dynamic_first.specs.declared.first.First.{First}
use Rattle.tdf_exec.proofs.Ends.{below_modules, module_kind, no_sink, sampler_never, sampler_writes, sink_never, sink_reads}
use Rattle.tdf_exec_parts.proofs.Api.{reads_at, writes_at}
use Rattle.tdf_exec.proofs.Formed.{attrs_found, first_rates_held, first_rows, is_module, ports_fit}
use Rattle.tdf_exec.proofs.Moved.{some_inj}
use Rattle.tdf_exec.proofs.Planned.{are_held, is_safe, lists_are, start_of, text_first}
use Rattle.tdf_exec.proofs.Rows.{index_at}
use Rattle.tdf_exec.specs.Cluster.{ClusterOf}
use Rattle.tdf_exec.specs.Made.{AreHeld, HasRows, IsClusterOf, IsRunnerOf, IsSamplerOf, IsSinkOf, is_sampler_runner, sampler_runners_before}
use Rattle.tdf_exec.specs.Played.{runner_cells, play_of, turns_from}
use Rattle.tdf_exec.specs.Runners.{ModuleOf, SamplerOf}
use Rattle.tdf_exec.specs.Starts.{IsSoundFlat, StandsAtStart}
use Rattle.tdf_exec.specs.Traced.{traced_port}
use Rattle.tdf_exec_layout.specs.Traced.{traced_ports}
use Rattle.tdf_exec.specs.declared.runners.Runner.{Runner}
use Rattle.tdf_exec.specs.declared.runners.Runner.TheVariants as runner
use Rattle.tdf_exec.specs.declared.runners.TracedPort.{TracedPort}
use Rattle.tdf_exec.specs.machine.Laid.{AreParts, AreRunnersOf, IsLaid}
use Rattle.tdf_exec.specs.machine.Starting.{HoldsText, IsFirstRunner, IsOfModule}
use Rattle.tdf_exec_parts.specs.Rings.{AreFirstRings}
use Rattle.tdf_exec.specs.machine.Tracing.{with_traced}
use Rattle.tdf_expr.specs.Checked.{IsCheckedOf}
use Rattle.tdf_expr.specs.Made.{start_rates}
use Rattle.tdf_exec_firing.specs.Wires.{WiresOf}
use Rattle.tdf_bind.specs.declared.model.Flat.{Flat}
use Rattle.tdf_streams.proofs.Api.{get_inside, get_made_at, none_some, some_same, start_stands, are_rates}
use Rattle.tdf_graph.specs.declared.actors.Actor.{Actor}
use Rattle.tdf_graph.specs.declared.actors.Actor.TheVariants as actor
use Rattle.tdf_exec_layout.specs.Wires.{IsWiringOf}
use Rattle.tdf_exec_layout.specs.Wiring.{AreEdgesOf, IsEdgeOf}
use Rattle.tdf_exec_layout.specs.declared.wiring.ActorWires.{ActorWires}
use Rattle.tdf_exec_layout.specs.declared.wiring.ActorWires.TheVariants as wires
use Rattle.tdf_expr_state.specs.State.{FrameState}
use Rattle.tdf_rings.specs.Carried.{ring_at}
use Rattle.tdf_rings.specs.Rings.{RingOf, ring_of}
use Rattle.tdf_schedule.specs.Laws.{PlansArePresent}
use Rattle.tdf_streams.specs.Bodies.{initialized}
use Rattle.tdf_streams.specs.Cluster.{Start, cluster_net, is_outside_cluster, is_sampler_kind, text_start, zero_sample}
use Rattle.tdf_streams.specs.Periods.{PeriodRecord, read_rates, write_rates}
use Rattle.tdf_streams.specs.Places.{actor_kind, block_of_row, kind_of_row, reader_of_row, writer_of_row}
use Rattle.tdf_fixed.specs.declared.raw.Raw.{Raw}
use Rattle.tdf_streams.specs.Stands.{Stands}
use Rattle.tdf_lang_tree.specs.Pure.{PureTree}

-- what is told of edges is told of modules alone
module _ (flat : Flat) (laid : IsLaid flat) (cluster : ℕ) (ws : List ActorWires)
    (own : (m : ℕ) (row : ActorRow) (w : ActorWires) → slice_get flat.tables.actors m ≡ Some row → slice_get ws m ≡ Some w → row.cluster ≡ cluster → IsWiringOf flat.tables m row.kind w) where
  told : (m : ℕ) (kind : Actor) (w : ActorWires) → actor_kind flat.tables m ≡ Some kind → IsWiringOf flat.tables m kind w → IsOfModule flat m w
  told m actor.Module (wires.Module w) kind h = below_modules flat laid m kind
  told m actor.Sampler (wires.Module w) kind h = absurd h
  told m actor.Sink (wires.Module w) kind h = absurd h
  told m kind (wires.Sampler edges) is h = tt
  told m kind (wires.Sink edge) is h = tt
  told m kind wires.Elsewhere is h = tt

  pub of_modules : (m : ℕ) (row : ActorRow) (w : ActorWires) → slice_get flat.tables.actors m ≡ Some row → slice_get ws m ≡ Some w → row.cluster ≡ cluster → IsOfModule flat m w
  of_modules m row w row_at at mine = told m row.kind w (ap kind_of_row row_at) (own m row w row_at at mine)

pub true_false : {P : Type 0} → true ≡ false → P
true_false h = absurd (subst (λ b. elim b as (λ _. Type 0) [ true ↦ Unit {0} | false ↦ ⊥ ]) h tt)

pub false_true : {P : Type 0} → false ≡ true → P
false_true h = true_false (sym h)

pub neither : (a b : Bool) → (a || b) ≡ false → (a ≡ false) × (b ≡ false)
neither true b h = true_false h
neither false b h = (refl, h)

pub not_not : (b : Bool) → not b ≡ false → b ≡ true
not_not true h = refl
not_not false h = true_false h

pub zero_in : (f : ℕ → ℕ) (xs : List ℕ) (m : ℕ) → ((j : ℕ) → f j ≡ 0) → slice_index (map f xs) m ≡ 0
zero_in f [] m none = refl
zero_in f (x ∷ xs) zero none = none x
zero_in f (x ∷ xs) (suc m) none = zero_in f xs m none

-- lists whose runners are samplers alike
pub count_alike : (xs ys : List Runner) (n : ℕ) → length xs ≡ length ys → ((m : ℕ) (x y : Runner) → slice_get xs m ≡ Some x → slice_get ys m ≡ Some y → is_sampler_runner x ≡ is_sampler_runner y)
    → sampler_runners_before xs n ≡ sampler_runners_before ys n
count_alike xs ys zero long same = refl
count_alike [] [] (suc n) long same = refl
count_alike [] (y ∷ ys) (suc n) long same = absurd (omega (arith, long))
count_alike (x ∷ xs) [] (suc n) long same = absurd (omega (arith, long))
count_alike (x ∷ xs) (y ∷ ys) (suc n) long same =
    let s = sum_by-cons (λ z. cond {A = ℕ} (is_sampler_runner z) 1 0) x (take n xs) in
    let t = sum_by-cons (λ z. cond {A = ℕ} (is_sampler_runner z) 1 0) y (take n ys) in
    let h : cond {A = ℕ} (is_sampler_runner x) 1 0 ≡ cond {A = ℕ} (is_sampler_runner y) 1 0 = ap (λ (b : Bool). cond {A = ℕ} b 1 0) (same 0 x y refl refl) in
    let r = count_alike xs ys n (omega (arith, long)) (λ m a b xat yat. same (suc m) a b xat yat) in
    omega (arith, s, t, h, r)

pub traced_alike : (l : List TracedPort) (r : Runner) → is_sampler_runner (with_traced l r) ≡ is_sampler_runner r
traced_alike l (runner.Module x) = refl
traced_alike l (runner.Sampler s) = refl
traced_alike l (runner.Sink k) = refl
traced_alike l runner.Outside = refl

-- a cluster at a place of its first period, whose instances and rings hold what is asked for
module _ (flat : Flat) (cluster : ℕ) (first : First) (sound : IsSoundFlat flat) (laid : IsLaid flat) (is : IsTableFirst flat cluster first.attrs.rows first) (law : PlansArePresent)
    (table_rows : HasRows flat.tables cluster first.attrs.rows) (Holds : ℕ → FrameState → Type 0)
    (rates_held : (m : ℕ) (s : FrameState) → m < length flat.tables.modules → slice_index (clusters_of flat.tables) m ≡ cluster → Holds m s → s.rates ≡ rates_in (attrs_at first.attrs.rows m))
    (place : ℕ) (rings : List RingOf) (runners : List Runner) (positions : List ℕ) (within : place ≤ length first.plan.entries.items)
    (held : AreHeld flat.tables (start_of cluster first place (read_rates (net_of flat.tables first.attrs.rows)) (write_rates (net_of flat.tables first.attrs.rows)) rings runners positions))
    (are : AreRunnersOf flat Holds cluster first.attrs.rows runners) (none_done : positions ≡ replicate (length flat.tables.actors) 0) where
  abbrev started : ClusterOf
  started = start_of cluster first place (read_rates (net_of flat.tables first.attrs.rows)) (write_rates (net_of flat.tables first.attrs.rows)) rings runners positions

  long : length runners ≡ length flat.tables.actors
  long = are.given.same ∙ are.begun_are.long ∙ are.wires_are.long

  abbrev traced_at : ℕ → List TracedPort
  traced_at m = map (traced_port flat.tables first.attrs.rows) (traced_ports flat.tables m)

  -- what is kept for an actor, and from what it came
  pub record CameFrom (m : ℕ) (r : Runner) : Type 0 where
    pub row : ActorRow
    pub row_at : slice_get flat.tables.actors m ≡ Some row
    pub w : ActorWires
    pub w_at : slice_get are.wires m ≡ Some w
    pub b : Runner
    pub b_at : slice_get are.begun m ≡ Some b
    pub first_is : IsFirstRunner flat Holds m (sampler_runners_before are.begun m) w b
    pub low : m < length flat.tables.modules → r ≡ with_traced (traced_at m) b
    pub high : length flat.tables.modules ≤ m → r ≡ b

  came : (m : ℕ) (r : Runner) → slice_get runners m ≡ Some r → CameFrom m r
  came m r at =
      let i = slice_get_within runners m r at in let l = long in let s = are.given.same in let n = are.begun_are.long in
      let b = get_inside are.begun m (omega (arith, i, s)) in
      let w = get_inside are.wires m (omega (arith, i, s, n)) in
      let row = get_inside flat.tables.actors m (omega (arith, i, l)) in
      record {
        row = row.0;
        row_at = row.1;
        w = w.0;
        w_at = w.1;
        b = b.0;
        b_at = b.1;
        first_is = are.begun_are.each m w.0 b.0 w.1 b.1;
        low = λ below. some_inj r (with_traced (traced_at m) b.0) (sym at ∙ are.given.done m b.0 below b.1);
        high = λ past. some_inj r b.0 (sym at ∙ are.given.rest m past ∙ b.1);
      }

  alike : (m : ℕ) (x y : Runner) → slice_get runners m ≡ Some x → slice_get are.begun m ≡ Some y → is_sampler_runner x ≡ is_sampler_runner y
  alike m x y xat yat =
      let h : CameFrom m x = came m x xat in
      let same : h.b ≡ y = some_inj h.b y (sym h.b_at ∙ yat) in
      go h (cases_lt m (length flat.tables.modules)) ∙ ap is_sampler_runner same
    where
      go : (h : CameFrom m x) → (m < length flat.tables.modules) ⊎ (length flat.tables.modules ≤ m) → is_sampler_runner x ≡ is_sampler_runner h.b
      go h (inl below) = ap is_sampler_runner (h.low below) ∙ traced_alike (traced_at m) h.b
      go h (inr past) = ap is_sampler_runner (h.high past)

  before : (m : ℕ) → sampler_runners_before are.begun m ≡ sampler_runners_before runners m
  before m = sym (count_alike runners are.begun m are.given.same alike)

  -- what isn't a module is as it was made
  plain : (m : ℕ) (r b : Runner) → ((l : List TracedPort) → with_traced l b ≡ b) → (m < length flat.tables.modules → r ≡ with_traced (traced_at m) b) → (length flat.tables.modules ≤ m → r ≡ b) → r ≡ b
  plain m r b same low high = go (cases_lt m (length flat.tables.modules))
    where
      go : (m < length flat.tables.modules) ⊎ (length flat.tables.modules ≤ m) → r ≡ b
      go (inl below) = low below ∙ same (traced_at m)
      go (inr past) = high past

  module _ (m : ℕ) (own : slice_index (clusters_of flat.tables) m ≡ cluster) (r : Runner) where
    by_module : (w : WiresOf) (b : Runner) → actor_kind flat.tables m ≡ Some actor.Module → IsWiringOf flat.tables m actor.Module (wires.Module w)
        → IsFirstRunner flat Holds m (sampler_runners_before are.begun m) (wires.Module w) b → (m < length flat.tables.modules → r ≡ with_traced (traced_at m) b) → IsRunnerOf flat started m r
    by_module w (runner.Module x) kind h begun low =
        let below : m < length flat.tables.modules = below_modules flat laid m kind in
        subst (IsRunnerOf flat started m) (sym (low below))
        (is_module flat cluster first laid (ports_fit flat cluster laid first.attrs.rows is.attributes table_rows) Holds rates_held m kind own w h place rings runners positions x begun (traced_at m) refl)
    by_module w (runner.Sampler s) kind h begun low = absurd begun
    by_module w (runner.Sink k) kind h begun low = absurd begun
    by_module w runner.Outside kind h begun low = absurd begun

    sampler_is : (s : SamplerOf) (edges : List ℕ) → actor_kind flat.tables m ≡ Some actor.Sampler → AreEdgesOf flat.tables m edges → s.edges ≡ edges → s.place ≡ sampler_runners_before are.begun m
        → IsSamplerOf flat started m s
    sampler_is s edges kind h edges_are place_is = record {
      actor_is = record { kind_is = kind; inside = own };
      edges_are = subst (AreEdgesOf flat.tables m) (sym edges_are) h;
      place_is = place_is ∙ before m;
      rate = λ e writes. (let row = get_inside flat.tables.edges e writes.inside in
          writes_at flat.tables first.attrs.rows e row.0 row.1 ∙ sampler_writes flat laid first.attrs.rows row.0 (laid.rows e row.0 row.1)
          (ap (actor_kind flat.tables) (sym (ap writer_of_row row.1) ∙ writes.writer) ∙ kind));
      none = λ e reads. (let row = get_inside flat.tables.edges e reads.inside in
          sampler_never flat laid row.0 (laid.rows e row.0 row.1) (ap (actor_kind flat.tables) (sym (ap reader_of_row row.1) ∙ reads.reader) ∙ kind));
    }

    sink_is : (edge : ℕ) → actor_kind flat.tables m ≡ Some actor.Sink → IsEdgeOf flat.tables m edge → IsSinkOf flat started m edge
    sink_is edge kind h = record {
      actor_is = record { kind_is = kind; inside = own };
      edge_is = h;
      rate = (let row = get_inside flat.tables.edges edge h.is.inside in
          reads_at flat.tables first.attrs.rows edge row.0 row.1 ∙ sink_reads flat laid first.attrs.rows row.0 (laid.rows edge row.0 row.1)
          (ap (actor_kind flat.tables) (sym (ap reader_of_row row.1) ∙ h.is.reader) ∙ kind));
      none = λ e writes. (let row = get_inside flat.tables.edges e writes.inside in
          sink_never flat laid row.0 (laid.rows e row.0 row.1) (ap (actor_kind flat.tables) (sym (ap writer_of_row row.1) ∙ writes.writer) ∙ kind));
    }

    by_sampler : (edges : _) (b : Runner) → actor_kind flat.tables m ≡ Some actor.Sampler → IsWiringOf flat.tables m actor.Sampler (wires.Sampler edges)
        → IsFirstRunner flat Holds m (sampler_runners_before are.begun m) (wires.Sampler edges) b → ((same : (l : List TracedPort) → with_traced l b ≡ b) → r ≡ b) → IsRunnerOf flat started m r
    by_sampler edges (runner.Sampler s) kind h begun same = subst (IsRunnerOf flat started m) (sym (same (λ l. refl))) (sampler_is s edges.items kind h begun.0 begun.1)
    by_sampler edges (runner.Module x) kind h begun same = absurd begun
    by_sampler edges (runner.Sink k) kind h begun same = absurd begun
    by_sampler edges runner.Outside kind h begun same = absurd begun

    by_sink : (edge : ℕ) (b : Runner) → actor_kind flat.tables m ≡ Some actor.Sink → IsWiringOf flat.tables m actor.Sink (wires.Sink edge)
        → IsFirstRunner flat Holds m (sampler_runners_before are.begun m) (wires.Sink edge) b → ((same : (l : List TracedPort) → with_traced l b ≡ b) → r ≡ b) → IsRunnerOf flat started m r
    by_sink edge (runner.Sink k) kind h begun same =
        subst (IsRunnerOf flat started m) (sym (same (λ l. refl))) (sink_is k.edge kind (subst (IsEdgeOf flat.tables m) (sym begun) h))
    by_sink edge (runner.Module x) kind h begun same = absurd begun
    by_sink edge (runner.Sampler s) kind h begun same = absurd begun
    by_sink edge runner.Outside kind h begun same = absurd begun

    own_runner : (kind : Actor) (w : ActorWires) (b : Runner) → actor_kind flat.tables m ≡ Some kind → IsWiringOf flat.tables m kind w → IsFirstRunner flat Holds m (sampler_runners_before are.begun m) w b
        → (m < length flat.tables.modules → r ≡ with_traced (traced_at m) b) → (length flat.tables.modules ≤ m → r ≡ b) → IsRunnerOf flat started m r
    own_runner actor.Module (wires.Module w) b kind h begun low high = by_module w b kind h begun low
    own_runner actor.Module (wires.Sampler edges) b kind h begun low high = absurd h
    own_runner actor.Module (wires.Sink edge) b kind h begun low high = absurd h
    own_runner actor.Module wires.Elsewhere b kind h begun low high = absurd h
    own_runner actor.Sampler (wires.Sampler edges) b kind h begun low high = by_sampler edges b kind h begun (λ same. plain m r b same low high)
    own_runner actor.Sampler (wires.Module w) b kind h begun low high = absurd h
    own_runner actor.Sampler (wires.Sink edge) b kind h begun low high = absurd h
    own_runner actor.Sampler wires.Elsewhere b kind h begun low high = absurd h
    own_runner actor.Sink (wires.Sink edge) b kind h begun low high = by_sink edge b kind h begun (λ same. plain m r b same low high)
    own_runner actor.Sink (wires.Module w) b kind h begun low high = absurd h
    own_runner actor.Sink (wires.Sampler edges) b kind h begun low high = absurd h
    own_runner actor.Sink wires.Elsewhere b kind h begun low high = absurd h

  other_runner : (m : ℕ) (r b : Runner) → (slice_index (clusters_of flat.tables) m ≡ cluster → ⊥) → IsFirstRunner flat Holds m (sampler_runners_before are.begun m) wires.Elsewhere b
      → ((same : (l : List TracedPort) → with_traced l b ≡ b) → r ≡ b) → IsRunnerOf flat started m r
  other_runner m r runner.Outside apart begun same = subst (IsRunnerOf flat started m) (sym (same (λ l. refl))) apart
  other_runner m r (runner.Module x) apart begun same = absurd begun
  other_runner m r (runner.Sampler s) apart begun same = absurd begun
  other_runner m r (runner.Sink k) apart begun same = absurd begun

  pub runner_is : (m : ℕ) (r : Runner) → slice_get runners m ≡ Some r → IsRunnerOf flat started m r
  runner_is m r at = go (came m r at) (cases_eq (slice_index (clusters_of flat.tables) m) cluster)
    where
      go : CameFrom m r → (slice_index (clusters_of flat.tables) m ≡ cluster) ⊎ (slice_index (clusters_of flat.tables) m ≢ cluster) → IsRunnerOf flat started m r
      go h (inl own) = own_runner m own r h.row.kind h.w h.b (ap kind_of_row h.row_at)
          (are.wires_are.own m h.row h.w h.row_at h.w_at (sym (index_at cluster_of flat.tables.actors m h.row h.row_at) ∙ own)) h.first_is h.low h.high
      go h (inr apart) = other_runner m r h.b apart
          (subst (λ x. IsFirstRunner flat Holds m (sampler_runners_before are.begun m) x h.b)
          (are.wires_are.other m h.row h.w h.row_at h.w_at (λ e. apart (index_at cluster_of flat.tables.actors m h.row h.row_at ∙ e))) h.first_is)
          (λ same. plain m r h.b same h.low h.high)

  pub zero_at : (m : ℕ) → slice_index positions m ≡ 0
  zero_at m = ap (λ l. slice_index l m) none_done ∙ go (cases_lt m (length flat.tables.actors))
    where
      go : (m < length flat.tables.actors) ⊎ (length flat.tables.actors ≤ m) → slice_index (replicate (length flat.tables.actors) 0) m ≡ 0
      go (inl below) = get_or-replicate (length flat.tables.actors) m 0 0 below
      go (inr past) = get_or_past (replicate (length flat.tables.actors) 0) m 0 (let l = length-replicate {A = ℕ} (length flat.tables.actors) 0 in omega (arith, past, l))

  pub is_cluster : IsClusterOf flat started
  is_cluster = record {
    attributes = is.attributes;
    rows = table_rows;
    planned = record {
      plan = first.plan;
      plan_is = is.plan_is;
      entries_are = refl;
      bounds_are = refl;
      period_is = refl;
    };
    reads_are = refl;
    writes_are = refl;
    safe = is_safe flat cluster first sound laid is law place rings runners positions;
    within = within;
    over = λ crossed. false_true crossed;
    held = held;
    actors = long;
    positions = ap length none_done ∙ length-replicate {A = ℕ} (length flat.tables.actors) 0;
    counted = λ m. (let z = zero_at m in omega (arith, z));
    runners = runner_is;
    keep = laid.keep;
    known = is.known;
  }

  no_module : (m : ℕ) → actor_kind flat.tables m ≡ Some actor.Sink → length flat.tables.modules ≤ m
  no_module m sink = go (cases_lt m (length flat.tables.modules))
    where
      go : (m < length flat.tables.modules) ⊎ (length flat.tables.modules ≤ m) → length flat.tables.modules ≤ m
      go (inl below) = no_sink (actor_kind flat.tables m) (module_kind flat laid m below) sink
      go (inr past) = past

  -- what is kept for a module of the cluster holds what is asked for
  pub held_at : (m : ℕ) (r : Runner) → slice_get runners m ≡ Some r → m < length flat.tables.modules → slice_index (clusters_of flat.tables) m ≡ cluster
      → (x : ModuleOf) × (r ≡ runner.Module x) × Holds m x.frame.state
  held_at m r at below own =
      let h = came m r at in
      let kind : h.row.kind ≡ actor.Module = some_inj h.row.kind actor.Module (sym (ap kind_of_row h.row_at) ∙ module_kind flat laid m below) in
      by h.w h.b
      (subst (λ k. IsWiringOf flat.tables m k h.w) kind (are.wires_are.own m h.row h.w h.row_at h.w_at (sym (index_at cluster_of flat.tables.actors m h.row h.row_at) ∙ own))) h.first_is
      (h.low below)
    where
      by : (w : ActorWires) (b : Runner) → IsWiringOf flat.tables m actor.Module w → IsFirstRunner flat Holds m (sampler_runners_before are.begun m) w b
          → r ≡ with_traced (traced_at m) b → (x : ModuleOf) × (r ≡ runner.Module x) × Holds m x.frame.state
      by (wires.Module w) (runner.Module x) wiring begun same = (record x { traced = traced_at m }, same, begun.held)
      by (wires.Module w) (runner.Sampler s) wiring begun same = absurd begun
      by (wires.Module w) (runner.Sink k) wiring begun same = absurd begun
      by (wires.Module w) runner.Outside wiring begun same = absurd begun
      by (wires.Sampler edges) b wiring begun same = absurd wiring
      by (wires.Sink edge) b wiring begun same = absurd wiring
      by wires.Elsewhere b wiring begun same = absurd wiring

  -- the start that they hold
  module _ (model : PureTree) (start : Start) (lists_held : (e : ℕ) → e < length flat.tables.edges → (ring_at rings e).samples ≡ slice_index_or start.lists e [])
      (cells_held : (m : ℕ) (s : FrameState) → m < length flat.tables.modules → slice_index (clusters_of flat.tables) m ≡ cluster → Holds m s → s.cells ≡ slice_index_or start.cells m [])
      (no_cells : (m : ℕ) → length flat.tables.modules ≤ m → slice_index_or start.cells m [] ≡ []) where
    abbrev cells_at : ℕ → List ℤ
    cells_at m = slice_index_or start.cells m []

    module _ (m : ℕ) (own : slice_index (clusters_of flat.tables) m ≡ cluster)
        (no_samples : is_sampler_kind (actor_kind flat.tables m) ≡ false) (r : Runner) where
      module_state : (w : WiresOf) (b : Runner) → actor_kind flat.tables m ≡ Some actor.Module → IsFirstRunner flat Holds m (sampler_runners_before are.begun m) (wires.Module w) b
          → (m < length flat.tables.modules → r ≡ with_traced (traced_at m) b) → runner_cells r ≡ cells_at m
      module_state w (runner.Module x) kind begun low =
          let below = below_modules flat laid m kind in
          ap runner_cells (low below) ∙ cells_held m x.frame.state below own begun.held
      module_state w (runner.Sampler s) kind begun low = absurd begun
      module_state w (runner.Sink k) kind begun low = absurd begun
      module_state w runner.Outside kind begun low = absurd begun

      sink_state : (edge : ℕ) (b : Runner) → actor_kind flat.tables m ≡ Some actor.Sink → IsFirstRunner flat Holds m (sampler_runners_before are.begun m) (wires.Sink edge) b
          → (((l : List TracedPort) → with_traced l b ≡ b) → r ≡ b) → runner_cells r ≡ cells_at m
      sink_state edge (runner.Sink k) kind begun same = ap runner_cells (same (λ l. refl)) ∙ sym (no_cells m (no_module m kind))
      sink_state edge (runner.Module x) kind begun same = absurd begun
      sink_state edge (runner.Sampler s) kind begun same = absurd begun
      sink_state edge runner.Outside kind begun same = absurd begun

      own_state : (kind : Actor) (w : ActorWires) (b : Runner) → actor_kind flat.tables m ≡ Some kind → IsWiringOf flat.tables m kind w → IsFirstRunner flat Holds m (sampler_runners_before are.begun m) w b
          → (m < length flat.tables.modules → r ≡ with_traced (traced_at m) b) → (length flat.tables.modules ≤ m → r ≡ b) → runner_cells r ≡ cells_at m
      own_state actor.Module (wires.Module w) b kind h begun low high = module_state w b kind begun low
      own_state actor.Module (wires.Sampler edges) b kind h begun low high = absurd h
      own_state actor.Module (wires.Sink edge) b kind h begun low high = absurd h
      own_state actor.Module wires.Elsewhere b kind h begun low high = absurd h
      own_state actor.Sampler w b kind h begun low high = true_false (sym (ap is_sampler_kind kind) ∙ no_samples)
      own_state actor.Sink (wires.Sink edge) b kind h begun low high = sink_state edge b kind begun (λ same. plain m r b same low high)
      own_state actor.Sink (wires.Module w) b kind h begun low high = absurd h
      own_state actor.Sink (wires.Sampler edges) b kind h begun low high = absurd h
      own_state actor.Sink wires.Elsewhere b kind h begun low high = absurd h

    state_is : (m : ℕ) (r : Runner) → slice_get runners m ≡ Some r → is_outside_cluster flat.tables cluster m ≡ false → runner_cells r ≡ cells_at m
    state_is m r at inside =
        let h = came m r at in
        let both = neither (is_sampler_kind (actor_kind flat.tables m)) _ inside in
        let own : slice_index (clusters_of flat.tables) m ≡ cluster = eqb-true (slice_index (clusters_of flat.tables) m) cluster (not_not _ both.1) in
        own_state m own both.0 r h.row.kind h.w h.b (ap kind_of_row h.row_at)
        (are.wires_are.own m h.row h.w h.row_at h.w_at (sym (index_at cluster_of flat.tables.actors m h.row h.row_at) ∙ own)) h.first_is h.low h.high

    state_at : (m : ℕ) (x : List ℤ) → slice_get (map runner_cells runners) m ≡ Some x → is_outside_cluster flat.tables cluster m ≡ false → x ≡ cells_at m
    state_at m x at inside = go (slice_get runners m) refl (sym (slice_get-map runner_cells runners m) ∙ at)
      where
        go : (o : Option Runner) → slice_get runners m ≡ o → option_map runner_cells o ≡ Some x → x ≡ cells_at m
        go None there given = none_some x given
        go (Some r) there given = sym (some_same (runner_cells r) x given) ∙ state_is m r there inside

    list_at : (e : ℕ) → e < length flat.tables.edges → slice_index_or (map (λ (r : RingOf). r.samples) rings) e [] ≡ slice_index_or start.lists e []
    list_at e within = get_or-map (λ (r : RingOf). r.samples) rings e (ring_of [] 0) ∙ lists_held e within

    pub stands_from : (p : PeriodRecord) (reads : ℕ → List Raw) → Stands (cluster_net model flat cluster start) [] p reads 0 (play_of place started)
    stands_from p reads = start_stands (cluster_net model flat cluster start) p reads (play_of place started) (record {
      turns = λ m. zero_in (turns_from first.plan.entries.items place place) (range_with_len 0 (length runners)) m (λ j. omega arith);
      states = λ m x at inside. state_at m x at inside;
      long = λ e within. ap length (list_at e within);
      items = λ e j x within at. sym (get_or_from_slice_get (slice_index_or start.lists e []) j x zero_sample
          (ap (λ l. slice_get l j) (sym (list_at e within)) ∙ at));
    })

-- at the start that the text says
module _ (flat : Flat) (cluster : ℕ) (first : First) (sound : IsSoundFlat flat) (laid : IsLaid flat) (is : IsFirstPlan flat cluster first) (law : PlansArePresent)
    (rings : List RingOf) (runners : List Runner) (positions : List ℕ) (rings_are : AreFirstRings flat.tables cluster first.plan.bounds.items (length flat.tables.edges) rings)
    (are : AreRunnersOf flat (HoldsText flat true) cluster first.attrs.rows runners) (none_done : positions ≡ replicate (length flat.tables.actors) 0) where
  table_is : IsTableFirst flat cluster first.attrs.rows first
  table_is = text_first flat cluster first laid.limits is

  pub is_first : IsClusterOf flat (start_of cluster first 0 (read_rates (net_of flat.tables first.attrs.rows)) (write_rates (net_of flat.tables first.attrs.rows)) rings runners positions)
  is_first = is_cluster flat cluster first sound laid table_is law (first_rows flat cluster first laid is) (HoldsText flat true) (first_rates_held flat cluster first laid is) 0 rings runners positions (omega arith)
      (are_held flat cluster first sound laid table_is law rings runners positions rings_are) are none_done

  abbrev cells_of : PureTree → ℕ → List ℤ
  cells_of model m = slice_index_or (text_start model flat cluster first.attrs.rows).cells m []

  abbrev first_cells : PureTree → ℕ → List ℤ
  first_cells model m = initialized model flat m (rates_in (attrs_at first.attrs.rows m))

  made_cells : (model : PureTree) (m : ℕ) → m < length flat.tables.modules → cells_of model m ≡ first_cells model m
  made_cells model m below = get_or_from_slice_get (text_start model flat cluster first.attrs.rows).cells m (first_cells model m) []
      (get_made_at (first_cells model) 0 (length flat.tables.modules) m below ∙ (let z : 0 + m ≡ m = omega arith in ap (λ k. Some (first_cells model k)) z))

  past_cells : (model : PureTree) (m : ℕ) → length flat.tables.modules ≤ m → cells_of model m ≡ []
  past_cells model m past = get_or_past (text_start model flat cluster first.attrs.rows).cells m []
      (let l = length-map-range_with_len (first_cells model) 0 (length flat.tables.modules) in omega (arith, l, past))

  module_cells : (model : PureTree) → IsCheckedOf model flat.checked → (m : ℕ) (s : FrameState) → m < length flat.tables.modules → slice_index (clusters_of flat.tables) m ≡ cluster
      → HoldsText flat true m s → s.cells ≡ cells_of model m
  module_cells model checked m s below own begun =
      let row = get_inside flat.tables.modules m below in
      begun.cells refl model checked
      ∙ ap (initialized model flat m) (ap (start_rates flat.checked) (ap block_of_row row.1) ∙ sym (ap rates_in (attrs_found flat cluster first laid is m row.0 row.1 own)))
      ∙ sym (made_cells model m below)

  pub stands : StandsAtStart flat (start_of cluster first 0 (read_rates (net_of flat.tables first.attrs.rows)) (write_rates (net_of flat.tables first.attrs.rows)) rings runners positions)
  stands model p reads checked = stands_from flat cluster first sound laid table_is law (first_rows flat cluster first laid is) (HoldsText flat true) (first_rates_held flat cluster first laid is) 0 rings runners positions (omega arith)
      (are_held flat cluster first sound laid table_is law rings runners positions rings_are) are none_done
      model (text_start model flat cluster first.attrs.rows) (lists_are flat cluster first sound laid table_is law rings runners positions rings_are) (module_cells model checked) (past_cells model) p reads

-- with the rates as they are found
pub is_made : (flat : Flat) (cluster : ℕ) (first : First) → IsSoundFlat flat → IsLaid flat → IsFirstPlan flat cluster first → PlansArePresent
    → (reads writes : List ℕ) (rings : List RingOf) (runners : List Runner) (positions : List ℕ) → AreParts flat cluster first (HoldsText flat true)
    (AreFirstRings flat.tables cluster first.plan.bounds.items (length flat.tables.edges)) reads writes rings runners positions
    → IsClusterOf flat (start_of cluster first 0 reads writes rings runners positions)
is_made flat cluster first sound laid is law reads writes rings runners positions parts =
    subst (λ r. IsClusterOf flat (start_of cluster first 0 r writes rings runners positions)) (sym parts.reads_are)
    (subst (λ w. IsClusterOf flat (start_of cluster first 0 (read_rates (net_of flat.tables first.attrs.rows)) w rings runners positions)) (sym parts.writes_are)
    (is_first flat cluster first sound laid is law rings runners positions parts.rings_are parts.runners_are parts.none_done))

-- the rates of a table are in range
pub first_rates : (flat : Flat) (cluster : ℕ) (first : First) → IsLaid flat → IsTableFirst flat cluster first.attrs.rows first → AreRates flat.tables first.attrs.rows
first_rates flat cluster first laid is = are_rates flat laid.limits first.attrs.rows is.attributes.allowed
