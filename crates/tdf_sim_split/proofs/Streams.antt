-- The streams of a cluster that goes on are those of the whole run.
use Rattle.std.proofs.Common.{◌≡◌, ◌∙◌, ◌⊎◌, ℕ, ℤ, zero, suc, ◌+◌, ◌-◌, ◌*◌, ◌/◌, ◌%◌, ◌<◌, ◌≤◌, false, if◌then◌else◌, Option, Some, None, option_map, List, [], ◌∷◌, ◌++◌, append_assoc, length, slice_get, slice_index, slice_index_or, refl, sym, ap, subst, inl, inr, arith}
use Rattle.std.proofs.Math.Nat.{add-mul, mul-add-div_right, mul-add-mod_self_right}
use Rattle.std.proofs.lemmas.Bool.{cases_eq, eq-eqb, ne_eqb}
use Rattle.std.proofs.lemmas.List.Sums.{sum_by-cons}
use Rattle.std.proofs.lemmas.Option.{slice_get_within}
use Rattle.std.specs.List.{sum_by}
use Rattle.std.specs.Option.{option_and_then}
use Rattle.std.specs.Prelude.{unwrap_or}
use Rattle.tdf_bind.specs.Flat.{IsFlatOf}
use Rattle.tdf_bind.specs.declared.model.Flat.{Flat}
use Rattle.tdf_bind_invariants.specs.Limits.{AreWithinLimits}
use Rattle.tdf_bind_connections.specs.declared.modules.PortRow.{PortRow}
use Rattle.tdf_bind_tables.specs.FlatTables.{FlatTablesOf}
use Rattle.tdf_dynamic_plans.specs.Rates.{port_rate}
use Rattle.tdf_exec_layout.specs.Wires.{SinksHaveOne}
use Rattle.tdf_exec_layout.specs.Wiring.{Reads}
use Rattle.tdf_fixed.specs.declared.raw.Raw.{Raw}
use Rattle.tdf_graph.specs.declared.actors.Actor.{Actor}
use Rattle.tdf_graph.specs.declared.actors.Actor.TheVariants as actor
use Rattle.tdf_lang_tree.specs.Pure.{PureTree}
use Rattle.tdf_schedule.specs.Plan.{done}
use Rattle.tdf_sim_history.proofs.Api.{last_record, past_of, record_at}
use Rattle.tdf_sim_history.specs.Answers.{last_cells}
use Rattle.tdf_sim_history.specs.Cells.{outputs_done}
use Rattle.tdf_sim_history.specs.Instant.{activations, acts_now, edge_read_from, periods_of, run_in, sample_taken}
use Rattle.tdf_sim_history.specs.World.{ClusterAt}
use Rattle.tdf_sim_history.specs.WorldLaws.{AreRecordsOf}
use Rattle.tdf_sim_refinement.proofs.Api.{takes_one}
use Rattle.tdf_sim_split.proofs.Sound.{done_rises}
use Rattle.tdf_sim_split.specs.Following.{Follows, HavePeriods, Inside, IsResumedCluster, IsSoundCluster, Later}
use Rattle.tdf_streams.proofs.Api.{are_active, get_high, get_low}
use Rattle.tdf_streams.specs.Cluster.{Start, cluster_net, is_outside_cluster, zero_sample}
use Rattle.tdf_streams.specs.Grounds.{firings}
use Rattle.tdf_streams.specs.Laws.{ClusterNet, run_from}
use Rattle.tdf_streams.specs.Net.{Past, Turn, count, taken}
use Rattle.tdf_streams.specs.Periods.{PeriodInfo, PeriodRecord}
use Rattle.tdf_streams.specs.Places.{actor_kind, reader_at}
use Rattle.tdf_streams.specs.Signals.{output_at_spot, outputs_in, port_output, rate_in}
use Rattle.tdf_streams.specs.Stands.{KeepsReads, Play}
use Rattle.tdf_streams.specs.Streams.{Spot, entered, find, known, place, spot, state_before}
use Rattle.tdf_streams_onward.proofs.Api.{After as LiesAfter, Inside as LiesInside, before_plain, entered_not, lies, lies_none, map_id, plain_state, same_state, sum_after}
use Rattle.tdf_streams_onward.specs.Laws.{BodiesGoByTable, FiringsAreEnough, GoesOn, StreamsGoOn, table_of, whole_run}
use Rattle.tdf_streams_onward.specs.Onward.{GoOnAs, IsEnough, acts_before, all_known, taken_before}

no_cons : {A : Type 0} {x : A} {xs : List A} → x ∷ xs ≡ [] → ⊥
no_cons same = absurd cc

-- a sampler or another kind of actor
kind_cases : (o : Option Actor) → (o ≡ Some actor.Sampler) ⊎ (o ≡ Some actor.Sampler → ⊥)
kind_cases None = inr (λ is. absurd cc)
kind_cases (Some actor.Module) = inr (λ is. absurd cc)
kind_cases (Some actor.Sampler) = inl refl
kind_cases (Some actor.Sink) = inr (λ is. absurd cc)

-- the edge of a sink is the first that it reads
edge_is : (tables : FlatTablesOf) (m edge e n : ℕ) → reader_at tables.edges edge ≡ m → e ≤ edge → edge < e + n → ((k : ℕ) → e ≤ k → k < e + n → reader_at tables.edges k ≡ m → k ≡ edge)
    → edge_read_from tables m e n ≡ edge
unfolding edge_read_from
edge_is tables m edge e zero is low high only = absurd (omega (arith, low, high))
edge_is tables m edge e (suc n) is low high only = elim (cases_eq e edge) [
  | inl same ↦ (ap (λ b. if b then e else edge_read_from tables m (e + 1) n) (eq-eqb (reader_at tables.edges e) m (ap (reader_at tables.edges) same ∙ is)) ∙ same)
  | inr apart ↦ (ap (λ b. if b then e else edge_read_from tables m (e + 1) n) (ne_eqb (reader_at tables.edges e) m (λ reads. apart (only e (omega arith) (omega arith) reads)))
      ∙ edge_is tables m edge (e + 1) n is (omega (arith, low, apart)) (omega (arith, high)) (λ k above below reads. only k (omega (arith, above)) (omega (arith, below)) reads))
]

-- samples taken in periods in each of which an activation takes one
taken_one : (m e : ℕ) (old : List PeriodRecord) → ((k : ℕ) (p : PeriodRecord) → slice_get old k ≡ Some p → slice_index p.reads e ≡ 1) → sum_by (λ (p : PeriodRecord). slice_index p.counts m * slice_index p.reads e) old ≡ sum_by (count m) old
taken_one m e [] ones = refl
taken_one m e (p ∷ old) ones =
    let a = sum_by-cons (λ (q : PeriodRecord). slice_index q.counts m * slice_index q.reads e) p old in
    let b = sum_by-cons (count m) p old in
    let r = taken_one m e old (λ k q at. ones (suc k) q at) in
    let one : slice_index p.counts m * slice_index p.reads e ≡ slice_index p.counts m = rw (ones 0 p refl) (omega arith) in
    omega (arith, a, b, r, one)

-- what is known in some number of steps is known in as many as there are firings
pub enough_of : FiringsAreEnough → (model : PureTree) (flat : Flat) (number : ℕ) (begun : Start) (ps : List PeriodRecord) (reads : ℕ → List Raw) → AreWithinLimits flat → AreRecordsOf flat number begun ps
    → IsEnough (cluster_net model flat number begun) (record { periods = ps; reads = reads })
enough_of enough model flat number begun [] reads limits records d m n t at = absurd records
enough_of enough model flat number begun (first ∷ later) reads limits records d m n t at = enough model flat number begun first later reads limits records d m n t at

module _ (by_table : BodiesGoByTable) (goes_on : StreamsGoOn) (enough : FiringsAreEnough) (model : PureTree) (flat : Flat) (is_flat : IsFlatOf model flat) (limits : AreWithinLimits flat) (sinks : SinksHaveOne flat.tables) (number : ℕ)
    (c b h g : ClusterAt) (resumed : IsResumedCluster model flat number c b) (follows : Follows c b h g) (sound_c : IsSoundCluster flat number c) (sound_h : IsSoundCluster flat number h) (sound_g : IsSoundCluster flat number g) where
  abbrev play : Play (List ℤ) Raw
  play = resumed.play

  abbrev whole_net : ClusterNet
  whole_net = cluster_net model flat number c.begun

  abbrev part_net : ClusterNet
  part_net = cluster_net model flat number b.begun

  abbrev acts : ℕ → ℕ
  acts m = acts_before c.old play m

  abbrev long_reads : ℕ → List Raw
  long_reads m = slice_index_or h.reads m []

  abbrev rest_reads : ℕ → List Raw
  rest_reads m = slice_index_or g.reads m []

  -- the same periods came after
  pub record HasLater : Type 0 where
    pub later : List PeriodRecord
    pub whole : periods_of h ≡ c.old ++ c.now ∷ later
    pub part : periods_of g ≡ b.now ∷ later

  later_of : HavePeriods c b h g → HasLater
  later_of (Inside old now old_g now_g from from_g low entries) = record {
    later = [];
    whole = λ i. old i ++ now i ∷ [];
    part = λ i. old_g i ++ now_g i ∷ [];
  }
  later_of (Later between old old_g now from from_g) = record {
    later = between ++ h.now ∷ [];
    whole = ap (λ l. l ++ h.now ∷ []) old ∙ append_assoc c.old (c.now ∷ between) (h.now ∷ []);
    part = (λ i. old_g i ++ now i ∷ []);
  }

  pub has : HasLater
  has = later_of follows.periods

  rest_counts : (m : ℕ) → slice_index play.turns m + slice_index b.now.counts m ≡ slice_index c.now.counts m
  rest_counts m = let t = resumed.turns m in let r = resumed.rest.counts m in omega (arith, t, r)

  -- activations of the whole are those before, and those since
  acts_in : HavePeriods c b h g → (m : ℕ) → activations h m ≡ acts m + activations g m
  acts_in (Inside old now old_g now_g from from_g low entries) m =
      let t = resumed.turns m in
      let e = ap (λ (l : List PeriodRecord). sum_by (count m) l) old in
      let f = ap (λ (l : List PeriodRecord). sum_by (count m) l) old_g in
      let place = ap (λ i. done h.entries i m) follows.place in
      let entries_g = ap (λ es. done es g.place m) follows.entries in
      let from_h : done h.entries h.from m ≡ done c.entries c.from m = (λ i. done (entries i) (from i) m) in
      let from_gg : done g.entries g.from m ≡ done c.entries c.place m = (λ i. done ((follows.entries ∙ entries) i) (from_g i) m) in
      let now_at = ap (λ es. done es h.place m) entries in
      let r = done_rises c.entries m c.from c.place sound_c.from in
      let s = done_rises c.entries m c.place h.place low in
      omega (arith, t, e, f, place, entries_g, from_h, from_gg, now_at, r, s)
  acts_in (Later between old old_g now from from_g) m =
      let e = ap (λ (l : List PeriodRecord). sum_by (count m) l) old ∙ sum_after (count m) c.old between c.now b.now (slice_index play.turns m) (rest_counts m) in
      let f = ap (λ (l : List PeriodRecord). sum_by (count m) l) old_g in
      let place : done g.entries g.place m ≡ done h.entries h.place m = λ i. done (follows.entries i) (follows.place i) m in
      let begin : done g.entries g.from m ≡ done h.entries h.from m = λ i. done (follows.entries i) ((from_g ∙ sym from) i) m in
      omega (arith, e, f, place, begin)

  pub acts_are : (m : ℕ) → activations h m ≡ acts m + activations g m
  acts_are m = acts_in follows.periods m

  keeps_reads : KeepsReads (run_in c).reads long_reads
  keeps_reads m n x at = ap (λ l. slice_get l n) (follows.reads m) ∙ get_low (slice_index_or c.reads m []) (rest_reads m) n (slice_get_within (slice_index_or c.reads m []) n x at) ∙ at

  given : (m n : ℕ) → slice_get (rest_reads m) n ≡ slice_get (long_reads m) (acts m + n)
  given m n = elim (kind_cases (actor_kind flat.tables m)) [
    | inl sampler ↦ (
        let l = sound_c.samplers m sampler in
        let t = resumed.turns m in
        let a : length (slice_index_or c.reads m []) ≡ acts m = omega (arith, l, t) in
        let z : acts m + n - length (slice_index_or c.reads m []) ≡ n = omega (arith, a) in
        sym (ap (λ k. slice_get k (acts m + n)) (follows.reads m) ∙ get_high (slice_index_or c.reads m []) (rest_reads m) (acts m + n) (omega (arith, a)) ∙ ap (slice_get (rest_reads m)) z))
    | inr other ↦ (ap (λ l. slice_get l n) (sound_g.none m other) ∙ sym (ap (λ l. slice_get l (acts m + n)) (sound_h.none m other)))
  ]

  goes : GoesOn model flat number c.begun c.old c.now b.now (run_in c).reads resumed.steps play part_net.delay part_net.initial part_net.start
  goes = record {
    stands = resumed.stands;
    active = are_active model flat number c.begun c.old c.now play (past_of flat number c.begun c.old c.now sound_c.records) (last_record flat number c.begun c.old c.now sound_c.records).timed (let a = resumed.actors in omega (arith, a));
    rest = record { counts = rest_counts; writes = resumed.rest.writes; reads = resumed.rest.reads; same = ap table_of resumed.rest.info };
    starts = resumed.starts;
  }

  enough_whole : IsEnough whole_net (whole_run c.old c.now has.later long_reads)
  enough_whole = subst (λ ps. IsEnough whole_net (record { periods = ps; reads = long_reads })) has.whole
      (enough_of enough model flat number c.begun (periods_of h) long_reads limits (subst (λ s. AreRecordsOf flat number s (periods_of h)) follows.begun sound_h.records))

  enough_part : IsEnough part_net (run_from b.now has.later rest_reads)
  enough_part = subst (λ ps. IsEnough part_net (record { periods = ps; reads = rest_reads })) has.part
      (enough_of enough model flat number b.begun (periods_of g) rest_reads limits (subst (λ s. AreRecordsOf flat number s (periods_of g)) follows.begun_on sound_g.records))

  pub on : GoOnAs whole_net (whole_run c.old c.now has.later long_reads) part_net (run_from b.now has.later rest_reads) acts (taken_before whole_net c.old c.now play)
  on = goes_on model flat number c.begun c.old has.later c.now b.now (run_in c).reads long_reads rest_reads resumed.steps play part_net.delay part_net.initial part_net.start goes keeps_reads given enough_whole enough_part

  -- all that is known of each
  abbrev whole_all : Past (List ℤ) Raw
  whole_all = all_known whole_net (whole_run c.old c.now has.later long_reads)

  abbrev part_all : Past (List ℤ) Raw
  part_all = all_known part_net (run_from b.now has.later rest_reads)

  -- ---- what a sink takes

  module _ (m : ℕ) (sink : actor_kind flat.tables m ≡ Some actor.Sink) where
    abbrev edge : ℕ
    edge = (sinks m sink).0

    reads_edge : Reads flat.tables m edge
    reads_edge = (sinks m sink).1.is

    edge_at : edge_read_from flat.tables m 0 (length flat.tables.edges) ≡ edge
    edge_at = edge_is flat.tables m edge 0 (length flat.tables.edges) reads_edge.reader (omega arith) (let i = reads_edge.inside in omega (arith, i))
        (λ k low below reader. (sinks m sink).1.only k (record { inside = omega (arith, below); reader = reader }))

    one_at : (k : ℕ) (p : PeriodRecord) → slice_get (periods_of c) k ≡ Some p → slice_index p.reads edge ≡ 1
    one_at k p at =
        let w = record_at flat number c.begun (periods_of c) k p sound_c.records at in
        ap (λ l. slice_index l edge) w.timed.reads_are ∙ takes_one model flat is_flat limits p.info.table m edge sink reads_edge

    takes : taken_before whole_net c.old c.now play edge ≡ acts m
    takes =
        let own : reader_at flat.tables.edges edge ≡ m = reads_edge.reader in
        let old = taken_one m edge c.old (λ k p at. one_at k p (get_low c.old (c.now ∷ []) k (slice_get_within c.old k p at) ∙ at)) in
        let now_one : slice_index c.now.reads edge ≡ 1 = one_at (length c.old) c.now (let z : length c.old - length c.old ≡ 0 = omega arith in get_high c.old (c.now ∷ []) (length c.old) (omega arith) ∙ ap (slice_get (c.now ∷ [])) z) in
        let taken_old : sum_by (taken whole_net edge) c.old ≡ sum_by (count m) c.old = ap (λ k. sum_by (λ (p : PeriodRecord). slice_index p.counts k * slice_index p.reads edge) c.old) own ∙ old in
        let turns_own : slice_index play.turns (reader_at flat.tables.edges edge) * slice_index c.now.reads edge ≡ slice_index play.turns m = (λ i. slice_index play.turns (own i) * now_one i) ∙ omega arith in
        omega (arith, taken_old, turns_own)

    pub sink_same : sample_taken model flat number g m ≡ sample_taken model flat number h m
    sink_same =
        let place_same = on.places edge (activations g m) reads_edge.inside in
        let at : taken_before whole_net c.old c.now play edge + activations g m ≡ activations h m = (let t = takes in let a = acts_are m in omega (arith, t, a)) in
        ap (λ o. unwrap_or o zero_sample) (
        part_is ∙ place_same ∙ ap (place whole_net (c.old ++ c.now ∷ has.later) whole_all edge) at ∙ sym whole_is)
      where
        part_is : place (cluster_net model flat number g.begun) (periods_of g) (known (cluster_net model flat number g.begun) (run_in g) (firings (periods_of g))) (edge_read_from flat.tables m 0 (length flat.tables.edges)) (activations g m)
            ≡ place part_net (b.now ∷ has.later) part_all edge (activations g m)
        part_is = λ i. place (cluster_net model flat number (follows.begun_on i)) (has.part i)
            (known (cluster_net model flat number (follows.begun_on i)) (record { periods = has.part i; reads = rest_reads }) (firings (has.part i))) (edge_at i) (activations g m)

        whole_is : place (cluster_net model flat number h.begun) (periods_of h) (known (cluster_net model flat number h.begun) (run_in h) (firings (periods_of h))) (edge_read_from flat.tables m 0 (length flat.tables.edges)) (activations h m)
            ≡ place whole_net (c.old ++ c.now ∷ has.later) whole_all edge (activations h m)
        whole_is = λ i. place (cluster_net model flat number (follows.begun i)) (has.whole i)
            (known (cluster_net model flat number (follows.begun i)) (record { periods = has.whole i; reads = long_reads }) (firings (has.whole i))) (edge_at i) (activations h m)

  -- ---- what the variables of a module hold when a period is done

  -- a module of the cluster is activated in each period that follows another
  counted : (d : ClusterAt) → IsSoundCluster flat number d → (m : ℕ) → is_outside_cluster flat.tables number m ≡ false → m < length flat.tables.actors → slice_index d.now.counts m ≡ 0 → d.old ≡ []
  counted d sound m own inside none =
      are_active model flat number d.begun d.old d.now (full m) (past_of flat number d.begun d.old d.now sound.records) (last_record flat number d.begun d.old d.now sound.records).timed (few m inside)
      m [] (made m) own none
    where
      states_to : ℕ → List (List ℤ)
      states_to zero = [] ∷ []
      states_to (suc k) = [] ∷ states_to k

      full : ℕ → Play (List ℤ) Raw
      full k = record { turns = []; states = states_to k; lists = [] }

      few : (k : ℕ) → k < length flat.tables.actors → length (states_to k) ≤ length flat.tables.actors
      few k below = let l = long k in omega (arith, l, below)
        where
          long : (j : ℕ) → length (states_to j) ≡ suc j
          long zero = refl
          long (suc j) = ap suc (long j)

      made : (k : ℕ) → slice_get (states_to k) k ≡ Some []
      made zero = refl
      made (suc k) = made k

  module _ (m : ℕ) (own : is_outside_cluster flat.tables number m ≡ false) (inside : m < length flat.tables.actors) where
    -- where the period is done, as many activations as its counts
    abbrev total : (d : ClusterAt) → ℕ
    total d = sum_by (count m) d.old + count m d.now

    sums_are : HavePeriods c b h g → total h ≡ acts m + total g
    sums_are (Inside old now old_g now_g from from_g low entries) =
        let e : total h ≡ sum_by (count m) c.old + count m c.now = (λ i. sum_by (count m) (old i) + count m (now i)) in
        let f : total g ≡ sum_by (count {I = PeriodInfo} m) [] + count m b.now = (λ i. sum_by (count m) (old_g i) + count m (now_g i)) in
        let r = rest_counts m in omega (arith, e, f, r)
    sums_are (Later between old old_g now from from_g) =
        let e = ap (λ (l : List PeriodRecord). sum_by (count m) l) old ∙ sum_after (count m) c.old between c.now b.now (slice_index play.turns m) (rest_counts m) in
        let f = ap (λ (l : List PeriodRecord). sum_by (count m) l) old_g in
        let n = ap (λ (p : PeriodRecord). count m p) now in omega (arith, e, f, n)

    -- at the start of the part itself no boundary was before
    first_is : total g ≡ 0 → slice_index play.turns m ≡ 0 → c.old ≡ []
    first_is none turns = go follows.periods
      where
        go : HavePeriods c b h g → c.old ≡ []
        go (Inside old now old_g now_g from from_g low entries) =
            let f : total g ≡ sum_by (count {I = PeriodInfo} m) [] + count m b.now = (λ i. sum_by (count m) (old_g i) + count m (now_g i)) in
            let r = rest_counts m in
            counted c sound_c m own inside (omega (arith, none, f, r, turns))
        go (Later between old old_g now from from_g) = absurd (
            let z : slice_index g.now.counts m ≡ 0 = omega (arith, none) in
            let empty = counted g sound_g m own inside z in
            no_cons (sym old_g ∙ empty))

    state_same : plain_state part_net part_all m (total g) ≡ plain_state whole_net whole_all m (total h)
    state_same = same_state table_of whole_net c.old has.later c.now b.now (run_in c).reads long_reads rest_reads resumed.steps play part_net.delay part_net.initial part_net.start (by_table model flat number c.begun)
        goes.stands goes.active keeps_reads goes.rest goes.starts given enough_whole enough_part m (total g) own first_is
        ∙ ap (plain_state whole_net whole_all m) (sym (sums_are follows.periods))

    -- no body of a boundary runs where the period is done
    enter_none : (net : ClusterNet) (d : ClusterAt) → IsSoundCluster flat number d → (o : Option (List ℤ)) → option_map (entered net m (spot d.old d.now (count m d.now))) o ≡ o
    enter_none net d sound o = map_id net (entered net m (spot d.old d.now (count m d.now))) o (λ x. entered_not net m d.old d.now (count m d.now) x (counted d sound m own inside))

    last_of : (net : ClusterNet) (past : Past (List ℤ) Raw) (d : ClusterAt) → IsSoundCluster flat number d → state_before net past m (spot d.old d.now (count m d.now)) (total d) ≡ plain_state net past m (total d)
    last_of net past d sound = before_plain net past m (spot d.old d.now (count m d.now)) (total d) ∙ enter_none net d sound (plain_state net past m (total d))

    pub last_same : last_cells model flat number g m ≡ last_cells model flat number h m
    last_same = last_of (cluster_net model flat number g.begun) (known (cluster_net model flat number g.begun) (run_in g) (firings (periods_of g))) g sound_g
        ∙ (λ i. plain_state (cluster_net model flat number (follows.begun_on i)) (known (cluster_net model flat number (follows.begun_on i)) (record { periods = has.part i; reads = rest_reads }) (firings (has.part i))) m (total g))
        ∙ state_same
        ∙ (λ i. plain_state (cluster_net model flat number (sym follows.begun i)) (known (cluster_net model flat number (sym follows.begun i)) (record { periods = sym has.whole i; reads = long_reads }) (firings (sym has.whole i))) m (total h))
        ∙ sym (last_of (cluster_net model flat number h.begun) (known (cluster_net model flat number h.begun) (run_in h) (firings (periods_of h))) h sound_h)

  -- ---- the outputs of a port

  module _ (port : PortRow) (out : ℕ) where
    -- those of the period in which the part begins that were made before
    abbrev made : ℕ
    made = acts_now c port.«module» * rate_in port c.now

    rate_same : rate_in port b.now ≡ rate_in port c.now
    rate_same = ap (λ (i : PeriodInfo). port_rate i.table port) resumed.rest.info

    left : made + outputs_in port b.now ≡ outputs_in port c.now
    left =
        let e : outputs_in port b.now ≡ slice_index b.now.counts port.«module» * rate_in port c.now = ap (λ r. slice_index b.now.counts port.«module» * r) rate_same in
        let d = add-mul (acts_now c port.«module») (slice_index b.now.counts port.«module») (rate_in port c.now) in
        let k : (acts_now c port.«module» + slice_index b.now.counts port.«module») * rate_in port c.now ≡ outputs_in port c.now = ap (λ n. n * rate_in port c.now) (resumed.rest.counts port.«module») in
        omega (arith, e, d, k)

    done_in : HavePeriods c b h g → outputs_done port h ≡ outputs_done port c + outputs_done port g
    done_in (Inside old now old_g now_g from from_g low entries) =
        let e : outputs_done port h ≡ sum_by (outputs_in port) c.old + acts_now h port.«module» * rate_in port c.now = (λ i. sum_by (outputs_in port) (old i) + acts_now h port.«module» * rate_in port (now i)) in
        let f : outputs_done port g ≡ sum_by (outputs_in port) [] + acts_now g port.«module» * rate_in port c.now =
        (λ i. sum_by (outputs_in port) (old_g i) + acts_now g port.«module» * rate_in port (now_g i)) ∙ ap (λ r. sum_by (outputs_in port) [] + acts_now g port.«module» * r) rate_same in
        let none : sum_by (outputs_in port) [] ≡ 0 = refl in
        let a = acts_are port.«module» in
        let t = resumed.turns port.«module» in
        let s = ap (λ (l : List PeriodRecord). sum_by (count port.«module») l) old in
        let u = ap (λ (l : List PeriodRecord). sum_by (count port.«module») l) old_g in
        let v : sum_by (count {I = PeriodInfo} port.«module») [] ≡ 0 = refl in
        let n : acts_now h port.«module» ≡ acts_now c port.«module» + acts_now g port.«module» = omega (arith, a, t, s, u, v) in
        let d = add-mul (acts_now c port.«module») (acts_now g port.«module») (rate_in port c.now) in
        let m = ap (λ k. k * rate_in port c.now) n in
        omega (arith, e, f, none, d, m)
    done_in (Later between old old_g now from from_g) =
        let e : outputs_done port h ≡ sum_by (outputs_in port) (c.old ++ c.now ∷ between) + acts_now h port.«module» * rate_in port h.now = (λ i. sum_by (outputs_in port) (old i) + acts_now h port.«module» * rate_in port h.now) in
        let f : outputs_done port g ≡ sum_by (outputs_in port) (b.now ∷ between) + acts_now g port.«module» * rate_in port h.now = (λ i. sum_by (outputs_in port) (old_g i) + acts_now g port.«module» * rate_in port (now i)) in
        let same : acts_now g port.«module» ≡ acts_now h port.«module» = (λ i. done (follows.entries i) (follows.place i) port.«module» - done (follows.entries i) ((from_g ∙ sym from) i) port.«module») in
        let m = ap (λ k. k * rate_in port h.now) same in
        let s = sum_after (outputs_in port) c.old between c.now b.now made left in
        omega (arith, e, f, m, s)

    -- the whole has those that were made before, and those of the part
    pub outputs_are : outputs_done port h ≡ outputs_done port c + outputs_done port g
    outputs_are = done_in follows.periods

    output_all : (n : ℕ) → port_output (b.now ∷ has.later) port out part_all n ≡ port_output (c.old ++ c.now ∷ has.later) port out whole_all (outputs_done port c + n)
    unfolding port_output
    output_all n = go (find (outputs_in port) [] (b.now ∷ has.later) n) refl
      where
        whole_at : ℕ → Option (Spot PeriodInfo)
        whole_at k = find (outputs_in port) [] (c.old ++ c.now ∷ has.later) k

        some_rate : n < outputs_in port b.now → 0 < rate_in port c.now
        some_rate below = positive (slice_index b.now.counts port.«module») (rate_in port c.now) (let e : outputs_in port b.now ≡ slice_index b.now.counts port.«module» * rate_in port c.now = ap (λ r. slice_index b.now.counts port.«module» * r) rate_same in omega (arith, below, e))
          where
            positive : (x y : ℕ) → n < x * y → 0 < y
            positive x zero l = (let z : x * 0 ≡ 0 = grind arith in absurd (omega (arith, l, z)))
            positive x (suc y) l = omega arith

        -- an output of the period in which the part begins
        inside : (s : Spot PeriodInfo) → n < outputs_in port b.now → s ≡ spot [] b.now n → whole_at (outputs_done port c + n) ≡ Some (spot c.old c.now (made + n))
            → output_at_spot port out part_all s ≡ option_and_then (output_at_spot port out whole_all) (whole_at (outputs_done port c + n))
        inside s below is found =
            let some = some_rate below in
            let d : (made + n) / rate_in port c.now ≡ acts_now c port.«module» + n / rate_in port c.now = mul-add-div_right some (acts_now c port.«module») n in
            let r : (made + n) % rate_in port c.now ≡ n % rate_in port c.now = mul-add-mod_self_right (acts_now c port.«module») (rate_in port c.now) n in
            let t = resumed.turns port.«module» in
            let z : acts port.«module» + (0 + n / rate_in port c.now) ≡ sum_by (count port.«module») c.old + (made + n) / rate_in port c.now = omega (arith, d, t) in
            ap (output_at_spot port out part_all) is
            ∙ ap (λ k. option_map (λ (u : Turn (List ℤ) Raw). u.outputs out (n % k)) (part_all port.«module» (sum_by (count {I = PeriodInfo} port.«module») [] + n / k))) rate_same
            ∙ ap (option_map (λ (u : Turn (List ℤ) Raw). u.outputs out (n % rate_in port c.now))) (on.turns port.«module» (0 + n / rate_in port c.now) ∙ ap (whole_all port.«module») z)
            ∙ ap (λ k. option_map (λ (u : Turn (List ℤ) Raw). u.outputs out k) (whole_all port.«module» (sum_by (count port.«module») c.old + (made + n) / rate_in port c.now))) (sym r)
            ∙ sym (ap (option_and_then (output_at_spot port out whole_all)) found)

        -- or of a later one
        after : (s : Spot PeriodInfo) (more : List PeriodRecord) (p : PeriodRecord) (k : ℕ) → s ≡ spot (b.now ∷ more) p k → whole_at (outputs_done port c + n) ≡ Some (spot (c.old ++ c.now ∷ more) p k)
            → output_at_spot port out part_all s ≡ option_and_then (output_at_spot port out whole_all) (whole_at (outputs_done port c + n))
        after s more p k is found =
            let a = sum_after (count port.«module») c.old more c.now b.now (slice_index play.turns port.«module») (rest_counts port.«module») in
            let z : acts port.«module» + (sum_by (count port.«module») (b.now ∷ more) + k / rate_in port p) ≡ sum_by (count port.«module») (c.old ++ c.now ∷ more) + k / rate_in port p = omega (arith, a) in
            ap (output_at_spot port out part_all) is
            ∙ ap (option_map (λ (u : Turn (List ℤ) Raw). u.outputs out (k % rate_in port p))) (on.turns port.«module» (sum_by (count port.«module») (b.now ∷ more) + k / rate_in port p) ∙ ap (whole_all port.«module») z)
            ∙ sym (ap (option_and_then (output_at_spot port out whole_all)) found)

        go : (o : Option (Spot PeriodInfo)) → find (outputs_in port) [] (b.now ∷ has.later) n ≡ o → option_and_then (output_at_spot port out part_all) o ≡ option_and_then (output_at_spot port out whole_all) (whole_at (outputs_done port c + n))
        go None at = sym (ap (option_and_then (output_at_spot port out whole_all)) (lies_none (outputs_in port) c.old has.later c.now b.now made n left at))
        go (Some s) at = elim (lies (outputs_in port) c.old has.later c.now b.now made n s left at) [
          | LiesInside below is found ↦ inside s below is found
          | LiesAfter more p k above is found ↦ after s more p k is found
        ]

    -- an output of the part is one of the whole
    pub output_same : (n : ℕ) → port_output (periods_of g) port out (known (cluster_net model flat number g.begun) (run_in g) (firings (periods_of g))) n
        ≡ port_output (periods_of h) port out (known (cluster_net model flat number h.begun) (run_in h) (firings (periods_of h))) (outputs_done port c + n)
    output_same n =
        (λ i. port_output (has.part i) port out (known (cluster_net model flat number (follows.begun_on i)) (record { periods = has.part i; reads = rest_reads }) (firings (has.part i))) n)
        ∙ output_all n
        ∙ (λ i. port_output (sym has.whole i) port out (known (cluster_net model flat number (sym follows.begun i)) (record { periods = sym has.whole i; reads = long_reads }) (firings (sym has.whole i))) (outputs_done port c + n))
