-- What the sinks of a cluster in progress give is what the history says that they write.
use Rattle.std.proofs.Common.{◌≡◌, ◌≢◌, ◌∙◌, ℕ, zero, suc, ◌+◌, ◌-◌, ◌*◌, ◌<◌, ◌≤◌, Bool, true, false, not, ◌||◌, List, [], ◌∷◌, ◌++◌, Option, Some, None, length, map, take, drop, set, replicate, nat_eq, if◌then◌else◌, refl, sym, ap, subst, inl, inr, arith, append-nil}
use Rattle.std.proofs.lemmas.Bool.{cases_eq, cases_lt, eq-eqb, ne_eqb}
use Rattle.std.proofs.lemmas.List.Sums.{sum_by-cons, sum_by-set}
use Rattle.std.proofs.lemmas.List.{append_assoc, get_or-set_other, get_or-set_same, get_or_past, length-append, length-replicate, map-append}
use Rattle.std.specs.List.{All, count_by, flat_map, sum_by}
use Rattle.std.specs.Prelude.{cond, slice_get, slice_index, slice_index_or, sum, unwrap_or, ℤ}
use Rattle.tdf_bind_tables.specs.FlatTables.{FlatTablesOf}
use Rattle.tdf_convert.specs.declared.outputs.Sent.{Sent}
use Rattle.tdf_convert.specs.declared.outputs.Traced.{Traced}
use Rattle.tdf_dynamic_plans.specs.Attributes.{clusters_of}
use Rattle.tdf_exec.specs.Gained.{GiveAll, sent_by, sent_sample}
use Rattle.tdf_exec.specs.Made.{IsActorOf}
use Rattle.tdf_exec.specs.Played.{turns_from}
use Rattle.tdf_fixed.specs.declared.raw.Raw.{Raw}
use Rattle.tdf_bind.specs.declared.model.Flat.{Flat}
use Rattle.tdf_streams.proofs.Api.{get_inside, known_more, place_kept, reads_keep, none_some, some_same, step_keeps, done_next}
use Rattle.tdf_streams.specs.Firing.{IsNextTurn, fronts, given, processed}
use Rattle.tdf_streams.specs.Grounds.{firings}
use Rattle.tdf_streams.specs.Net.{Net, Period, Turn, count, taken}
use Rattle.tdf_streams.specs.Playing.{IsStep}
use Rattle.tdf_streams.specs.Stands.{KeepsReads, Less, Play, Stands, run_of}
use Rattle.tdf_streams.specs.Streams.{known, place}
use Rattle.tdf_graph.specs.declared.actors.Actor.{Actor}
use Rattle.tdf_graph.specs.declared.actors.Actor.TheVariants as actor
use Rattle.tdf_sim_history.specs.Instant.{activations, actor_of_entry, edge_read_from, sample_taken, signal_of}
use Rattle.tdf_sim_history.specs.World.{ClusterAt, SinkWrite}
use Rattle.tdf_exec.specs.Below.{IsEdgeOf}
use Rattle.tdf_sim_refinement.proofs.Due.{true_false}
use Rattle.tdf_sim_refinement.proofs.Sampling.{done_to, done_up, read_kept, sampler_reads}
use Rattle.tdf_sim_refinement.proofs.Arriving.{kind_inside}
use Rattle.tdf_sim_refinement.specs.At.{HaveRead, HaveTakenOne}
use Rattle.tdf_sim_refinement.specs.Firings.{actor_at_place, after_firings, reads_after, value_for, write_by, write_of, writes_after}
use Rattle.tdf_schedule.specs.Plan.{done}
use Rattle.tdf_schedule.specs.declared.entry.Entry.{Entry}
use Rattle.tdf_streams.specs.Cluster.{cluster_net, is_outside_cluster, is_sampler_kind, zero_sample}
use Rattle.tdf_streams.specs.Places.{actor_kind, reader_at}
use Rattle.tdf_streams.specs.Periods.{PeriodInfo, PeriodRecord}
use Rattle.tdf_lang_tree.specs.Pure.{PureTree}

-- a period has as many activations as its plan has entries
pub many : (es : List Entry) (xs : List ℕ) → ((m : ℕ) → count_by (λ (x : Entry). nat_eq x.actor m) es ≤ slice_index xs m) → length es ≤ sum xs
many [] xs counts = omega arith
many (x ∷ es) xs counts =
    let first = sum_by-cons (λ (y : Entry). cond {A = ℕ} (nat_eq y.actor x.actor) 1 0) x es in
    let one : cond {A = ℕ} (nat_eq x.actor x.actor) 1 0 ≡ 1 = ap (λ (o : Bool). cond {A = ℕ} o 1 0) (eq-eqb x.actor x.actor refl) in
    let here = counts x.actor in
    let inside : x.actor < length xs = elim (cases_lt x.actor (length xs)) [
      | inl below ↦ below
      | inr past ↦ (let z = get_or_past xs x.actor 0 past in absurd (omega (arith, first, one, here, z)))
    ] in
    let less = sum_by-set (λ (n : ℕ). n) xs x.actor (slice_index xs x.actor - 1) 0 inside in
    let rest = many es (set xs x.actor (slice_index xs x.actor - 1)) (λ m. elim (cases_eq x.actor m) [
      | inl same ↦ (let s = get_or-set_same xs x.actor (slice_index xs x.actor - 1) 0 inside in
          subst (λ j. count_by (λ (y : Entry). nat_eq y.actor j) es ≤ slice_index (set xs x.actor (slice_index xs x.actor - 1)) j) same (omega (arith, first, one, here, s)))
      | inr apart ↦ (let s = get_or-set_other xs x.actor m (slice_index xs x.actor - 1) 0 (λ e. apart (sym e)) in
          let c = sum_by-cons (λ (y : Entry). cond {A = ℕ} (nat_eq y.actor m) 1 0) x es in let there = counts m in omega (arith, c, there, s))
    ]) in
    omega (arith, less, rest, first, one, here)

-- the fronts of the lists that an actor reads, where it reads one edge
module _ {S V I : Type 0} (net : Net S V I) (p : Period I) (m : ℕ) (lists : List (List V)) where
  none_read : (e n : ℕ) → ((k : ℕ) → e ≤ k → k < e + n → net.reader k ≢ m) → flat_map (λ (xs : List V). xs) (fronts net p m lists e n) ≡ []
  unfolding fronts
  none_read e zero other = refl
  none_read e (suc n) other =
      ap (λ b. (if b then take (slice_index p.reads e) (slice_index_or lists e []) else []) ++ flat_map (λ (xs : List V). xs) (fronts net p m lists (e + 1) n))
      (ne_eqb (net.reader e) m (other e (omega arith) (omega arith)))
      ∙ none_read (e + 1) n (λ k low high. other k (omega (arith, low)) (omega (arith, high)))

  one_read : (edge e n : ℕ) → net.reader edge ≡ m → e ≤ edge → edge < e + n → ((k : ℕ) → e ≤ k → k < e + n → net.reader k ≡ m → k ≡ edge)
      → flat_map (λ (xs : List V). xs) (fronts net p m lists e n) ≡ take (slice_index p.reads edge) (slice_index_or lists edge [])
  unfolding fronts
  one_read edge e zero is low high only = absurd (omega (arith, low, high))
  one_read edge e (suc n) is low high only = elim (cases_eq e edge) [
    | inl same ↦
        (ap (λ b. (if b then take (slice_index p.reads e) (slice_index_or lists e []) else []) ++ flat_map (λ (xs : List V). xs) (fronts net p m lists (e + 1) n))
        (eq-eqb (net.reader e) m (ap net.reader same ∙ is))
        ∙ ap (λ l. take (slice_index p.reads e) (slice_index_or lists e []) ++ l) (none_read (e + 1) n (λ k above below reads. (let z = only k (omega (arith, above)) (omega (arith, below)) reads in absurd (omega (arith, z, above, same)))))
        ∙ append-nil (take (slice_index p.reads e) (slice_index_or lists e []))
        ∙ ap (λ k. take (slice_index p.reads k) (slice_index_or lists k [])) same)
    | inr apart ↦
        (ap (λ b. (if b then take (slice_index p.reads e) (slice_index_or lists e []) else []) ++ flat_map (λ (xs : List V). xs) (fronts net p m lists (e + 1) n))
        (ne_eqb (net.reader e) m (λ reads. apart (only e (omega arith) (omega arith) reads)))
        ∙ one_read edge (e + 1) n is (omega (arith, low, apart)) (omega (arith, high)) (λ k above below reads. only k (omega (arith, above)) (omega (arith, below)) reads))
  ]

-- the edge of a sink
edge_is : (tables : FlatTablesOf) (m edge e n : ℕ) → reader_at tables.edges edge ≡ m → e ≤ edge → edge < e + n → ((k : ℕ) → e ≤ k → k < e + n → reader_at tables.edges k ≡ m → k ≡ edge)
    → edge_read_from tables m e n ≡ edge
unfolding edge_read_from
edge_is tables m edge e zero is low high only = absurd (omega (arith, low, high))
edge_is tables m edge e (suc n) is low high only = elim (cases_eq e edge) [
  | inl same ↦ (ap (λ b. if b then e else edge_read_from tables m (e + 1) n) (eq-eqb (reader_at tables.edges e) m (ap (reader_at tables.edges) same ∙ is)) ∙ same)
  | inr apart ↦ (ap (λ b. if b then e else edge_read_from tables m (e + 1) n) (ne_eqb (reader_at tables.edges e) m (λ reads. apart (only e (omega arith) (omega arith) reads)))
      ∙ edge_is tables m edge (e + 1) n is (omega (arith, low, apart)) (omega (arith, high)) (λ k above below reads. only k (omega (arith, above)) (omega (arith, below)) reads))
]

take_one : {A : Type 0} (xs : List A) (x : A) → slice_get xs 0 ≡ Some x → take 1 xs ≡ x ∷ []
take_one [] x at = none_some x at
take_one (y ∷ ys) x at = ap (λ z. z ∷ []) (some_same y x at)

-- samples taken in periods in each of which an activation takes one
taken_one : (m e : ℕ) (old : List PeriodRecord) → All (λ (p : PeriodRecord). slice_index p.reads e ≡ 1) old → sum_by (λ (p : PeriodRecord). slice_index p.counts m * slice_index p.reads e) old ≡ sum_by (count m) old
taken_one m e [] ones = refl
taken_one m e (p ∷ old) ones =
    let a = sum_by-cons (λ (q : PeriodRecord). slice_index q.counts m * slice_index q.reads e) p old in
    let b = sum_by-cons (count m) p old in
    let r = taken_one m e old (λ k d below. ones (suc k) d (omega (arith, below))) in
    let one : slice_index p.counts m * slice_index p.reads e ≡ slice_index p.counts m = rw (ones 0 p (omega arith)) (omega arith) in
    omega (arith, a, b, r, one)

pub drop_at : {A : Type 0} (i : ℕ) (xs : List A) (x : A) → slice_get xs i ≡ Some x → drop i xs ≡ x ∷ drop (i + 1) xs
drop_at i [] x at = none_some x at
drop_at zero (y ∷ ys) x at = ap (λ z. z ∷ ys) (some_same y x at)
drop_at (suc i) (y ∷ ys) x at = let e : suc i + 1 ≡ suc (i + 1) = omega arith in drop_at i ys x at ∙ ap (λ j. x ∷ drop j (y ∷ ys)) (sym e)

-- an actor of the cluster whose values come from outside is a sampler
sampler_kind : (o : Option Actor) → (is_sampler_kind o || false) ≡ true → o ≡ Some actor.Sampler
sampler_kind None is = absurd (true_false (sym is))
sampler_kind (Some actor.Module) is = absurd (true_false (sym is))
sampler_kind (Some actor.Sampler) is = refl
sampler_kind (Some actor.Sink) is = absurd (true_false (sym is))

outside_sampler : (tables : FlatTablesOf) (number m : ℕ) → slice_index (clusters_of tables) m ≡ number → is_outside_cluster tables number m ≡ true → actor_kind tables m ≡ Some actor.Sampler
outside_sampler tables number m own is = sampler_kind (actor_kind tables m)
    (ap (λ b. is_sampler_kind (actor_kind tables m) || not b) (sym (eq-eqb (slice_index (clusters_of tables) m) number own)) ∙ is)

module _ (model : PureTree) (flat : Flat) (number : ℕ) (values : List Raw) (h : ClusterAt) (k : ℕ) (within : h.place + k ≤ length h.entries) (started : h.from ≤ h.place) (have_read : HaveRead flat.tables number h) where
  abbrev pub net : Net (List ℤ) Raw PeriodInfo
  net = cluster_net model flat number h.begun

  abbrev pub read_at : ℕ → ℕ → List Raw
  read_at j m = slice_index_or (reads_after flat.tables values h j) m []

  keeps_more : (j d : ℕ) → KeepsReads (read_at j) (read_at (d + j))
  unfolding reads_after
  keeps_more j zero m n x at = let e : j ≡ 0 + j = omega arith in subst (λ i. slice_get (read_at i m) n ≡ Some x) e at
  keeps_more j (suc d) m n x at = let e : suc (d + j) ≡ suc d + j = omega arith in
      subst (λ i. slice_get (read_at i m) n ≡ Some x) e
      (read_kept flat.tables values (actor_at_place h (d + j)) m n x (actor_kind flat.tables (actor_at_place h (d + j))) (reads_after flat.tables values h (d + j)) (keeps_more j d m n x at))

  pub keeps_to : (j i : ℕ) → j ≤ i → KeepsReads (read_at j) (read_at i)
  keeps_to j i low = let e : i - j + j ≡ i = omega (arith, low) in subst (λ n. KeepsReads (read_at j) (read_at n)) e (keeps_more j (i - j))

  -- what was done before the start is not counted
  pub from_done : (j m : ℕ) → j ≤ k → (done h.entries h.from m ≤ done h.entries h.place m) × (done h.entries h.place m ≤ done h.entries (h.place + j) m)
  from_done j m low = (done_to h.entries m h.from h.place started (omega (arith, within)), done_up h.entries m h.place j (omega (arith, within, low)))

  read_count : (j m : ℕ) → j ≤ k → IsActorOf flat.tables number m actor.Sampler → length (read_at j m) ≡ sum_by (count m) h.old + (done h.entries (h.place + j) m - done h.entries h.from m)
  read_count j m low is =
      let here = have_read.same in let inside = kind_inside flat.tables.actors m actor.Sampler is.kind_is in
      let l = ap length (sampler_reads flat.tables values h m is.kind_is (omega (arith, here, inside)) j (omega (arith, within, low)))
      ∙ length-append (slice_index_or h.reads m []) (replicate (turns_from h.entries h.place (h.place + j) m) (value_for flat.tables values m)) in
      let r = length-replicate (turns_from h.entries h.place (h.place + j) m) (value_for flat.tables values m) in
      let o = have_read.samplers m is in let u = from_done j m low in omega (arith, l, r, o, u.0, u.1)

  -- a step by the values that are there at the end is one by those that are there just after it
  module _ (j : ℕ) (less : j < k) (x : Entry) (at : slice_get h.entries (h.place + j) ≡ Some x) (own : slice_index (clusters_of flat.tables) x.actor ≡ number) (y : Play (List ℤ) Raw)
      (turn_is : slice_index y.turns x.actor ≡ done h.entries (h.place + j) x.actor - done h.entries h.from x.actor) where
    shorten : (t : Turn (List ℤ) Raw) → IsNextTurn net h.old h.now (read_at k) x.actor y t → IsNextTurn net h.old h.now (read_at (suc j)) x.actor y t
    shorten t (given v is there t_is) =
        let sampler : IsActorOf flat.tables number x.actor actor.Sampler = record { kind_is = outside_sampler flat.tables number x.actor own is; inside = own } in
        let long = read_count (suc j) x.actor (omega (arith, less)) sampler in
        let next = done_next h.entries (h.place + j) x.actor x at in
        let one = ap {B = ℕ} (λ (b : Bool). if b then 1 else 0) (eq-eqb x.actor x.actor refl) in
        let e : h.place + j + 1 ≡ h.place + suc j = omega arith in let z = ap (λ i. done h.entries i x.actor) e in
        let up = from_done j x.actor (omega (arith, less)) in
        let u = get_inside (read_at (suc j) x.actor) (sum_by (count x.actor) h.old + slice_index y.turns x.actor) (omega (arith, long, next, one, z, turn_is, up.0, up.1)) in
        let same = some_same u.0 v (sym (keeps_to (suc j) k (omega (arith, less)) x.actor (sum_by (count x.actor) h.old + slice_index y.turns x.actor) u.0 u.1) ∙ there) in
        given v is (u.1 ∙ ap Some same) t_is
    shorten t (processed s plain there t_is) = processed s plain there t_is

  -- a sink of the cluster, with its edge, and the sample that it takes
  module _ (j f : ℕ) (y : Play (List ℤ) Raw) (m edge : ℕ) (one : IsEdgeOf flat.tables m edge) (rate : slice_index h.now.reads edge ≡ 1)
      (ones : All (λ (p : PeriodRecord). slice_index p.reads edge ≡ 1) h.old) (stands : Stands net h.old h.now (read_at j) f y)
      (enough : f ≤ firings (h.old ++ h.now ∷ [])) (turn_is : slice_index y.turns m ≡ done h.entries (h.place + j) m - done h.entries h.from m)
      (present : slice_index h.now.reads edge ≤ length (slice_index_or y.lists edge [])) where
    abbrev list : List Raw
    list = slice_index_or y.lists edge []

    first : (v : Raw) × (slice_get list 0 ≡ Some v)
    first = get_inside list 0 (omega (arith, present, rate))

    only_here : (e : ℕ) → 0 ≤ e → e < 0 + length flat.tables.edges → reader_at flat.tables.edges e ≡ m → e ≡ edge
    only_here e low high is = one.only e (record { inside = omega (arith, high); reader = is })

    fronts_are : flat_map (λ (xs : List Raw). xs) (fronts net h.now m y.lists 0 (length flat.tables.edges)) ≡ first.0 ∷ []
    fronts_are = let i = one.is.inside in
        one_read net h.now m y.lists edge 0 (length flat.tables.edges) one.is.reader (omega arith) (omega (arith, i)) only_here
        ∙ ap (λ n. take n list) rate ∙ take_one list first.0 first.1

    index_is : sum_by (taken net edge) h.old + slice_index y.turns (reader_at flat.tables.edges edge) * slice_index h.now.reads edge + 0 ≡ activations (after_firings flat.tables values h j) m
    index_is =
        let a = ap (λ r. sum_by (λ (p : PeriodRecord). slice_index p.counts r * slice_index p.reads edge) h.old) one.is.reader ∙ taken_one m edge h.old ones in
        let b = ap (λ r. slice_index y.turns r * slice_index h.now.reads edge) one.is.reader ∙ ap (λ q. slice_index y.turns m * q) rate in
        omega (arith, a, b, turn_is)

    run_less : Less (known net (run_of h.old h.now (read_at j)) f) (known net (run_of h.old h.now (read_at j)) (firings (h.old ++ h.now ∷ [])))
    run_less = let e : firings (h.old ++ h.now ∷ []) - f + f ≡ firings (h.old ++ h.now ∷ []) = omega (arith, enough) in
        subst (λ n. Less (known net (run_of h.old h.now (read_at j)) f) (known net (run_of h.old h.now (read_at j)) n)) e
        (known_more net (run_of h.old h.now (read_at j)) (run_of h.old h.now (read_at j)) (record { rest = []; periods = sym (append-nil (h.old ++ h.now ∷ [])); reads = λ i n x at. at }) f
        (firings (h.old ++ h.now ∷ []) - f))

    sample_is : sample_taken model flat number (after_firings flat.tables values h j) m ≡ first.0
    sample_is =
        let i = one.is.inside in
        let edge_same = edge_is flat.tables m edge 0 (length flat.tables.edges) one.is.reader (omega arith) (omega (arith, i)) only_here in
        let placed = place_kept net (h.old ++ h.now ∷ []) (known net (run_of h.old h.now (read_at j)) f) (known net (run_of h.old h.now (read_at j)) (firings (h.old ++ h.now ∷ []))) run_less edge
        (sum_by (taken net edge) h.old + slice_index y.turns (reader_at flat.tables.edges edge) * slice_index h.now.reads edge + 0) first.0
        ((stands.lists edge i).items 0 first.0 first.1) in
        ap (λ e. unwrap_or (place net (h.old ++ h.now ∷ []) (known net (run_of h.old h.now (read_at j)) (firings (h.old ++ h.now ∷ []))) e (activations (after_firings flat.tables values h j) m)) zero_sample) edge_same
        ∙ ap (λ n. unwrap_or (place net (h.old ++ h.now ∷ []) (known net (run_of h.old h.now (read_at j)) (firings (h.old ++ h.now ∷ []))) edge n) zero_sample) (sym index_is)
        ∙ ap (λ o. unwrap_or o zero_sample) placed

    sink_writes : write_by model flat number (after_firings flat.tables values h j) m (Some actor.Sink)
        ≡ map (write_of flat.tables) (sent_by (Some actor.Sink) m (fronts net h.now m y.lists 0 (length flat.tables.edges)))
    sink_writes = ap (λ (v : Raw). record { signal = signal_of flat.tables m; value = v } ∷ []) sample_is
        ∙ ap (λ l. map (write_of flat.tables) (map (sent_sample m) l)) (sym fronts_are)

  abbrev pub actors : (n i : ℕ) → List ℕ
  actors n i = map (λ (x : Entry). x.actor) (take n (drop i h.entries))

  abbrev pub HasTurns : ℕ → Play (List ℤ) Raw → Type 0
  HasTurns j y = (m : ℕ) → m < length flat.tables.actors → slice_index y.turns m ≡ done h.entries (h.place + j) m - done h.entries h.from m

  -- a firing leads from what stands after j entries to what stands after one more
  module _ (j f : ℕ) (less : j < k) (x : Entry) (at : slice_get h.entries (h.place + j) ≡ Some x) (own : slice_index (clusters_of flat.tables) x.actor ≡ number) (inside : x.actor < length flat.tables.actors)
      (y mid : Play (List ℤ) Raw) (stands : Stands net h.old h.now (read_at j) (j + f) y) (turns : HasTurns j y) (step : IsStep net h.old h.now (read_at k) x.actor y mid) where
    pub here_stands : Stands net h.old h.now (read_at (suc j)) (j + f) y
    here_stands = reads_keep net h.old h.now (read_at j) (read_at (suc j)) (j + f) y (keeps_to j (suc j) (omega arith)) stands

    pub here_next : IsNextTurn net h.old h.now (read_at (suc j)) x.actor y step.turn
    here_next = shorten j less x at own y (turns x.actor inside) step.turn step.next

    here_step : IsStep net h.old h.now (read_at (suc j)) x.actor y mid
    here_step = record { turn = step.turn; left = step.left; present = step.present; next = here_next; flows = step.flows }

    pub stands_next : Stands net h.old h.now (read_at (suc j)) (suc j + f) mid
    stands_next = let e : suc (j + f) ≡ suc j + f = omega arith in
        subst (λ n. Stands net h.old h.now (read_at (suc j)) n mid) e
        (step_keeps net h.old h.now (read_at (suc j)) (j + f) x.actor y mid here_stands here_step)

    pub turns_next : HasTurns (suc j) mid
    turns_next m low =
        let next = done_next h.entries (h.place + j) m x at in
        let e : h.place + j + 1 ≡ h.place + suc j = omega arith in let z = ap (λ i. done h.entries i m) e in
        let before = turns m low in
        let up = from_done j m (omega (arith, less)) in
        elim (cases_eq x.actor m) [
          | inl same ↦ (let one = ap {B = ℕ} (λ (b : Bool). if b then 1 else 0) (eq-eqb x.actor m same) in
              let turn = subst (λ i. slice_index mid.turns i ≡ slice_index y.turns i + 1) same step.flows.turn in omega (arith, next, z, before, one, turn, up.0, up.1))
          | inr apart ↦ (let none = ap {B = ℕ} (λ (b : Bool). if b then 1 else 0) (ne_eqb x.actor m apart) in
              let turn = step.flows.other_turns m (λ q. apart (sym q)) in omega (arith, next, z, before, none, turn, up.0, up.1))
        ]

  -- all firings, one after the other
  module _ (own : (i : ℕ) (x : Entry) → slice_get h.entries i ≡ Some x → slice_index (clusters_of flat.tables) x.actor ≡ number)
      (known_actor : (i : ℕ) (x : Entry) → slice_get h.entries i ≡ Some x → x.actor < length flat.tables.actors)
      (sink_edge : (m : ℕ) → IsActorOf flat.tables number m actor.Sink → (e : ℕ) × IsEdgeOf flat.tables m e × (slice_index h.now.reads e ≡ 1))
      (ones : HaveTakenOne flat.tables number h) (f : ℕ) (enough : k + f ≤ firings (h.old ++ h.now ∷ [])) where
    module _ (j : ℕ) (less : j < k) (x : Entry) (at : slice_get h.entries (h.place + j) ≡ Some x) (y mid : Play (List ℤ) Raw) (stands : Stands net h.old h.now (read_at j) (j + f) y) (turns : HasTurns j y)
        (step : IsStep net h.old h.now (read_at k) x.actor y mid) where
      by_kind : (o : Option Actor) → actor_kind flat.tables x.actor ≡ o
          → write_by model flat number (after_firings flat.tables values h j) x.actor o ≡ map (write_of flat.tables) (sent_by o x.actor (fronts net h.now x.actor y.lists 0 (length flat.tables.edges)))
      by_kind None is = refl
      by_kind (Some actor.Module) is = refl
      by_kind (Some actor.Sampler) is = refl
      by_kind (Some actor.Sink) is =
          let sink : IsActorOf flat.tables number x.actor actor.Sink = record { kind_is = is; inside = own (h.place + j) x at } in
          let edge = sink_edge x.actor sink in
          sink_writes j (j + f) y x.actor edge.0 edge.1 edge.2 (ones.each x.actor edge.0 sink edge.1.is) stands (omega (arith, enough, less)) (turns x.actor (known_actor (h.place + j) x at))
          (step.present edge.0 edge.1.is.inside edge.1.is.reader)

    abbrev pub wrote : ℕ → List SinkWrite
    wrote j = writes_after model flat values number h j

    wrote_next : (j : ℕ) (x : Entry) → slice_get h.entries (h.place + j) ≡ Some x
        → wrote (suc j) ≡ wrote j ++ write_by model flat number (after_firings flat.tables values h j) x.actor (actor_kind flat.tables x.actor)
    unfolding writes_after
    wrote_next j x at = ap (λ a. writes_after model flat values number h j ++ write_by model flat number (after_firings flat.tables values h j) a (actor_kind flat.tables a)) (ap actor_of_entry at)

    pub walk : (n j : ℕ) → j + n ≡ k → (y z : Play (List ℤ) Raw) (sent : List Sent) (traced : List Traced) → Stands net h.old h.now (read_at j) (j + f) y → HasTurns j y
        → GiveAll flat net h.old h.now (read_at k) (actors n (h.place + j)) y z sent traced → wrote k ≡ wrote j ++ map (write_of flat.tables) sent
    unfolding GiveAll
    walk zero j e y z sent traced stands turns g = let same : k ≡ j = omega (arith, e) in
        ap wrote same ∙ sym (append-nil (wrote j)) ∙ ap (λ l. wrote j ++ map (write_of flat.tables) l) (sym g.1)
    walk (suc n) j e y z sent traced stands turns g =
        let less : j < k = omega (arith, e) in
        let x = get_inside h.entries (h.place + j) (omega (arith, within, less)) in
        let place_next : h.place + j + 1 ≡ h.place + suc j = omega arith in
        let list_is : actors (suc n) (h.place + j) ≡ x.0.actor ∷ actors n (h.place + suc j) =
        ap (λ l. map (λ (i : Entry). i.actor) (take (suc n) l)) (drop_at (h.place + j) h.entries x.0 x.1) ∙ ap (λ i. x.0.actor ∷ actors n i) place_next in
        let all : GiveAll flat net h.old h.now (read_at k) (x.0.actor ∷ actors n (h.place + suc j)) y z sent traced =
        subst (λ l. GiveAll flat net h.old h.now (read_at k) l y z sent traced) list_is g in
        let here = by_kind j less x.0 x.1 y all.0 stands turns all.5.step (actor_kind flat.tables x.0.actor) refl ∙ ap (map (write_of flat.tables)) (sym all.5.sent_is) in
        let rest = walk n (suc j) (omega (arith, e)) all.0 z all.3 all.4 (stands_next j f less x.0 x.1 (own (h.place + j) x.0 x.1) (known_actor (h.place + j) x.0 x.1) y all.0 stands turns all.5.step)
        (turns_next j f less x.0 x.1 (own (h.place + j) x.0 x.1) (known_actor (h.place + j) x.0 x.1) y all.0 stands turns all.5.step) all.6 in
        rest
        ∙ ap (λ l. l ++ map (write_of flat.tables) all.3) (wrote_next j x.0 x.1 ∙ ap (λ l. wrote j ++ l) here)
        ∙ append_assoc (wrote j) (map (write_of flat.tables) all.1) (map (write_of flat.tables) all.3)
        ∙ ap (λ l. wrote j ++ l) (sym (map-append (write_of flat.tables) all.1 all.3))
        ∙ ap (λ l. wrote j ++ map (write_of flat.tables) l) (sym all.7)
