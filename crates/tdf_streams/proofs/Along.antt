-- Along the plan of a period: the samples that a firing reads are there, and those that it writes have room.
use Rattle.std.proofs.Common.{◌≡◌, ◌∙◌, ℕ, zero, suc, ◌+◌, ◌*◌, ◌<◌, ◌≤◌, Bool, true, Some, if◌then◌else◌, nat_eq, List, [], ◌∷◌, length, take, slice_get, slice_index, slice_index_or, refl, ap, sym, subst, inl, inr, arith}
use Rattle.std.proofs.lemmas.Bool.{cases_eq, cases_lt, eq-eqb, le-ltb, ne_eqb}
use Rattle.std.proofs.lemmas.List.Sums.{sum_by-cons, sum_by_more}
use Rattle.std.proofs.lemmas.Option.{get_or_from_slice_get, slice_get_within}
use Rattle.std.specs.Prelude.{All, cond, count_by}
use Rattle.tdf_dynamic_first.proofs.Api.{net_fit}
use Rattle.tdf_dynamic_plans.specs.Attributes.{clusters_of}
use Rattle.tdf_fixed.specs.declared.raw.Raw.{Raw}
use Rattle.tdf_bind_invariants.specs.Below.{Flat}
use Rattle.tdf_streams.proofs.Lists.{some_same}
use Rattle.tdf_streams.specs.Firing.{IsPresent}
use Rattle.tdf_streams.specs.Stands.{Stands}
use Rattle.tdf_graph.specs.Ranges.{IsEdge}
use Rattle.tdf_graph.specs.declared.actors.Edge.{Edge}
use Rattle.tdf_bind_invariants.specs.Limits.{AreWithinLimits}
use Rattle.tdf_schedule.specs.Laws.{IsPresent as IsPlanPresent, PlansArePresent}
use Rattle.tdf_schedule.specs.Plan.{HasPlan, IsPlan, done, is_firing}
use Rattle.tdf_schedule.specs.declared.entry.Entry.{Entry}
use Rattle.tdf_schedule.specs.declared.entry.Plan.{Plan}
use Rattle.tdf_streams.proofs.Edges.{EdgeIn, are_rates, edge_in, held_own, is_wired, one_cluster, rated}
use Rattle.tdf_streams.proofs.Orders.{list_counts}
use Rattle.tdf_streams.proofs.Rows.{at_contains}
use Rattle.tdf_streams.specs.Cluster.{Start, cluster_net}
use Rattle.tdf_streams.specs.Laws.{ClusterPlay}
use Rattle.tdf_streams.specs.Periods.{IsTimedRecord, PeriodRecord, done_before, net_in}
use Rattle.tdf_streams.specs.Places.{reader_at, reader_of_row, writer_at, writer_of_row}
use Rattle.tdf_streams.specs.Starts.{ArePast, held_at_head}
use Rattle.tdf_lang_tree.specs.Pure.{PureTree}

-- one that passes is counted
counted : {X : Type 0} (p : X → Bool) (xs : List X) (i : ℕ) (x : X) → slice_get xs i ≡ Some x → p x ≡ true → 0 < count_by p xs
counted p [] i x at passes = absurd cc
counted {X} p (y ∷ xs) zero x at passes = let s : count_by p (y ∷ xs) ≡ weight (p y) + count_by p xs = sum_by-cons (λ z. cond (p z) 1 0) y xs in
    let one : weight (p y) ≡ 1 = ap weight (ap p (some_same y x at) ∙ passes) in omega (arith, s, one)
  where
    weight : Bool → ℕ
    weight b = cond b 1 0
counted p (y ∷ xs) (suc i) x at passes = let s = sum_by-cons (λ z. cond (p z) 1 0) y xs in let rest = counted p xs i x at passes in omega (arith, s, rest)

-- the firings done, with one entry more
pub done_next : (entries : List Entry) (i m : ℕ) (x : Entry) → slice_get entries i ≡ Some x → done entries (i + 1) m ≡ done entries i m + (if nat_eq x.actor m then 1 else 0)
unfolding done
done_next entries i m x at = sum_by_more (λ (y : Entry). cond (nat_eq y.actor m) 1 0) entries i x (slice_get_within entries i x at)
    ∙ ap (λ (y : Entry). count_by (λ (z : Entry). nat_eq z.actor m) (take i entries) + (if nat_eq y.actor m then 1 else 0)) (get_or_from_slice_get entries i x x at)

module _ (edges : List Edge) (pace : ℕ → ℕ) (counts : List ℕ) (entries : List Entry) (plan : IsPlan edges pace counts entries) where
  -- an entry is a firing of the period
  pub entry_active : (i : ℕ) (x : Entry) → slice_get entries i ≡ Some x → x.index < slice_index counts x.actor
  entry_active i x at = elim (cases_lt x.index (slice_index counts x.actor)) [
    | inl inside ↦ inside
    | inr past ↦ absurd (let none : count_by (is_firing x.actor x.index) entries ≡ 0 = plan.complete x.actor x.index ∙ ap (λ (b : Bool). if b then 1 else 0) (le-ltb x.index (slice_index counts x.actor) past) in
        let some = counted (is_firing x.actor x.index) entries i x at (rw (eq-eqb x.actor x.actor refl, eq-eqb x.index x.index refl) refl) in omega (arith, none, some))
  ]

module _ (flat : Flat) (cluster : ℕ) (limits : AreWithinLimits flat) (p : PeriodRecord) (timed : IsTimedRecord flat cluster p) where
  -- what holds along each plan holds along the plan of the period
  pub record_present : PlansArePresent → (pace : ℕ → ℕ) (entries : List Entry) → IsPlan (net_in flat.tables p).edges pace p.info.counts entries
      → IsPlanPresent (net_in flat.tables p).edges p.info.counts entries
  record_present law pace entries plan = law (net_in flat.tables p).edges pace p.info.counts entries
      (subst (λ n. All (IsEdge n) (net_in flat.tables p).edges) (sym timed.counts_are.long) (net_fit flat.tables p.info.table (is_wired flat limits) (are_rates flat limits p.info.table timed.attributes.allowed)))
      timed.counts_are.balanced plan

  -- before an entry each edge into its actor has the samples of a firing
  pub present_at : (entries : List Entry) → IsPlanPresent (net_in flat.tables p).edges p.info.counts entries → (i : ℕ) (x : Entry) → slice_get entries i ≡ Some x
      → slice_index (clusters_of flat.tables) x.actor ≡ cluster → (e : ℕ) → e < length flat.tables.edges → reader_at flat.tables.edges e ≡ x.actor
      → done entries i (reader_at flat.tables.edges e) * slice_index p.reads e + slice_index p.reads e
      ≤ held_at_head flat.tables cluster e + done entries i (writer_at flat.tables.edges e) * slice_index p.writes e
  present_at entries plan i x at inside e within reads =
      rw (held_own flat limits cluster e here.edge here.at own, ap reader_of_row here.at, ap writer_of_row here.at, here.reads, here.writes)
      (plan.present i x (rated flat limits cluster p timed here.edge) at (at_contains (net_in flat.tables p).edges e (rated flat limits cluster p timed here.edge) here.net_edge_at) reader)
    where
      here : EdgeIn flat limits cluster p timed e
      here = edge_in flat limits cluster p timed e within

      reader : here.edge.reader ≡ x.actor
      reader = ap reader_of_row (sym here.at) ∙ reads

      own : slice_index (clusters_of flat.tables) here.edge.writer ≡ cluster
      own = one_cluster flat limits e here.edge here.at ∙ ap (slice_index (clusters_of flat.tables)) reader ∙ inside

  -- after each entry an edge of the cluster holds no more than its bound
  pub bound_at : (pace : ℕ → ℕ) (plan : Plan) → HasPlan (net_in flat.tables p).edges pace p.info.counts p.info.period plan → (h : ℕ) → h ≤ length plan.entries.items
      → (e : ℕ) → e < length flat.tables.edges → slice_index (clusters_of flat.tables) (writer_at flat.tables.edges e) ≡ cluster
      → held_at_head flat.tables cluster e + done plan.entries.items h (writer_at flat.tables.edges e) * slice_index p.writes e
      ≤ slice_index plan.bounds.items e + done plan.entries.items h (reader_at flat.tables.edges e) * slice_index p.reads e
  bound_at pace plan has h below e within inside =
      rw (held_own flat limits cluster e here.edge here.at own, ap reader_of_row here.at, ap writer_of_row here.at, here.reads, here.writes)
      ((has.bounded e (rated flat limits cluster p timed here.edge) here.net_edge_at (timed.counts_are.positive here.edge.writer here.fits.writer own)).most h below)
    where
      here : EdgeIn flat limits cluster p timed e
      here = edge_in flat limits cluster p timed e within

      own : slice_index (clusters_of flat.tables) here.edge.writer ≡ cluster
      own = ap (λ o. slice_index (clusters_of flat.tables) (writer_of_row o)) (sym here.at) ∙ inside

  -- a cluster in progress, with the entries before place i done
  module _ (model : PureTree) (start : Start) (old : List PeriodRecord) (reads : ℕ → List Raw) (f : ℕ) (y : ClusterPlay) (past : ArePast flat cluster start old p)
      (stands : Stands (cluster_net model flat cluster start) old p reads f y) (plan : Plan) (i : ℕ)
      (turns : (m : ℕ) → done_before p m + slice_index y.turns m ≡ done plan.entries.items i m) where
    -- what a list holds
    pub list_along : (e : ℕ) → e < length flat.tables.edges
        → length (slice_index_or y.lists e []) + done plan.entries.items i (reader_at flat.tables.edges e) * slice_index p.reads e
        ≡ held_at_head flat.tables cluster e + done plan.entries.items i (writer_at flat.tables.edges e) * slice_index p.writes e
    list_along e within =
        let c = list_counts model flat cluster start limits old p reads f y past stands e within in
        let r = ap (λ n. n * slice_index p.reads e) (turns (reader_at flat.tables.edges e)) in let w = ap (λ n. n * slice_index p.writes e) (turns (writer_at flat.tables.edges e)) in omega (arith, c, r, w)

    -- the samples of the next firing are there
    pub plan_present : IsPlanPresent (net_in flat.tables p).edges p.info.counts plan.entries.items → (x : Entry) → slice_get plan.entries.items i ≡ Some x
        → slice_index (clusters_of flat.tables) x.actor ≡ cluster → IsPresent (cluster_net model flat cluster start) p x.actor y
    plan_present present x at inside e within reader =
        let l = list_along e within in let here = present_at plan.entries.items present i x at inside e within reader in omega (arith, l, here)

    -- no list is longer than the bound of its edge
    pub list_within : (pace : ℕ → ℕ) → HasPlan (net_in flat.tables p).edges pace p.info.counts p.info.period plan → i ≤ length plan.entries.items
        → (e : ℕ) → e < length flat.tables.edges → slice_index (clusters_of flat.tables) (writer_at flat.tables.edges e) ≡ cluster
        → length (slice_index_or y.lists e []) ≤ slice_index plan.bounds.items e
    list_within pace has below e within inside = let l = list_along e within in let b = bound_at pace plan has i below e within inside in omega (arith, l, b)

    -- and the samples that the next firing writes have room, once it has taken those that it reads
    pub room_at : (pace : ℕ → ℕ) → HasPlan (net_in flat.tables p).edges pace p.info.counts p.info.period plan → (x : Entry) → slice_get plan.entries.items i ≡ Some x
        → (e : ℕ) → e < length flat.tables.edges → slice_index (clusters_of flat.tables) x.actor ≡ cluster → writer_at flat.tables.edges e ≡ x.actor
        → length (slice_index_or y.lists e []) + slice_index p.writes e
        ≤ slice_index plan.bounds.items e + (if nat_eq (reader_at flat.tables.edges e) x.actor then slice_index p.reads e else 0)
    room_at pace has x at e within inside writes =
        let l = list_along e within in
        let b = bound_at pace plan has (i + 1) (let below = slice_get_within plan.entries.items i x at in omega (arith, below)) e within (ap (slice_index (clusters_of flat.tables)) writes ∙ inside) in
        let w = more (writer_at flat.tables.edges e) (slice_index p.writes e) writes in
        elim (cases_eq (reader_at flat.tables.edges e) x.actor) [
          | inl same ↦ rw (eq-eqb (reader_at flat.tables.edges e) x.actor same) (let r = more (reader_at flat.tables.edges e) (slice_index p.reads e) same in omega (arith, l, b, w, r))
          | inr apart ↦ rw (ne_eqb (reader_at flat.tables.edges e) x.actor apart)
              (let r : done plan.entries.items (i + 1) (reader_at flat.tables.edges e) * slice_index p.reads e ≡ done plan.entries.items i (reader_at flat.tables.edges e) * slice_index p.reads e = ap (λ n. n * slice_index p.reads e)
              (done_next plan.entries.items i (reader_at flat.tables.edges e) x at ∙ rw (ne_eqb x.actor (reader_at flat.tables.edges e) (λ q. apart (sym q))) (omega arith)) in omega (arith, l, b, w, r))
        ]
      where
        more : (m k : ℕ) → m ≡ x.actor → done plan.entries.items (i + 1) m * k ≡ done plan.entries.items i m * k + k
        more m k same =
            let one : done plan.entries.items (i + 1) m ≡ done plan.entries.items i m + 1 = done_next plan.entries.items i m x at ∙ rw (eq-eqb x.actor m (sym same)) refl in
            ap (λ n. n * k) one ∙ grind arith
