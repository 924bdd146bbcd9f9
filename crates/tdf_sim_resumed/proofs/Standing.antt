-- Clusters that go on from states stand where the world that a snapshot says has them.
use Rattle.std.proofs.Common.{◌≡◌, ◌∙◌, ℕ, zero, suc, ◌+◌, ◌-◌, ◌*◌, ◌<◌, ◌≤◌, List, [], ◌∷◌, Some, length, map, replicate, inl, inr, refl, sym, ap, subst, arith}
use Rattle.std.proofs.lemmas.Bool.{cases_eq, eq-eqb, ne_eqb}
use Rattle.std.proofs.lemmas.List.{length-map, length-replicate}
use Rattle.std.proofs.lemmas.List.Elements.{All-nil}
use Rattle.std.proofs.lemmas.List.FromFn.{length-enumerate_from, length-map-range_with_len}
use Rattle.std.proofs.lemmas.Option.{get_or_from_slice_get, slice_get-map}
use Rattle.std.proofs.lemmas.Slice.Zip.{length-zip}
use Rattle.std.specs.List.{enumerate_from, range_with_len, zip}
use Rattle.std.specs.Option.{option_map}
use Rattle.std.specs.Prelude.{◌≢◌, ◌⊎◌, slice_get, slice_index, slice_index_or, if◌then◌else◌, unwrap_or}
use Rattle.tdf_bind.specs.declared.model.Flat.{Flat}
use Rattle.tdf_dynamic_first.specs.declared.first.First.{First}
use Rattle.tdf_dynamic_plans.proofs.Api.{plan_same}
use Rattle.tdf_dynamic_plans.specs.Attributes.{AttrsOf, IsOfCluster, attrs_at, rates_in}
use Rattle.tdf_dynamic_plans.specs.Known.{HasSameItems}
use Rattle.tdf_dynamic_plans.specs.Rates.{net_of}
use Rattle.tdf_sim_refinement.specs.Below.{ClusterOf, HoldEdges, IsInPeriod, IsPeriodOf, IsStateStart, IsStateUnder, due_before, held_by_state, play_of}
use Rattle.tdf_expr.specs.Checked.{IsCheckedOf}
use Rattle.tdf_fixed.specs.declared.raw.Raw.{Raw}
use Rattle.tdf_lang_tree.specs.Pure.{PureTree}
use Rattle.tdf_rings.specs.Carried.{ring_at}
use Rattle.tdf_saved.specs.State.{ClusterStateOf, ModuleStateOf}
use Rattle.tdf_schedule.specs.Plan.{done}
use Rattle.tdf_schedule.specs.declared.entry.Entry.{Entry}
use Rattle.tdf_sim_history.specs.Continuing.{HasToldCounts, HasWholePlan}
use Rattle.tdf_sim_history.specs.World.{ClusterAt}
use Rattle.tdf_sim_refinement.specs.At.{HaveRead, IsAt}
use Rattle.tdf_sim_resumed.specs.MadeLaws.{ClustersStandThere, StandsWhereSaid, StateSaysStart}
use Rattle.tdf_sim_resumed.specs.Made.{GoesOnFromState, IsUnderPlan}
use Rattle.tdf_sim_resumed.proofs.Good.{plan_whole, whole_is}
use Rattle.tdf_sim_resumed.proofs.Members.{each_at, resumed_at}
use Rattle.tdf_sim_resumed.specs.Restored.{kept_by_state, list_for, state_start}
use Rattle.tdf_sim_resumed.specs.Resuming.{place_before, resumed_cluster, resumed_clusters, whole_period}
use Rattle.tdf_streams.proofs.Api.{get_made_at, none_some, some_same}
use Rattle.tdf_streams.specs.Bodies.{initialized}
use Rattle.tdf_streams.specs.Cluster.{cluster_net}
use Rattle.tdf_streams.specs.Periods.{IsPeriodRecord, IsWholeRecord, done_before, read_rates, write_rates}
use Rattle.tdf_streams.specs.Places.{reader_at, writer_at}
use Rattle.tdf_streams.specs.Stands.{Stands}
use Rattle.tdf_streams.specs.Starts.{HasLists, held_at_head}

-- ---- the start that a state says

module _ {X : Type 0} where
  past_end : (xs : List X) (d : X) (m : ℕ) → length xs ≤ m → slice_index_or xs m d ≡ d
  past_end [] d m past = refl
  past_end (x ∷ xs) d zero past = absurd (omega (arith, past))
  past_end (x ∷ xs) d (suc m) past = past_end xs d m (omega (arith, past))

  made_or : (f : ℕ → X) (d : X) (n m : ℕ) → m < n → slice_index_or (map f (range_with_len 0 n)) m d ≡ f m
  made_or f d n m inside =
      let z : 0 + m ≡ m = omega arith in
      get_or_from_slice_get (map f (range_with_len 0 n)) m (f (0 + m)) d (get_made_at f 0 n m inside) ∙ ap f z

-- no two rows are of one module
abbrev pub AreApart : List AttrsOf → Type 0
AreApart table = (i j : ℕ) (one other : AttrsOf) → slice_get table i ≡ Some one → slice_get table j ≡ Some other → one.number ≡ other.number → i ≡ j

-- so what is listed for a module is what its state says
found : (table : List AttrsOf) (modules : List ModuleStateOf) (i : ℕ) (attrs : AttrsOf) (m : ModuleStateOf) → AreApart table → slice_get table i ≡ Some attrs → slice_get modules i ≡ Some m
    → list_for (map (λ (a : AttrsOf). a.number) table) (map (λ (x : ModuleStateOf). x.cells) modules) attrs.number ≡ Some m.cells
found [] modules i attrs m apart at there = none_some attrs at
found (x ∷ table) [] i attrs m apart at there = none_some m there
found (x ∷ table) (y ∷ modules) zero attrs m apart at there =
    let n : x.number ≡ attrs.number = ap (λ (a : AttrsOf). a.number) (some_same x attrs at) in
    ap (λ b. if b then Some y.cells else list_for (map (λ (a : AttrsOf). a.number) table) (map (λ (z : ModuleStateOf). z.cells) modules) attrs.number) (eq-eqb x.number attrs.number n)
    ∙ ap (λ (z : ModuleStateOf). Some z.cells) (some_same y m there)
found (x ∷ table) (y ∷ modules) (suc i) attrs m apart at there = go (cases_eq x.number attrs.number)
    (found table modules i attrs m (λ k j one other a b same. let e = apart (suc k) (suc j) one other a b same in omega (arith, e)) at there)
  where
    go : (x.number ≡ attrs.number) ⊎ (x.number ≢ attrs.number)
        → list_for (map (λ (a : AttrsOf). a.number) table) (map (λ (z : ModuleStateOf). z.cells) modules) attrs.number ≡ Some m.cells
        → list_for (map (λ (a : AttrsOf). a.number) (x ∷ table)) (map (λ (z : ModuleStateOf). z.cells) (y ∷ modules)) attrs.number ≡ Some m.cells
    go (inl same) rest = let e = apart 0 (suc i) x attrs refl at same in absurd (omega (arith, e))
    go (inr other) rest =
        ap (λ b. if b then Some y.cells else list_for (map (λ (a : AttrsOf). a.number) table) (map (λ (z : ModuleStateOf). z.cells) modules) attrs.number) (ne_eqb x.number attrs.number other) ∙ rest

module _ (model : PureTree) (flat : Flat) (number : ℕ) (table : List AttrsOf) (s : ClusterStateOf) (of_cluster : (i : ℕ) (attrs : AttrsOf) → slice_get table i ≡ Some attrs → attrs.number < length flat.tables.modules)
    (apart : AreApart table) where
  pub says : IsStateStart flat number table s (state_start model flat number table s)
  says = record {
    lists = λ e below. made_or (held_by_state flat.tables number s.edges) [] (length flat.tables.edges) e below;
    cells = λ i attrs m at there. (
        made_or (kept_by_state model flat table s) [] (length flat.tables.modules) attrs.number (of_cluster i attrs at)
        ∙ ap (λ o. unwrap_or o (initialized model flat attrs.number (rates_in (attrs_at table attrs.number)))) (found table s.modules i attrs m apart at there));
    none = λ m past. (let l = length-map-range_with_len (kept_by_state model flat table s) 0 (length flat.tables.modules) in
        past_end (map (kept_by_state model flat table s) (range_with_len 0 (length flat.tables.modules))) [] m (omega (arith, past, l)));
  }

pub state_says : StateSaysStart
state_says model flat number s time c goes =
    says model flat number c.table s (λ i attrs at. (each_at (IsOfCluster flat.tables c.number) c.table i attrs goes.of.attributes.own at).is_module) goes.of.rows.once

-- ---- one cluster

-- a plan of equal items is one that the state says too
pub state_under : (flat : Flat) (number : ℕ) (first : First) (s : ClusterStateOf) (time : ℕ) (c : ClusterOf) → GoesOnFromState flat number s time c → IsUnderPlan first c
    → IsStateUnder flat number s time first.attrs.rows first.plan
state_under flat number first s time c goes under =
    subst (λ (t : List AttrsOf). IsStateUnder flat number s time t first.plan) under.table_is (record {
      modules = goes.at.is.modules;
      table_is = goes.at.is.table_is;
      planned = record {
        counts = goes.at.is.planned.counts;
        steps = goes.at.is.planned.steps;
        timing = goes.at.is.planned.timing;
        plan_is = plan_same (net_of flat.tables c.table) goes.at.is.planned.counts goes.at.is.planned.steps goes.at.is.planned.steps refl goes.at.plan first.plan refl items goes.at.is.planned.plan_is;
      };
      inside = subst (IsInPeriod s.start time) (sym items.period) goes.at.is.inside;
      edges = subst (λ (l : List Entry). HoldEdges flat.tables number c.table l (due_before s.start time l) s.edges) (sym items.entries) goes.at.is.edges;
    })
  where
    items : HasSameItems goes.at.plan first.plan
    items = record {
      entries = sym under.entries_are ∙ goes.at.entries_are;
      bounds = sym under.bounds_are ∙ goes.at.bounds_are;
      period = sym under.period_is ∙ goes.at.period_is;
    }

equal_sums : (a b c d e f g h : ℕ) → a ≡ e → b ≡ f → c ≡ g → d ≡ h → e + f ≡ g + h → a + b ≡ c + d
equal_sums a b c d e f g h w x y z sum = omega (arith, w, x, y, z, sum)

equal_times : (a b : ℕ) (xs ys : List ℕ) (e : ℕ) → a ≡ b → xs ≡ ys → a * slice_index xs e ≡ b * slice_index ys e
equal_times a b xs ys e same lists = ap (λ n. n * slice_index xs e) same ∙ ap (λ (l : List ℕ). b * slice_index l e) lists

none_read : (n m : ℕ) → slice_index_or (replicate {A = List Raw} n []) m [] ≡ []
none_read zero m = refl
none_read (suc n) zero = refl
none_read (suc n) (suc m) = none_read n m

module _ (model : PureTree) (flat : Flat) (number : ℕ) (first : First) (s : ClusterStateOf) (time : ℕ) (c : ClusterOf) (checked : IsCheckedOf model flat.checked) (goes : GoesOnFromState flat number s time c)
    (under : IsUnderPlan first c) where
  abbrev here : ClusterAt
  here = resumed_cluster model flat number time first s []

  abbrev entries : List Entry
  entries = first.plan.entries.items

  abbrev place : ℕ
  place = place_before time first s

  state : IsStateUnder flat number s time first.attrs.rows first.plan
  state = state_under flat number first s time c goes under

  at_place : c.place ≡ place
  at_place = goes.at.place_is ∙ ap (due_before s.start time) under.entries_are

  plan : HasWholePlan here
  plan = plan_whole flat number time first s state model [] (All-nil HasToldCounts)

  whole : IsWholeRecord flat number (whole_period flat.tables first)
  whole = whole_is flat number time first s state

  left_of : (m : ℕ) → slice_index here.now.counts m + done entries place m ≡ done entries (length entries) m
  left_of m = plan.counts m

  whole_of : (m : ℕ) → slice_index here.now.info.counts m ≡ done entries (length entries) m
  whole_of m = plan.whole m

  before : (m : ℕ) → done_before here.now m ≡ done c.entries c.place m
  before m =
      let l = left_of m in let w = whole_of m in
      let d : done c.entries c.place m ≡ done entries place m = ap (λ (es : List Entry). done es c.place m) under.entries_are ∙ ap (λ n. done entries n m) at_place in
      omega (arith, l, w, d)

  period : IsPeriodOf c here.from here.now
  period = record {
    started = let p = at_place in omega (arith, p);
    counts = λ m. (
        let l = left_of m in
        let n : done c.entries (length c.entries) m ≡ done entries (length entries) m = ap (λ (es : List Entry). done es (length es) m) under.entries_are in
        let d : done c.entries place m ≡ done entries place m = ap (λ (es : List Entry). done es place m) under.entries_are in
        omega (arith, l, n, d));
    reads = sym (goes.of.reads_are ∙ ap (λ (t : List AttrsOf). read_rates (net_of flat.tables t)) under.table_is);
    writes = sym (goes.of.writes_are ∙ ap (λ (t : List AttrsOf). write_rates (net_of flat.tables t)) under.table_is);
    table = sym under.table_is;
  }

  start : IsStateStart flat number first.attrs.rows s here.begun
  start = subst (λ (t : List AttrsOf). IsStateStart flat number t s (state_start model flat number t s)) under.table_is (state_says model flat number s time c goes)

  lists : HasLists flat number here.begun here.now
  lists e below = equal_sums _ _ _ _ (length (ring_at c.rings e).samples) (done c.entries c.place (reader_at flat.tables.edges e) * slice_index c.reads e)
      (held_at_head flat.tables c.number e) (done c.entries c.place (writer_at flat.tables.edges e) * slice_index c.writes e)
      (ap (λ (l : List Raw). length l) (start.lists e below ∙ sym (goes.at.lists e below)))
      (equal_times _ _ here.now.reads c.reads e (before (reader_at flat.tables.edges e)) period.reads)
      (ap (λ n. held_at_head flat.tables n e) (sym goes.at.number_is))
      (equal_times _ _ here.now.writes c.writes e (before (writer_at flat.tables.edges e)) period.writes)
      (goes.of.held.held e below)

  head : IsPeriodRecord flat number here.now
  head = record {
    timed = record {
      attributes = whole.is.timed.attributes;
      writes_are = whole.is.timed.writes_are;
      reads_are = whole.is.timed.reads_are;
      counts_are = whole.is.timed.counts_are;
      period_is = whole.is.timed.period_is;
      long = length-map-range_with_len (λ m. slice_index (whole_period flat.tables first).counts m - done entries place m) 0 (length (whole_period flat.tables first).counts);
      left = λ m. (let l = left_of m in let w = whole_of m in omega (arith, l, w));
    };
    grounded = whole.is.grounded;
  }

  have_read : HaveRead flat.tables number here
  have_read = record {
    same = length-replicate (length flat.tables.actors) [];
    samplers = λ m sampler. (let r = ap (λ (l : List Raw). length l) (none_read (length flat.tables.actors) m) in omega (arith, r));
  }

  stands : (reads : ℕ → List Raw) → Stands (cluster_net model flat number here.begun) [] here.now reads 0 (play_of here.from c)
  stands reads =
      let own = subst (λ (t : List AttrsOf). IsStateStart flat number t s here.begun) (sym under.table_is) start in
      let said = subst (λ n. IsStateStart flat n c.table s here.begun) (sym goes.at.number_is) own in
      let stood : Stands (cluster_net model flat c.number here.begun) [] here.now reads 0 (play_of c.place c) = goes.stands model here.begun here.now reads checked said in
      subst (λ n. Stands (cluster_net model flat number here.begun) [] here.now reads 0 (play_of n c)) at_place
      (subst (λ n. Stands (cluster_net model flat n here.begun) [] here.now reads 0 (play_of c.place c)) goes.at.number_is stood)

  pub there : IsAt model flat number here c
  there = record {
    number_is = goes.at.number_is;
    entries_are = under.entries_are;
    bounds_are = under.bounds_are;
    place_is = at_place;
    table_is = under.table_is;
    time_is = under.period_is;
    not_crossed = goes.at.not_crossed;
    none_ahead = refl;
    of = goes.of;
    period = period;
    counts = plan.whole;
    records = record { lists = lists; head = head; rest = All-nil (IsWholeRecord flat number) };
    have_read = have_read;
    positions = λ m below. (let z = goes.at.none_done m in omega (arith, z));
    steps = 0;
    few = omega arith;
    stands = stands (λ m. slice_index_or (replicate (length flat.tables.actors) []) m []);
  }

pub stands_there : StandsWhereSaid
stands_there model flat number first s time c checked goes under = there model flat number first s time c checked goes under

-- ---- all of them

pub all_there : ClustersStandThere
all_there model flat firsts s cs checked go under = record {
  same = long;
  each = λ n h c at here. (
      let r = resumed_at model flat firsts s [] n h at in
      subst (λ (g : ClusterAt). IsAt model flat (n + 1) g c) (sym r.is)
      (there model flat (n + 1) r.first r.state s.time c checked (go.each n r.state c r.state_at here) (under.each n r.first c r.first_at here)));
  begun = λ n t h at since. (
      let r = resumed_at model flat firsts s [] n h at in
      let m = slice_get-map (λ (x : ClusterStateOf). x.start) s.clusters n in
      let e : r.state.start ≡ t = some_same r.state.start t (ap (option_map (λ (x : ClusterStateOf). x.start)) (sym r.state_at) ∙ sym m ∙ since) in
      sym e ∙ ap (λ (g : ClusterAt). g.since) (sym r.is));
}
  where
    long : length (resumed_clusters model flat firsts s []) ≡ length cs
    long =
        length-map (enumerate_from 0 (zip firsts s.clusters)) (λ (c : ℕ × (First × ClusterStateOf)). resumed_cluster model flat (c.0 + 1) s.time c.1.0 c.1.1 (slice_index_or [] c.0 []))
        ∙ length-enumerate_from 0 (zip firsts s.clusters)
        ∙ (let z = length-zip firsts s.clusters in let a = under.same in let b = go.same in omega (arith, z, a, b))
