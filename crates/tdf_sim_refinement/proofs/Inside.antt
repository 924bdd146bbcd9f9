-- The entries of a plan come before the end of its period.
use Rattle.std.proofs.Common.{◌≡◌, ◌∙◌, ℕ, zero, suc, ◌+◌, ◌-◌, ◌*◌, ◌/◌, ◌<◌, ◌≤◌, inl, inr, Bool, true, false, ◌&&◌, cond, if◌then◌else◌, nat_eq, nat_lt, Option, Some, None, List, [], ◌∷◌, slice_get, slice_index, refl, ap, sym, subst, arith, eq-eqb}
use Rattle.std.proofs.Math.Nat.{div-lt_iff_lt-mul, mul-le-mul_right, mul_comm}
use Rattle.std.proofs.lemmas.Bool.{ltb-true}
use Rattle.std.proofs.lemmas.List.Sums.{sum_by-cons}
use Rattle.std.proofs.lemmas.Option.{slice_get-get_or}
use Rattle.std.specs.Prelude.{Contains, count_by}
use Rattle.tdf_exec.specs.Cluster.{ClusterOf}
use Rattle.tdf_exec.specs.Made.{IsClusterOf}
use Rattle.tdf_dynamic_plans.specs.Assignments.{assignments}
use Rattle.tdf_dynamic_plans.specs.Faults.{pace_in}
use Rattle.tdf_dynamic_plans.specs.Rates.{net_of}
use Rattle.tdf_bind.specs.declared.model.Flat.{Flat}
use Rattle.tdf_streams.proofs.Api.{none_some, some_same}
use Rattle.tdf_graph.specs.Counts.{IsBalanced}
use Rattle.tdf_graph.specs.declared.actors.Actor.{Actor}
use Rattle.tdf_graph.specs.declared.actors.Actor.TheVariants.{Module, Sampler, Sink}
use Rattle.tdf_graph.specs.declared.actors.Edge.{Edge}
use Rattle.tdf_bind_invariants.specs.Limits.{AreWithinLimits}
use Rattle.tdf_sim_refinement.proofs.Lasting.{all_at, takes_time}
use Rattle.tdf_sim_refinement.specs.Inside.{EntriesLieInside}
use Rattle.tdf_schedule.specs.Needs.{HasKey, Needs, Within}
use Rattle.tdf_schedule.specs.Plan.{IsPlan, is_firing, key_in, pace_by}
use Rattle.tdf_schedule.specs.declared.entry.Entry.{Entry}
use Rattle.tdf_timestep.specs.Period.{HasSteps}

-- what is there counts
counted : {X : Type 0} (p : X → Bool) (xs : List X) (j : ℕ) (x : X) → slice_get xs j ≡ Some x → p x ≡ true → 0 < count_by p xs
counted p [] j x at is = none_some x at
counted p (y ∷ xs) zero x at is =
    let s = sum_by-cons (λ z. cond {A = ℕ} (p z) 1 0) y xs in let h : cond {A = ℕ} (p y) 1 0 ≡ 1 = ap (λ b. cond {A = ℕ} b 1 0) (ap p (some_same y x at) ∙ is) in omega (arith, s, h)
counted p (y ∷ xs) (suc j) x at is = let s = sum_by-cons (λ z. cond {A = ℕ} (p z) 1 0) y xs in let h = counted p xs j x at is in omega (arith, s, h)

if_some : (b : Bool) → 0 < (if b then 1 else 0) → b ≡ true
if_some true h = refl
if_some false h = absurd (omega (arith, h))

-- a sample that is read in the period is written in it
written_inside : (writes reads counts_n counts_m a place initial : ℕ) → counts_n * writes ≡ counts_m * reads → a < counts_m → place < a * reads + reads → (place - initial) / writes < counts_n
written_inside writes reads counts_n counts_m a place initial balanced below high =
    let least : (a + 1) * reads ≤ counts_m * reads = mul-le-mul_right reads (omega (arith, below)) in
    let one : (a + 1) * reads ≡ a * reads + reads = grind arith in
    let under : place - initial < counts_n * writes = omega (arith, least, one, high, balanced) in
    (div-lt_iff_lt-mul (some writes refl under)).1 under
  where
    some : (w : ℕ) → w ≡ writes → place - initial < counts_n * writes → 0 < w
    some zero none under = absurd (let z : counts_n * 0 ≡ counts_n * writes = ap (λ k. counts_n * k) none in let y : counts_n * 0 ≡ 0 = omega arith in omega (arith, z, y, under))
    some (suc w) is under = omega arith

module _ (edges : List Edge) (pace : ℕ → ℕ) (counts : List ℕ) (end : ℕ) (balanced : (e : Edge) → Contains edges e → IsBalanced (slice_index counts) e)
    (due : (m a : ℕ) → a < slice_index counts m → a * pace m ≤ end) where
  -- what a firing of a period needs is one of the period
  pub needs_inside : (m a n b : ℕ) → a < slice_index counts m → Needs edges m a n b → b < slice_index counts n
  needs_inside m a n b below (inl (same, before)) = subst (λ k. b < slice_index counts k) (sym same) (omega (arith, below, before))
  needs_inside m a n b below (inr t) =
      let even : slice_index counts n * t.edge.write_rate ≡ slice_index counts m * t.edge.read_rate =
      ap (λ k. slice_index counts k * t.edge.write_rate) (sym t.writes) ∙ balanced t.edge t.there ∙ ap (λ k. slice_index counts k * t.edge.read_rate) t.reads in
      subst (λ k. k < slice_index counts n) (sym t.made) (written_inside t.edge.write_rate t.edge.read_rate (slice_index counts n) (slice_index counts m) a t.place t.edge.initial even below t.high)

  -- each firing of a period can be done by a time at which all are due
  pub by_end : (f o m a : ℕ) → a < slice_index counts m → Within edges pace f o m a → Within edges pace f end m a
  unfolding Within
  by_end zero o m a below is = absurd is
  by_end (suc f) o m a below is = (due m a below, λ n b needs. by_end f o n b (needs_inside m a n b below needs) (is.1 n b needs))

  -- so all entries of a plan come by then
  module _ (entries : List Entry) (plan : IsPlan edges pace counts entries) where
    firing_inside : (i : ℕ) (x : Entry) → slice_get entries i ≡ Some x → x.index < slice_index counts x.actor
    firing_inside i x at =
        let own : is_firing x.actor x.index x ≡ true = ap (λ b. b && nat_eq x.index x.index) (eq-eqb x.actor x.actor refl) ∙ eq-eqb x.index x.index refl in
        let some = counted (is_firing x.actor x.index) entries i x at own in
        ltb-true x.index (slice_index counts x.actor) (if_some (nat_lt x.index (slice_index counts x.actor)) (subst (λ n. 0 < n) (plan.complete x.actor x.index) some))

    pub offset_by : (i : ℕ) (x : Entry) → slice_get entries i ≡ Some x → x.offset ≤ end
    offset_by i x at =
        let key : HasKey edges pace x.actor x.index (key_in x) = all_at (λ (y : Entry). HasKey edges pace y.actor y.index (key_in y)) entries i x plan.keys at in
        (key.least x.level end (by_end x.level x.offset x.actor x.index (firing_inside i x at) key.within)).1

-- a firing of the period is due before its end
before_end : (step count a period : ℕ) → step * count ≡ period → 0 < period → a < count → a * step ≤ period - 1
before_end step count a period whole lasts below =
    let least : (a + 1) * step ≤ count * step = mul-le-mul_right step (omega (arith, below)) in
    let one : (a + 1) * step ≡ a * step + step = grind arith in
    let turned : count * step ≡ step * count = mul_comm count step in
    let some : 0 < step = positive step refl in
    omega (arith, least, one, turned, whole, some)
  where
    positive : (s : ℕ) → s ≡ step → 0 < s
    positive zero none = absurd (let z : 0 * count ≡ step * count = ap (λ k. k * count) none in let y : 0 * count ≡ 0 = omega arith in omega (arith, z, y, whole, lasts))
    positive (suc s) is = omega arith

module _ (flat : Flat) (c : ClusterOf) (limits : AreWithinLimits flat) (of : IsClusterOf flat c) where
  abbrev counts : List ℕ
  counts = of.planned.plan_is.counts

  abbrev pace : ℕ → ℕ
  pace = pace_in (net_of flat.tables c.table) of.planned.plan_is.steps

  timed : HasSteps (net_of flat.tables c.table).ports counts (assignments c.table) of.planned.plan_is.steps
  timed = of.planned.plan_is.timing.steps_are

  period_is : of.planned.plan_is.steps.period ≡ c.period
  period_is = sym of.planned.plan_is.plan_is.planned.same ∙ of.planned.period_is

  due_inside : (m a : ℕ) → a < slice_index counts m → a * pace m ≤ c.period - 1
  due_inside m a below = by_kind (slice_get (net_of flat.tables c.table).actors m)
    where
      waits : a * slice_index of.planned.plan_is.steps.actor_steps.items m ≤ c.period - 1
      waits = before_end (slice_index of.planned.plan_is.steps.actor_steps.items m) (slice_index counts m) a c.period (timed.firing m (omega (arith, below)) ∙ period_is) (takes_time flat c limits of) below

      none : a * 0 ≤ c.period - 1
      none = let y : a * 0 ≡ 0 = omega arith in omega (arith, y)

      by_kind : (o : Option Actor) → a * pace_by o (slice_index of.planned.plan_is.steps.actor_steps.items m) ≤ c.period - 1
      by_kind None = none
      by_kind (Some Module) = none
      by_kind (Some Sampler) = waits
      by_kind (Some Sink) = waits

  pub offset_inside : (i : ℕ) (x : Entry) → slice_get c.entries i ≡ Some x → x.offset < c.period
  offset_inside i x at =
      let plan : IsPlan (net_of flat.tables c.table).edges pace counts c.entries = subst (IsPlan (net_of flat.tables c.table).edges pace counts) of.planned.entries_are of.planned.plan_is.plan_is.planned.planned in
      let by = offset_by (net_of flat.tables c.table).edges pace counts (c.period - 1) of.planned.plan_is.timing.counts_are.counts_are.balanced due_inside c.entries plan i x at in
      let some = takes_time flat c limits of in omega (arith, by, some)

pub entries_inside : EntriesLieInside
entries_inside flat c limits of j d below = offset_inside flat c limits of j _ (slice_get-get_or c.entries j d below)
