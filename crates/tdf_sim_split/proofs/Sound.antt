-- The clusters of a history from a good start stay sound.
use Rattle.std.proofs.Common.{◌≡◌, ◌≢◌, ◌∙◌, ℕ, suc, ◌+◌, ◌<◌, ◌≤◌, true, nat_eq, if◌then◌else◌, Option, Some, None, List, [], ◌∷◌, ◌++◌, length, map, take, slice_get, slice_index_or, slice_set, length-set, length-append, get_or-set_same, get_or-set_other, refl, sym, ap, subst, inl, inr, arith}
use Rattle.std.proofs.lemmas.Bool.{cases_eq, eq-eqb, ne_eqb}
use Rattle.std.proofs.lemmas.Bool.Decides.{nat_tests}
use Rattle.std.proofs.lemmas.List.{take-take}
use Rattle.std.proofs.lemmas.List.Sums.{sum_by-take-le, sum_by_push}
use Rattle.std.proofs.lemmas.Option.{slice_get_within}
use Rattle.std.specs.List.{flat_map, sum_by}
use Rattle.std.specs.Prelude.{cond, slice_index, unwrap_or}
use Rattle.tdf_bind.specs.declared.model.Flat.{Flat}
use Rattle.tdf_bind_tables.specs.declared.actors.ActorRow.{ActorRow}
use Rattle.tdf_dynamic.proofs.Api.{attributes_stay}
use Rattle.tdf_dynamic.specs.Asked.{IsQuiet, attrs_after}
use Rattle.tdf_dynamic.specs.Change.{Asks, IsSame, table_after}
use Rattle.tdf_dynamic_plans.specs.Assignments.{assigned_by, assignments}
use Rattle.tdf_dynamic_plans.specs.Attributes.{AttrsOf, clusters_of}
use Rattle.tdf_dynamic_plans.specs.Faults.{IsTablePlan}
use Rattle.tdf_dynamic_plans.specs.Rates.{net_of}
use Rattle.tdf_exec.proofs.Api.{DifferInFlags, net_same, plan_same}
use Rattle.tdf_expr.specs.Checked.{IsCheckedOf}
use Rattle.tdf_fixed.specs.declared.raw.Raw.{Raw}
use Rattle.tdf_graph.specs.Counts.{AreCounts}
use Rattle.tdf_graph.specs.declared.actors.Actor.TheVariants as actor
use Rattle.tdf_lang_tree.specs.Kept.{IsKept}
use Rattle.tdf_lang_tree.specs.Pure.{PureTree}
use Rattle.tdf_schedule.specs.Needs.{IsGrounded}
use Rattle.tdf_schedule.specs.Plan.{done}
use Rattle.tdf_schedule.specs.declared.entry.Entry.{Entry}
use Rattle.tdf_sim_history.proofs.Api.{last_record, new_goes, records_push, same_goes}
use Rattle.tdf_sim_history.specs.Answers.{IsAnswer, IsNewPeriod, asks_in, last_cells}
use Rattle.tdf_sim_history.specs.Instant.{activations, acts_now, is_over, next_entry, periods_of, sample_taken, same_period, stepped, with_new, with_read, with_same}
use Rattle.tdf_sim_history.specs.World.{ClusterAt, New, Same, next_change}
use Rattle.tdf_sim_refinement.proofs.Api.{new_record}
use Rattle.tdf_sim_split.proofs.Alike.{IsNoSampler, IsSampler, StepsKeep}
use Rattle.tdf_sim_split.specs.Following.{IsSoundCluster}
use Rattle.tdf_streams.proofs.Api.{done_next}
use Rattle.tdf_streams.specs.Net.{count}
use Rattle.tdf_streams.specs.Periods.{AreAttributes, IsPeriodRecord, IsWholeRecord, PeriodRecord, period_record, read_rates, write_rates}
use Rattle.tdf_streams.specs.Places.{actor_kind, kind_of_row}
use Rattle.tdf_timestep.specs.Period.{IsPeriod}

-- ---- firings of a plan

-- those that are done grow with the place
pub done_rises : (entries : List Entry) (m i j : ℕ) → i ≤ j → done entries i m ≤ done entries j m
unfolding done
done_rises entries m i j low = subst (λ (l : List Entry). sum_by (λ (x : Entry). cond (nat_eq x.actor m) 1 0) l ≤ sum_by (λ (x : Entry). cond (nat_eq x.actor m) 1 0) (take j entries)) (take-take i j entries low) (sum_by-take-le (λ (x : Entry). cond (nat_eq x.actor m) 1 0) (take j entries) i)

pub none_before : (entries : List Entry) (m : ℕ) → done entries 0 m ≡ 0
unfolding done
none_before entries m = refl

-- an activation more of the actor of the next entry, and none of another
module _ (c : ClusterAt) (x : Entry) (next : next_entry c ≡ Some x) (from : c.from ≤ c.place) where
  pub acts_one : (m : ℕ) → m ≡ x.actor → acts_now (stepped c) m ≡ acts_now c m + 1
  acts_one m same =
      let d = done_next c.entries c.place m x next ∙ ap (λ b. done c.entries c.place m + (if b then 1 else 0)) (eq-eqb x.actor m (sym same)) in
      let r = done_rises c.entries m c.from c.place from in omega (arith, d, r)

  pub acts_other : (m : ℕ) → m ≢ x.actor → acts_now (stepped c) m ≡ acts_now c m
  acts_other m apart =
      let d = done_next c.entries c.place m x next ∙ ap (λ b. done c.entries c.place m + (if b then 1 else 0)) (ne_eqb x.actor m (λ e. apart (sym e))) in
      omega (arith, d)

-- ---- a table whose modules differ in nothing

abbrev pub number_of : AttrsOf → ℕ
number_of attrs = attrs.number

numbers_after : (asks : Asks) (table : List AttrsOf) → map number_of (table_after asks table) ≡ map number_of table
numbers_after asks [] = refl
numbers_after asks (a ∷ table) = ap (λ l. a.number ∷ l) (numbers_after asks table)

assigned_same : (old new : List AttrsOf) → DifferInFlags old new → assignments new ≡ assignments old
unfolding assignments
assigned_same [] [] differ = refl
assigned_same [] (b ∷ new) differ = absurd differ
assigned_same (a ∷ old) [] differ = absurd differ
assigned_same (a ∷ old) (b ∷ new) differ =
    ap (λ (x : AttrsOf). assigned_by x ++ flat_map assigned_by new) differ.0 ∙ ap (λ l. assigned_by a ++ l) (assigned_same old new differ.1)

quiet_flags : (asks : Asks) (table : List AttrsOf) → IsSame asks table → DifferInFlags table (table_after asks table)
quiet_flags asks [] quiet = tt
quiet_flags asks (a ∷ table) quiet =
    let one : IsQuiet a (asks a) = quiet 0 a (omega arith) in (
      (λ i. record { number = a.number; ports = a.ports; accepts = (attrs_after a (asks a)).accepts; rates = one.same.rates i; steps = one.same.steps i }),
      quiet_flags asks table (λ j d below. quiet (suc j) d (omega (arith, below))),
    )

module _ (model : PureTree) (flat : Flat) (kept : IsKept model) (checked : IsCheckedOf model flat.checked) where
  module _ (number : ℕ) (h : ClusterAt) (s : IsSoundCluster flat number h) where
    last : IsPeriodRecord flat number h.now
    last = last_record flat number h.begun h.old h.now s.records

    after_has : AreAttributes flat number (table_after (asks_in model flat number h) h.now.info.table)
    after_has = attributes_stay model flat number h.now.info.table (λ m. unwrap_or (last_cells model flat number h m) []) kept checked last.timed.attributes

    -- all that a plan has is done at the end of a period, from where it began
    over_acts : (time : ℕ) → is_over time h ≡ true → (m : ℕ) → acts_now h m ≡ slice_index h.now.counts m
    over_acts time over m =
        let p : h.place ≡ length h.entries = grind (arith, nat_tests, over) in
        let w = s.plan.counts m in
        let e = ap (λ i. done h.entries i m) p in omega (arith, w, e)

    acts_same : (time : ℕ) → is_over time h ≡ true → (m : ℕ) → sum_by (count m) (periods_of h) ≡ activations h m
    acts_same time over m = sum_by_push (count m) h.old h.now ∙ ap (λ k. sum_by (count m) h.old + k) (sym (over_acts time over m))

    module _ (time : ℕ) (over : is_over time h ≡ true) (table : List AttrsOf) (told : next_change h ≡ Same table) (answer : IsAnswer model flat number h (Same table)) where
      differ : DifferInFlags h.now.info.table table
      differ = subst (DifferInFlags h.now.info.table) (sym answer.leads.1) (quiet_flags (asks_in model flat number h) h.now.info.table answer.leads.0)

      abbrev next : PeriodRecord
      next = same_period table h.now

      net_is : net_of flat.tables table ≡ net_of flat.tables h.now.info.table
      net_is = net_same flat.tables h.now.info.table table differ

      same_whole : IsWholeRecord flat number next
      same_whole = record {
        is = record {
          timed = record {
            attributes = subst (AreAttributes flat number) (sym answer.leads.1) after_has;
            writes_are = last.timed.writes_are ∙ ap write_rates (sym net_is);
            reads_are = last.timed.reads_are ∙ ap read_rates (sym net_is);
            counts_are = subst (λ n. AreCounts n.edges (clusters_of flat.tables) number h.now.info.counts) (sym net_is) last.timed.counts_are;
            period_is = subst (λ n. IsPeriod n.ports h.now.info.counts (assignments table) h.now.info.period) (sym net_is)
                (subst (λ l. IsPeriod (net_of flat.tables h.now.info.table).ports h.now.info.counts l h.now.info.period) (sym (assigned_same h.now.info.table table differ)) last.timed.period_is);
            long = refl;
            left = λ m. omega arith;
          };
          grounded = λ m a below. subst (λ n. IsGrounded n.edges (λ k. 0) m a) (sym net_is) (last.grounded m a below);
        };
        whole = refl;
      }

      pub same_sound : IsSoundCluster flat number (with_same time table h)
      same_sound = record {
        records = records_push flat number h.begun h.old h.now next s.records same_whole;
        members = ap (map number_of) answer.leads.1 ∙ numbers_after (asks_in model flat number h) h.now.info.table ∙ s.members;
        planned = record {
          plan = s.planned.plan;
          is = plan_same flat.tables number h.now.info.table table s.planned.plan differ s.planned.is;
          entries = s.planned.entries;
          bounds = s.planned.bounds;
          period = s.planned.period;
        };
        plan = (same_goes time table h).planned s.plan;
        counts = s.counts;
        from = omega arith;
        place = omega arith;
        many = s.many;
        samplers = λ m sampler. (let r = s.samplers m sampler in let a = acts_same time over m in let z = none_before h.entries m in omega (arith, r, a, z));
        none = s.none;
      }

    module _ (time : ℕ) (over : is_over time h ≡ true) (table : List AttrsOf) (counts : List ℕ) (period : ℕ) (entries : List Entry) (bounds : List ℕ) (told : next_change h ≡ New table counts period entries bounds)
        (answer : IsAnswer model flat number h (New table counts period entries bounds)) where
      is_new : IsNewPeriod flat.tables number (asks_in model flat number h) h.now.info.table table counts period entries bounds
      is_new = answer.leads

      new_whole : IsWholeRecord flat number (period_record flat.tables table counts period true)
      new_whole = (new_record flat number (asks_in model flat number h) h.now.info.table table counts period entries bounds (subst (AreAttributes flat number) (sym is_new.table_is) after_has) is_new).whole

      pub new_sound : IsSoundCluster flat number (with_new flat.tables time table counts period entries bounds h)
      new_sound = record {
        records = records_push flat number h.begun h.old h.now (period_record flat.tables table counts period true) s.records new_whole;
        members = ap (map number_of) is_new.table_is ∙ numbers_after (asks_in model flat number h) h.now.info.table ∙ s.members;
        planned = record {
          plan = is_new.plan;
          is = subst (λ t. IsTablePlan flat.tables number t is_new.plan) (sym is_new.table_is)
              (record { counts = is_new.plan_is.times.after.counts; steps = is_new.plan_is.times.after.steps; timing = is_new.plan_is.times.after.timing; plan_is = is_new.plan_is.plan_is });
          entries = is_new.entries_are;
          bounds = is_new.bounds_are;
          period = is_new.period_is;
        };
        plan = (new_goes flat.tables time table counts period entries bounds h told).planned s.plan;
        counts = is_new.counts_are;
        from = omega arith;
        place = omega arith;
        many = s.many;
        samplers = λ m sampler. (let r = s.samplers m sampler in let a = acts_same time over m in let z = none_before entries m in omega (arith, r, a, z));
        none = s.none;
      }

    -- firings
    module _ (x : Entry) (next : next_entry h ≡ Some x) where
      inside : h.place < length h.entries
      inside = slice_get_within h.entries h.place x next

      pub step_plain : IsNoSampler (slice_get flat.tables.actors x.actor) → IsSoundCluster flat number (stepped h)
      step_plain plain = record {
        records = s.records;
        members = s.members;
        planned = record { plan = s.planned.plan; is = s.planned.is; entries = s.planned.entries; bounds = s.planned.bounds; period = s.planned.period };
        plan = record { counts = s.plan.counts; whole = s.plan.whole; ahead = s.plan.ahead };
        counts = s.counts;
        from = (let f = s.from in omega (arith, f));
        place = (let i = inside in omega (arith, i));
        many = s.many;
        samplers = λ m sampler. s.samplers m sampler ∙ ap (λ k. sum_by (count m) h.old + k) (sym (acts_other h x next s.from m (not_it m sampler)));
        none = s.none;
      }
        where
          no_kind : (o : Option ActorRow) → IsNoSampler o → kind_of_row o ≡ Some actor.Sampler → ⊥
          no_kind None not_one is = absurd cc
          no_kind (Some row) not_one is = not_one (let same : row.kind ≡ actor.Sampler = cc in same)

          not_it : (m : ℕ) → actor_kind flat.tables m ≡ Some actor.Sampler → m ≢ x.actor
          not_it m sampler same = no_kind (slice_get flat.tables.actors x.actor) plain (subst (λ k. actor_kind flat.tables k ≡ Some actor.Sampler) same sampler)

      pub step_read : (value : Raw) → IsSampler (slice_get flat.tables.actors x.actor) → IsSoundCluster flat number (stepped (with_read x.actor value h))
      step_read value sampler = record {
        records = s.records;
        members = s.members;
        planned = record { plan = s.planned.plan; is = s.planned.is; entries = s.planned.entries; bounds = s.planned.bounds; period = s.planned.period };
        plan = record { counts = s.plan.counts; whole = s.plan.whole; ahead = s.plan.ahead };
        counts = s.counts;
        from = (let f = s.from in omega (arith, f));
        place = (let i = inside in omega (arith, i));
        many = length-set h.reads x.actor (slice_index_or h.reads x.actor [] ++ value ∷ []) ∙ s.many;
        samplers = λ m kind. elim (cases_eq m x.actor) [
          | inl same ↦ (
              let own : slice_index_or (slice_set h.reads x.actor (slice_index_or h.reads x.actor [] ++ value ∷ [])) m [] ≡ slice_index_or h.reads x.actor [] ++ value ∷ []
              = ap (λ k. slice_index_or (slice_set h.reads x.actor (slice_index_or h.reads x.actor [] ++ value ∷ [])) k []) same
              ∙ get_or-set_same h.reads x.actor (slice_index_or h.reads x.actor [] ++ value ∷ []) [] (let l = s.many in omega (arith, actor_inside, l)) in
              let long = length-append (slice_index_or h.reads x.actor []) (value ∷ []) in
              let was = s.samplers x.actor (subst (λ k. actor_kind flat.tables k ≡ Some actor.Sampler) same kind) in
              let one = acts_one h x next s.from x.actor refl in
              let total : length (slice_index_or h.reads x.actor [] ++ value ∷ []) ≡ sum_by (count x.actor) h.old + acts_now (stepped h) x.actor = omega (arith, long, was, one) in
              ap length own ∙ total ∙ ap (λ k. sum_by (count k) h.old + acts_now (stepped h) k) (sym same))
          | inr apart ↦ ap length (get_or-set_other h.reads x.actor m (slice_index_or h.reads x.actor [] ++ value ∷ []) [] apart) ∙ s.samplers m kind
              ∙ ap (λ k. sum_by (count m) h.old + k) (sym (acts_other h x next s.from m apart))
        ];
        none = λ m other. get_or-set_other h.reads x.actor m (slice_index_or h.reads x.actor [] ++ value ∷ []) [] (λ same. other (subst (λ k. actor_kind flat.tables k ≡ Some actor.Sampler) (sym same) kind_is)) ∙ s.none m other;
      }
        where
          kind_of : (o : Option ActorRow) → IsSampler o → kind_of_row o ≡ Some actor.Sampler
          kind_of None is = absurd is
          kind_of (Some row) is = ap Some is

          kind_is : actor_kind flat.tables x.actor ≡ Some actor.Sampler
          kind_is = kind_of (slice_get flat.tables.actors x.actor) sampler

          has_row : (o : Option ActorRow) → slice_get flat.tables.actors x.actor ≡ o → IsSampler o → x.actor < length flat.tables.actors
          has_row None at is = absurd is
          has_row (Some row) at is = slice_get_within flat.tables.actors x.actor row at

          actor_inside : x.actor < length flat.tables.actors
          actor_inside = has_row (slice_get flat.tables.actors x.actor) refl sampler

  -- a history is one with itself, and its clusters stay sound
  abbrev pub IsSoundSame : ℕ → ClusterAt → ClusterAt → Type 0
  IsSoundSame n h g = (g ≡ h) × IsSoundCluster flat (n + 1) h

  pub steps_sound : StepsKeep model flat IsSoundSame
  steps_sound = record {
    view = λ n h g q. record {
      entries = ap (λ (c : ClusterAt). c.entries) q.0;
      place = ap (λ (c : ClusterAt). c.place) q.0;
      since = ap (λ (c : ClusterAt). c.since) q.0;
      period = ap (λ (c : ClusterAt). c.now.info.period) q.0;
      table = ap (λ (c : ClusterAt). c.now.info.table) q.0;
      ahead = ap (λ (c : ClusterAt). c.ahead) q.0;
      bounds = ap (λ (c : ClusterAt). c.bounds) q.0;
    };
    answer = λ n h g x q answer. subst (λ c. IsAnswer model flat (n + 1) c x) (sym q.0) answer;
    sink = λ n h g x q next is. ap (λ (c : ClusterAt). sample_taken model flat (n + 1) c x.actor) q.0;
    step = λ n h g x q next plain. (ap stepped q.0, step_plain (n + 1) h q.1 x next plain);
    read = λ n h g x value q next sampler. (ap (λ (c : ClusterAt). stepped (with_read x.actor value c)) q.0, step_read (n + 1) h q.1 x next value sampler);
    same = λ n time h g table q over told answer. (ap (with_same time table) q.0, same_sound (n + 1) h q.1 time over table told answer);
    new = λ n time h g table counts period entries bounds q over told answer.
        (ap (with_new flat.tables time table counts period entries bounds) q.0, new_sound (n + 1) h q.1 time over table counts period entries bounds told answer);
  }
