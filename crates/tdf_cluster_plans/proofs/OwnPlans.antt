-- Steps and plans of the net of a cluster are the cluster's in the whole net.
use Rattle.std.proofs.Common.{◌≡◌, ◌∙◌, ℕ, ◌*◌, ◌<◌, ◌≤◌, ◌⊎◌, inl, inr, List, [], Some, None, length, map, sym, ap, subst, arith}
use Rattle.std.proofs.Math.ListN.{get_or}
use Rattle.std.proofs.lemmas.Bool.{cases_lt}
use Rattle.std.proofs.lemmas.List.{get_or-map, get_or_past, length-map}
use Rattle.std.proofs.lemmas.List.Elements.{All-from_get_or, All-get_or}
use Rattle.std.specs.Prelude.{◌↔◌, All, Contains, Err, Ok, slice_index}
use Rattle.tdf_base.specs.Limits.{most_firings, most_samples, time_end}
use Rattle.tdf_bind_tables.specs.FlatTables.{FlatTablesOf}
use Rattle.tdf_cluster_net.proofs.Api.{assigned_down, contains_at, deadlock_down, deadlock_up, disagreed_up, edge_up, inexact_up, noncausal_down, noncausal_up, pace_up, samples_same, spread_sum, steps_up, too_long_up, whole_plan}
use Rattle.tdf_cluster_net.specs.Numbers.{AreSpread}
use Rattle.tdf_cluster_net.specs.Own.{IsActorInCluster, IsOwnSpot, OwnOf, whole_assign, whole_edge, whole_spot}
use Rattle.tdf_cluster_net.specs.Whole.{IsWholePlan, whole_planning, whole_timing}
use Rattle.tdf_dynamic_plans.proofs.Api.{Planned, Stepped, few, is_paced, none_some, plan_good}
use Rattle.tdf_cluster_plans.proofs.OwnNets.{counts_picked, edges_long, few_picked, steps_picked}
use Rattle.tdf_dynamic_plans.specs.Assignments.{assignments}
use Rattle.tdf_dynamic_plans.specs.Attributes.{AttrsOf, clusters_of}
use Rattle.tdf_dynamic_plans.specs.Faults.{HasCountsOf, HasStepsOf, HasTiming, IsPeriodFault, IsPlanErr, IsPlanFault, IsPlanOf, IsRefusal, IsToldFault, pace_in, plan_fault, samples_in, step_fault}
use Rattle.tdf_cluster_plans.specs.Own.{IsNetOfCluster}
use Rattle.tdf_dynamic_plans.specs.Rates.{NetOf, net_of}
use Rattle.tdf_dynamic_plans.specs.declared.err.ChangeErr.{ChangeErr}
use Rattle.tdf_dynamic_plans.specs.declared.err.ChangeErr.TheVariants.{Refused, Memory}
use Rattle.tdf_graph.specs.Counts.{IsBalanced}
use Rattle.tdf_graph.specs.declared.actors.Edge.{Edge}
use Rattle.tdf_graph.specs.declared.actors.Port.{Port}
use Rattle.tdf_schedule.specs.Plan.{HasPlan, IsDeadlock, IsNoncausal, IsPaced, pace_of}
use Rattle.tdf_schedule.specs.declared.entry.Plan.{Plan}
use Rattle.tdf_schedule.specs.declared.err.PlanErr.{PlanErr}
use Rattle.tdf_schedule.specs.declared.err.PlanErr.TheVariants as planning
use Rattle.tdf_timestep.specs.Order.{spot_of}
use Rattle.tdf_timestep.specs.Period.{HasSteps, IsAssigned, IsDisagreed, IsInexact, IsTooLong}
use Rattle.tdf_timestep.specs.declared.assign.Assign.{Assign}
use Rattle.tdf_timestep.specs.declared.assign.Spot.{Spot}
use Rattle.tdf_timestep.specs.declared.assign.Steps.{Steps}
use Rattle.tdf_timestep.specs.declared.err.StepErr.{StepErr}
use Rattle.tdf_timestep.specs.declared.err.StepErr.TheVariants as timing

no_assign : Assign
no_assign = record { actor = 0; port = None; step = 0 }

module _ (tables : FlatTablesOf) (cluster : ℕ) (table : List AttrsOf) (own : OwnOf) (net : IsNetOfCluster tables cluster table own) where
  abbrev whole : NetOf
  whole = net_of tables table

  -- steps
  module _ (counts all : List ℕ) (spread : AreSpread own.actor_numbers (length whole.actors) counts all) (long : length counts ≡ length own.actor_numbers)
      (assigned own_assigned : List Assign) (are : map (whole_assign own) own_assigned ≡ assigned) (inside : All (λ (a : Assign). IsOwnSpot own (spot_of a)) own_assigned) where
    pub own_fit : All (IsAssigned whole.ports all) assigned → All (IsAssigned own.ports counts) own_assigned
    own_fit fit = All-from_get_or (IsAssigned own.ports counts) own_assigned no_assign (λ i less.
        let at : get_or (map (whole_assign own) own_assigned) i no_assign ≡ whole_assign own (get_or own_assigned i no_assign) = get_or-map (whole_assign own) own_assigned i no_assign no_assign less in
        let there : i < length (map (whole_assign own) own_assigned) = (let l = length-map own_assigned (whole_assign own) in omega (arith, less, l)) in
        assigned_down whole.actors whole.edges whole.ports (clusters_of tables) cluster own net counts all spread long (get_or own_assigned i no_assign)
        (All-get_or (λ (a : Assign). IsOwnSpot own (spot_of a)) own_assigned i no_assign less inside)
        (subst (IsAssigned whole.ports all) at (All-get_or (IsAssigned whole.ports all) (map (whole_assign own) own_assigned) i no_assign there (subst (All (IsAssigned whole.ports all)) (sym are) fit))))

    module _ (same : assigned ≡ assignments table) where
      all_same : map (whole_assign own) own_assigned ≡ assignments table
      all_same = are ∙ same

      pub own_steps_up : (steps found : Steps) → HasSteps own.ports counts own_assigned steps → AreSpread own.actor_numbers (length whole.actors) steps.actor_steps.items found.actor_steps.items
          → found.period ≡ steps.period → HasStepsOf whole table all found
      own_steps_up steps found has spread_steps period = subst (λ xs. HasSteps whole.ports all xs found) all_same
          (steps_up whole.actors whole.edges whole.ports (clusters_of tables) cluster own net counts all spread long own_assigned inside steps found has spread_steps period)

      module _ (e : Stepped) (none : (e ≡ Err timing.NoTimestep) ↔ (own_assigned ≡ []))
          (disagree : (a b : ℕ) → (e ≡ Err (timing.Disagree a b)) ↔ IsDisagreed own.ports counts own_assigned a b)
          (too_long : (e ≡ Err timing.TooLong) ↔ IsTooLong own.ports counts own_assigned)
          (inexact : (s : Spot) → (e ≡ Err (timing.Inexact s.actor s.port)) ↔ IsInexact own.ports counts own_assigned s) where
        pub own_steps_refused : (why : StepErr) (told : ChangeErr) → e ≡ Err why → IsToldFault (step_fault tables table (whole_timing own why)) told → IsRefusal (IsPeriodFault tables whole table all) told
        own_steps_refused why Memory is told = tt
        own_steps_refused timing.NoTimestep (Refused fault) is told =
            record { why = timing.NoTimestep; is = sym all_same ∙ ap (map (whole_assign own)) (none.0 is); told = told }
        own_steps_refused (timing.Disagree a b) (Refused fault) is told = record {
          why = timing.Disagree a b;
          is = subst (λ xs. IsDisagreed whole.ports all xs a b) all_same
              (disagreed_up whole.actors whole.edges whole.ports (clusters_of tables) cluster own net counts all spread long own_assigned inside a b ((disagree a b).0 is));
          told = told;
        }
        own_steps_refused timing.TooLong (Refused fault) is told = record {
          why = timing.TooLong;
          is = subst (IsTooLong whole.ports all) all_same
              (too_long_up whole.actors whole.edges whole.ports (clusters_of tables) cluster own net counts all spread long own_assigned inside (too_long.0 is));
          told = told;
        }
        own_steps_refused (timing.Inexact actor port) (Refused fault) is told = inexact_is (record { actor = actor; port = port }) is told
          where
            inexact_is : (s : Spot) → e ≡ Err (timing.Inexact s.actor s.port) → step_fault tables table (whole_timing own (timing.Inexact s.actor s.port)) ≡ Some fault → IsPeriodFault tables whole table all fault
            inexact_is s at h = record {
              why = timing.Inexact (whole_spot own s).actor (whole_spot own s).port;
              is = subst (λ xs. IsInexact whole.ports all xs (whole_spot own s)) all_same
                  (inexact_up whole.actors whole.edges whole.ports (clusters_of tables) cluster own net counts all spread long own_assigned inside s ((inexact s).0 at));
              told = h;
            }
        own_steps_refused timing.Memory (Refused fault) is told = absurd (none_some told)

  -- the plan
  module _ (counts : List ℕ) (steps : Steps) (has : HasTiming tables whole cluster table counts steps) (own_counts : List ℕ) (own_steps : Steps)
      (spread : AreSpread own.actor_numbers (length whole.actors) own_counts counts) (long : length own_counts ≡ length own.actor_numbers)
      (spread_steps : AreSpread own.actor_numbers (length whole.actors) own_steps.actor_steps.items steps.actor_steps.items) (steps_long : length own_steps.actor_steps.items ≡ length own.actor_numbers)
      (period : own_steps.period ≡ steps.period) where
    paced : IsPaced whole.edges counts steps.actor_steps.items
    paced = is_paced whole.edges whole.ports (clusters_of tables) cluster counts (assignments table) steps has.counts_are has.steps_are

    pub own_paced : IsPaced own.edges own_counts own_steps.actor_steps.items
    own_paced = record {
      balanced = balanced;
      few = (let s = spread_sum own.actor_numbers (length whole.actors) (IsActorInCluster (clusters_of tables) cluster) net.own_is.actor_numbers own_counts counts spread long in let f = paced.few in omega (arith, s, f));
      long = steps_long ∙ sym long;
      short = λ m. short m (cases_lt m (length own.actor_numbers));
    }
      where
        balanced : (e : Edge) → Contains own.edges e → IsBalanced (slice_index own_counts) e
        balanced e there =
            let at = contains_at own.edges e there in
            let writer = spread.at e.writer (net.own_is.writers at.0 e at.1) in
            let reader = spread.at e.reader (net.own_is.readers at.0 e at.1) in
            ap (λ n. n * e.write_rate) (sym writer) ∙ paced.balanced (whole_edge own.actor_numbers e) (edge_up net e there) ∙ ap (λ n. n * e.read_rate) reader

        short : (m : ℕ) → (m < length own.actor_numbers) ⊎ (length own.actor_numbers ≤ m) → slice_index own_counts m * slice_index own_steps.actor_steps.items m < time_end
        short m (inl less) = subst (λ n. n * slice_index own_steps.actor_steps.items m < time_end) (spread.at m less)
            (subst (λ n. slice_index counts (slice_index own.actor_numbers m) * n < time_end) (spread_steps.at m less) (paced.short (slice_index own.actor_numbers m)))
        short m (inr past) = subst (λ n. n * slice_index own_steps.actor_steps.items m < time_end) (sym (get_or_past own_counts m 0 (subst (λ n. n ≤ m) (sym long) past))) (omega arith)

    abbrev own_net : NetOf
    own_net = record { actors = own.actors; edges = own.edges; ports = own.ports }

    abbrev pace : ℕ → ℕ
    pace = pace_of whole.actors steps.actor_steps.items

    abbrev own_pace : ℕ → ℕ
    own_pace = pace_of own.actors own_steps.actor_steps.items

    pace_is : (i : ℕ) → i < length own.actor_numbers → own_pace i ≡ pace (slice_index own.actor_numbers i)
    pace_is = pace_up net own_steps.actor_steps.items steps.actor_steps.items spread_steps

    same_samples : samples_in own_net own_counts ≡ samples_in whole counts
    same_samples = samples_same whole.actors whole.edges whole.ports (clusters_of tables) cluster own net own_counts counts spread

    module _ (e : Planned) (large : (e ≡ Err planning.TooLarge) ↔ (most_samples < samples_in own_net own_counts)) where
      few_samples : (why : PlanErr) → e ≡ Err why → (planning.TooLarge ≡ why → ⊥) → samples_in whole counts ≤ most_samples
      few_samples why is other = subst (λ n. n ≤ most_samples) same_samples (few tables own_net table own_counts own_steps e large why is other)

      pub own_plan_refused : ((m : ℕ) → e ≡ Err (planning.Deadlock m) → IsDeadlock own.edges own_pace own_counts m)
          → ((m a : ℕ) → e ≡ Err (planning.Noncausal m a) → IsNoncausal own.edges own.actors own_pace own_counts m a)
          → (why : PlanErr) (told : ChangeErr) → e ≡ Err why → IsToldFault (plan_fault tables table (whole_planning own why)) told → IsRefusal (IsPlanFault tables whole table counts steps) told
      own_plan_refused dead late why Memory is told = tt
      own_plan_refused dead late planning.TooLarge (Refused fault) is told =
          record { why = planning.TooLarge; is = subst (λ n. most_samples < n) same_samples (large.0 is); told = told }
      own_plan_refused dead late (planning.Deadlock m) (Refused fault) is told = record {
        why = planning.Deadlock (slice_index own.actor_numbers m);
        is = (few_samples (planning.Deadlock m) is (λ h. grind (arith, h)), deadlock_up net own_counts counts long spread pace own_pace pace_is m (dead m is));
        told = told;
      }
      own_plan_refused dead late (planning.Noncausal m a) (Refused fault) is told = record {
        why = planning.Noncausal (slice_index own.actor_numbers m) a;
        is = (few_samples (planning.Noncausal m a) is (λ h. grind (arith, h)), noncausal_up net own_counts counts long spread pace own_pace pace_is m a (late m a is));
        told = told;
      }
      own_plan_refused dead late planning.Memory (Refused fault) is told = absurd (none_some told)

      pub own_plan_good : (plan found : Plan) → e ≡ Ok plan
          → (samples_in own_net own_counts ≤ most_samples → (m : ℕ) → IsDeadlock own.edges own_pace own_counts m → (e ≡ Err (planning.Deadlock m)) ⊎ (e ≡ Err planning.Memory))
          → (samples_in own_net own_counts ≤ most_samples → (m a : ℕ) → IsNoncausal own.edges own.actors own_pace own_counts m a → (e ≡ Err (planning.Noncausal m a)) ⊎ (e ≡ Err planning.Memory))
          → HasPlan own.edges own_pace own_counts own_steps.period plan → IsWholePlan own (length tables.edges) plan found → IsPlanOf whole counts steps found
      own_plan_good plan found is dead late has_plan renamed = record {
        none = no_fault;
        planned = subst (λ p. HasPlan whole.edges pace counts p found) period
            (whole_plan net own_counts counts long spread pace own_pace pace_is own_steps.period plan found has_plan
            (subst (λ n. IsWholePlan own n plan found) (sym (edges_long tables table)) renamed));
      }
        where
          good : IsPlanOf own_net own_counts own_steps plan
          good = plan_good tables own_net table own_counts own_steps e large plan is dead late has_plan

          no_fault : (why : PlanErr) → IsPlanErr whole counts steps why → ⊥
          no_fault planning.TooLarge high = good.none planning.TooLarge (subst (λ n. most_samples < n) (sym same_samples) high)
          no_fault (planning.Deadlock m) fault =
              let d = deadlock_down net own_counts counts long spread pace own_pace pace_is m fault.1 in
              good.none (planning.Deadlock d.0) (subst (λ n. n ≤ most_samples) (sym same_samples) fault.0, d.3)
          no_fault (planning.Noncausal m a) fault =
              let d = noncausal_down net own_counts counts long spread pace own_pace pace_is m a fault.1 in
              good.none (planning.Noncausal d.0 a) (subst (λ n. n ≤ most_samples) (sym same_samples) fault.0, d.3)
          no_fault planning.Memory none = none

-- the counts and steps of a cluster's actors, as they are picked from those of all
pub record IsOwnTiming (own : OwnOf) (actors : ℕ) (counts : List ℕ) (steps : Steps) (own_counts : List ℕ) (own_steps : Steps) : Type 0 where
  pub spread : AreSpread own.actor_numbers actors own_counts counts
  pub long : length own_counts ≡ length own.actor_numbers
  pub spread_steps : AreSpread own.actor_numbers actors own_steps.actor_steps.items steps.actor_steps.items
  pub steps_long : length own_steps.actor_steps.items ≡ length own.actor_numbers
  pub period : own_steps.period ≡ steps.period

module _ (tables : FlatTablesOf) (cluster : ℕ) (table : List AttrsOf) (own : OwnOf) (net : IsNetOfCluster tables cluster table own) where
  abbrev all_net : NetOf
  all_net = net_of tables table

  pub own_timing : (counts : List ℕ) (steps : Steps) → HasTiming tables all_net cluster table counts steps → (own_counts : List ℕ) → length own_counts ≡ length own.actor_numbers
      → ((i : ℕ) → i < length own.actor_numbers → slice_index own_counts i ≡ slice_index counts (slice_index own.actor_numbers i))
      → (own_steps : Steps) → length own_steps.actor_steps.items ≡ length own.actor_numbers
      → ((i : ℕ) → i < length own.actor_numbers → slice_index own_steps.actor_steps.items i ≡ slice_index steps.actor_steps.items (slice_index own.actor_numbers i))
      → own_steps.period ≡ steps.period → IsOwnTiming own (length all_net.actors) counts steps own_counts own_steps
  own_timing counts steps has own_counts long each own_steps steps_long steps_each period = record {
    spread = counts_picked tables cluster table own net counts own_counts has.counts_are each;
    long = long;
    spread_steps = steps_picked tables cluster table own net counts steps own_steps.actor_steps.items has.counts_are has.steps_are steps_each;
    steps_long = steps_long;
    period = period;
  }

  -- the plan, as it is told
  module _ (counts : List ℕ) (steps : Steps) (has : HasTiming tables all_net cluster table counts steps) (own_counts : List ℕ) (own_steps : Steps)
      (timed : IsOwnTiming own (length all_net.actors) counts steps own_counts own_steps)
      (n : NetOf) (same : n ≡ record { actors = own.actors; edges = own.edges; ports = own.ports }) (there : List ℕ) (same_counts : there ≡ own_counts) where
    pub paced_told : IsPaced n.edges there own_steps.actor_steps.items
    paced_told = subst (λ (x : NetOf). IsPaced x.edges there own_steps.actor_steps.items) (sym same) (subst (λ c. IsPaced own.edges c own_steps.actor_steps.items) (sym same_counts)
        (own_paced tables cluster table own net counts steps has own_counts own_steps timed.spread timed.long timed.spread_steps timed.steps_long timed.period))

    module _ (e : Planned) (large : (e ≡ Err planning.TooLarge) ↔ (most_samples < samples_in n there)) where
      own_large : (e ≡ Err planning.TooLarge) ↔ (most_samples < samples_in (record { actors = own.actors; edges = own.edges; ports = own.ports }) own_counts)
      own_large = subst (λ (x : NetOf). (e ≡ Err planning.TooLarge) ↔ (most_samples < samples_in x own_counts)) same (subst (λ c. (e ≡ Err planning.TooLarge) ↔ (most_samples < samples_in n c)) same_counts large)

      pub refused_told : ((m : ℕ) → e ≡ Err (planning.Deadlock m) → IsDeadlock n.edges (pace_in n own_steps) there m)
          → ((m a : ℕ) → e ≡ Err (planning.Noncausal m a) → IsNoncausal n.edges n.actors (pace_in n own_steps) there m a)
          → (why found : PlanErr) (told : ChangeErr) → e ≡ Err why → found ≡ whole_planning own why → IsToldFault (plan_fault tables table found) told → IsRefusal (IsPlanFault tables all_net table counts steps) told
      refused_told dead late why found told is renamed h =
          own_plan_refused tables cluster table own net counts steps has own_counts own_steps timed.spread timed.long timed.spread_steps timed.steps_long timed.period e own_large
          (λ m at. subst (λ (x : NetOf). IsDeadlock x.edges (pace_in x own_steps) own_counts m) same (subst (λ c. IsDeadlock n.edges (pace_in n own_steps) c m) same_counts (dead m at)))
          (λ m a at. subst (λ (x : NetOf). IsNoncausal x.edges x.actors (pace_in x own_steps) own_counts m a) same (subst (λ c. IsNoncausal n.edges n.actors (pace_in n own_steps) c m a) same_counts (late m a at)))
          why told is (subst (λ w. IsToldFault (plan_fault tables table w) told) renamed h)

      pub plan_told : (plan found : Plan) → e ≡ Ok plan
          → (samples_in n there ≤ most_samples → (m : ℕ) → IsDeadlock n.edges (pace_in n own_steps) there m → (e ≡ Err (planning.Deadlock m)) ⊎ (e ≡ Err planning.Memory))
          → (samples_in n there ≤ most_samples → (m a : ℕ) → IsNoncausal n.edges n.actors (pace_in n own_steps) there m a → (e ≡ Err (planning.Noncausal m a)) ⊎ (e ≡ Err planning.Memory))
          → HasPlan n.edges (pace_in n own_steps) there own_steps.period plan → (count : ℕ) → count ≡ length tables.edges → IsWholePlan own count plan found → IsPlanOf all_net counts steps found
      plan_told plan found is dead late has_plan count long renamed =
          own_plan_good tables cluster table own net counts steps has own_counts own_steps timed.spread timed.long timed.spread_steps timed.steps_long timed.period e own_large plan found is
          (subst (λ (x : NetOf). samples_in x own_counts ≤ most_samples → (m : ℕ) → IsDeadlock x.edges (pace_in x own_steps) own_counts m → (e ≡ Err (planning.Deadlock m)) ⊎ (e ≡ Err planning.Memory)) same
          (subst (λ c. samples_in n c ≤ most_samples → (m : ℕ) → IsDeadlock n.edges (pace_in n own_steps) c m → (e ≡ Err (planning.Deadlock m)) ⊎ (e ≡ Err planning.Memory)) same_counts dead))
          (subst (λ (x : NetOf). samples_in x own_counts ≤ most_samples → (m a : ℕ) → IsNoncausal x.edges x.actors (pace_in x own_steps) own_counts m a → (e ≡ Err (planning.Noncausal m a)) ⊎ (e ≡ Err planning.Memory)) same
          (subst (λ c. samples_in n c ≤ most_samples → (m a : ℕ) → IsNoncausal n.edges n.actors (pace_in n own_steps) c m a → (e ≡ Err (planning.Noncausal m a)) ⊎ (e ≡ Err planning.Memory)) same_counts late))
          (subst (λ (x : NetOf). HasPlan x.edges (pace_in x own_steps) own_counts own_steps.period plan) same (subst (λ c. HasPlan n.edges (pace_in n own_steps) c own_steps.period plan) same_counts has_plan))
          (subst (λ k. IsWholePlan own k plan found) long renamed)

  -- the steps, as they are told
  module _ (all own_counts : List ℕ) (has : HasCountsOf tables all_net cluster all) (long : length own_counts ≡ length own.actor_numbers)
      (each : (i : ℕ) → i < length own.actor_numbers → slice_index own_counts i ≡ slice_index all (slice_index own.actor_numbers i))
      (assigned own_assigned : List Assign) (are : map (whole_assign own) own_assigned ≡ assigned) (inside : All (λ (a : Assign). IsOwnSpot own (spot_of a)) own_assigned)
      (ports : List Port) (same_ports : ports ≡ own.ports) (there : List ℕ) (same_counts : there ≡ own_counts) (list : List Assign) (same_list : list ≡ own_assigned) where
    spread : AreSpread own.actor_numbers (length all_net.actors) own_counts all
    spread = counts_picked tables cluster table own net all own_counts has each

    moved : (P : List Port → List ℕ → List Assign → Type 0) → P own.ports own_counts own_assigned → P ports there list
    moved P is = subst (λ ps. P ps there list) (sym same_ports) (subst (λ c. P own.ports c list) (sym same_counts) (subst (P own.ports own_counts) (sym same_list) is))

    back : (P : List Port → List ℕ → List Assign → Type 0) → P ports there list → P own.ports own_counts own_assigned
    back P is = subst (λ ps. P ps own_counts own_assigned) same_ports (subst (λ c. P ports c own_assigned) same_counts (subst (P ports there) same_list is))

    pub few_told : All (λ q. q ≤ most_firings) there
    few_told = subst (All (λ q. q ≤ most_firings)) (sym same_counts) (few_picked tables cluster table own net all own_counts has long each)

    pub fit_told : All (IsAssigned all_net.ports all) assigned → All (IsAssigned ports there) list
    fit_told fit = moved (λ ps c xs. All (IsAssigned ps c) xs) (own_fit tables cluster table own net own_counts all spread long assigned own_assigned are inside fit)

    module _ (same : assigned ≡ assignments table) where
      pub steps_told : (steps found : Steps) → HasSteps ports there list steps → (actors : ℕ) → actors ≡ length all → AreSpread own.actor_numbers actors steps.actor_steps.items found.actor_steps.items
          → found.period ≡ steps.period → HasStepsOf all_net table all found
      steps_told steps found is actors same_actors spread_steps period =
          own_steps_up tables cluster table own net own_counts all spread long assigned own_assigned are inside same steps found (back (λ ps c xs. HasSteps ps c xs steps) is)
          (subst (λ k. AreSpread own.actor_numbers k steps.actor_steps.items found.actor_steps.items) (same_actors ∙ spread.long) spread_steps) period

      pub steps_refused_told : (e : Stepped) → ((e ≡ Err timing.NoTimestep) ↔ (list ≡ []))
          → ((a b : ℕ) → (e ≡ Err (timing.Disagree a b)) ↔ IsDisagreed ports there list a b)
          → ((e ≡ Err timing.TooLong) ↔ IsTooLong ports there list)
          → ((s : Spot) → (e ≡ Err (timing.Inexact s.actor s.port)) ↔ IsInexact ports there list s)
          → (why found : StepErr) (told : ChangeErr) → e ≡ Err why → found ≡ whole_timing own why → IsToldFault (step_fault tables table found) told → IsRefusal (IsPeriodFault tables all_net table all) told
      steps_refused_told e none disagree too_long inexact why found told is renamed h =
          own_steps_refused tables cluster table own net own_counts all spread long assigned own_assigned are inside same e
          (back (λ ps c xs. (e ≡ Err timing.NoTimestep) ↔ (xs ≡ [])) none)
          (λ a b. back (λ ps c xs. (e ≡ Err (timing.Disagree a b)) ↔ IsDisagreed ps c xs a b) (disagree a b))
          (back (λ ps c xs. (e ≡ Err timing.TooLong) ↔ IsTooLong ps c xs) too_long)
          (λ s. back (λ ps c xs. (e ≡ Err (timing.Inexact s.actor s.port)) ↔ IsInexact ps c xs s) (inexact s))
          why told is (subst (λ w. IsToldFault (step_fault tables table w) told) renamed h)
