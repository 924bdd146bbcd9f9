-- From the answers of counts, steps and plans to the faults of a cluster.
use Rattle.std.proofs.Common.{◌≡◌, ◌∙◌, ℕ, ◌<◌, ◌≤◌, List, Option, Some, None, sym, ap, subst, inl, inr, ◌⊎◌}
use Rattle.std.proofs.lemmas.Bool.{cases_lt}
use Rattle.std.specs.Global.{Global}
use Rattle.std.specs.Prelude.{◌↔◌, Result, Ok, Err, IfErr, Vec}
use Rattle.tdf_balance.specs.declared.err.BalanceErr.{BalanceErr}
use Rattle.tdf_base.specs.Limits.{most_samples}
use Rattle.tdf_bind_tables.specs.FlatTables.{FlatTablesOf}
use Rattle.tdf_dynamic_plans.specs.Attributes.{AttrsOf}
use Rattle.tdf_dynamic_plans.specs.Faults.{IsCountsFault, IsPeriodFault, HasCountsOf, HasTiming, IsStepsFault, OfCounts, OfPeriod, pace_in, samples_in, IsPlanErr, IsPlanFault, IsPlanOf, IsNetFault, OfTiming, OfPlan, IsRefusal}
use Rattle.tdf_dynamic_plans.specs.Rates.{NetOf}
use Rattle.tdf_dynamic_plans.specs.declared.err.ChangeErr.{ChangeErr}
use Rattle.tdf_dynamic_plans.specs.declared.err.ChangeErr.TheVariants.{Refused, Memory}
use Rattle.tdf_schedule.specs.Plan.{IsDeadlock, IsNoncausal, HasPlan}
use Rattle.tdf_schedule.specs.declared.entry.Plan.{Plan}
use Rattle.tdf_schedule.specs.declared.err.PlanErr.{PlanErr}
use Rattle.tdf_schedule.specs.declared.err.PlanErr.TheVariants as planning
use Rattle.tdf_timestep.specs.declared.assign.Steps.{Steps}
use Rattle.tdf_timestep.specs.declared.err.StepErr.{StepErr}

pub none_some : {A : Type 0} {x : A} → None ≡ Some x → ⊥
none_some {A} e = subst only_none e tt
  where
    only_none : Option A → Type 0
    only_none None = Unit {0}
    only_none (Some y) = ⊥

-- the counts
abbrev pub Counted : Type 0
Counted = Result (Vec ℕ Global) BalanceErr

-- the steps
abbrev pub Stepped : Type 0
Stepped = Result Steps StepErr

-- the plan
abbrev pub Planned : Type 0
Planned = Result Plan PlanErr

pub ok_err : {A E : Type 0} (r : Result A E) (x : A) (y : E) → r ≡ Ok x → r ≡ Err y → ⊥
ok_err {A} {E} r x y is not = subst only_ok (sym is ∙ not) tt
  where
    only_ok : Result A E → Type 0
    only_ok (Ok z) = Unit {0}
    only_ok (Err z) = ⊥

pub err_same : {A E : Type 0} (r : Result A E) (x y : E) → r ≡ Err x → r ≡ Err y → x ≡ y
err_same {A} {E} r x y one other = ap or_x (sym one ∙ other)
  where
    or_x : Result A E → E
    or_x (Ok z) = x
    or_x (Err z) = z

module _ (tables : FlatTablesOf) (net : NetOf) (table : List AttrsOf) (counts : List ℕ) (steps : Steps) (e : Planned)
    (large : (e ≡ Err planning.TooLarge) ↔ (most_samples < samples_in net counts)) where
  pub few : (why : PlanErr) → e ≡ Err why → (planning.TooLarge ≡ why → ⊥) → samples_in net counts ≤ most_samples
  few why is other = go (cases_lt most_samples (samples_in net counts))
    where
      go : (most_samples < samples_in net counts) ⊎ (samples_in net counts ≤ most_samples) → samples_in net counts ≤ most_samples
      go (inr low) = low
      go (inl high) = absurd (other (err_same e planning.TooLarge why (large.1 high) is))

  pub plan_good : (plan : Plan) → e ≡ Ok plan
      → (samples_in net counts ≤ most_samples → (m : ℕ) → IsDeadlock net.edges (pace_in net steps) counts m → (e ≡ Err (planning.Deadlock m)) ⊎ (e ≡ Err planning.Memory))
      → (samples_in net counts ≤ most_samples → (m a : ℕ) → IsNoncausal net.edges net.actors (pace_in net steps) counts m a → (e ≡ Err (planning.Noncausal m a)) ⊎ (e ≡ Err planning.Memory))
      → HasPlan net.edges (pace_in net steps) counts steps.period plan → IsPlanOf net counts steps plan
  plan_good plan is dead late has = record { none = no_fault; planned = has }
    where
      not_err : (why : PlanErr) → e ≡ Err why → ⊥
      not_err why h = ok_err e plan why is h

      not_either : (one other : PlanErr) → (e ≡ Err one) ⊎ (e ≡ Err other) → ⊥
      not_either one other (inl h) = not_err one h
      not_either one other (inr h) = not_err other h

      no_fault : (why : PlanErr) → IsPlanErr net counts steps why → ⊥
      no_fault planning.TooLarge high = not_err planning.TooLarge (large.1 high)
      no_fault (planning.Deadlock m) fault = not_either (planning.Deadlock m) planning.Memory (dead fault.0 m fault.1)
      no_fault (planning.Noncausal m a) fault = not_either (planning.Noncausal m a) planning.Memory (late fault.0 m a fault.1)
      no_fault planning.Memory none = none

-- from phase to phase
module _ (tables : FlatTablesOf) (net : NetOf) (cluster : ℕ) (table : List AttrsOf) where
  pub from_counts : (told : ChangeErr) → IsRefusal (IsCountsFault tables net cluster table) told → IsRefusal (IsStepsFault tables net cluster table) told
  from_counts Memory h = tt
  from_counts (Refused fault) h = OfCounts h

  pub from_period : (counts : List ℕ) (told : ChangeErr) → HasCountsOf tables net cluster counts → IsRefusal (IsPeriodFault tables net table counts) told
      → IsRefusal (IsStepsFault tables net cluster table) told
  from_period counts Memory has h = tt
  from_period counts (Refused fault) has h = OfPeriod counts has h

  pub from_timing : (told : ChangeErr) → IsRefusal (IsStepsFault tables net cluster table) told → IsRefusal (IsNetFault tables net cluster table) told
  from_timing Memory h = tt
  from_timing (Refused fault) h = OfTiming h

  pub from_plan : (counts : List ℕ) (steps : Steps) (told : ChangeErr) → HasTiming tables net cluster table counts steps
      → IsRefusal (IsPlanFault tables net table counts steps) told → IsRefusal (IsNetFault tables net cluster table) told
  from_plan counts steps Memory has h = tt
  from_plan counts steps (Refused fault) has h = OfPlan counts steps has h

  pub all_from_plan : (counts : List ℕ) (steps : Steps) (r : Result Plan ChangeErr) → HasTiming tables net cluster table counts steps
      → IfErr r (IsRefusal (IsPlanFault tables net table counts steps)) → IfErr r (IsRefusal (IsNetFault tables net cluster table))
  all_from_plan counts steps (Ok plan) has h = tt
  all_from_plan counts steps (Err told) has h = from_plan counts steps told has h
