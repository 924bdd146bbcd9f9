-- The faults of a cluster under a table of attributes, in two phases, and what it has without one.
-- Source: own.
use Rattle.std.specs.Prelude.{◌≡◌, ◌≤◌, ◌<◌, ℕ, List, [], ◌∷◌, Option, Some, None, slice_get}
use Rattle.tdf_balance.specs.Balance.{HasCounts, IsRatesFault, IsSizeFault}
use Rattle.tdf_balance.specs.declared.err.BalanceErr.{BalanceErr}
use Rattle.tdf_balance.specs.declared.err.BalanceErr.TheVariants as balance
use Rattle.tdf_base.specs.Limits.{most_samples}
use Rattle.tdf_base.specs.declared.codes.Code.{Code}
use Rattle.tdf_base.specs.declared.codes.Code.TheVariants as code
use Rattle.tdf_base.specs.declared.faults.Fault.{Fault}
use Rattle.tdf_base.specs.declared.faults.Place.{Place}
use Rattle.tdf_base.specs.declared.faults.Place.TheVariants as place
use Rattle.tdf_bind_tables.specs.FlatTables.{FlatTablesOf}
use Rattle.tdf_bind_tables.specs.Ranges.{module_path, port_path, actor_path, edge_path}
use Rattle.tdf_dynamic_plans.specs.Assignments.{assignments}
use Rattle.tdf_dynamic_plans.specs.Attributes.{AttrsOf, clusters_of}
use Rattle.tdf_dynamic_plans.specs.Rates.{NetOf, net_of}
use Rattle.tdf_dynamic_plans.specs.declared.err.ChangeErr.{ChangeErr}
use Rattle.tdf_dynamic_plans.specs.declared.err.ChangeErr.TheVariants.{Refused, Memory}
use Rattle.tdf_schedule.specs.Plan.{pace_of, period_samples, IsDeadlock, IsNoncausal, HasPlan}
use Rattle.tdf_schedule.specs.declared.entry.Plan.{Plan}
use Rattle.tdf_schedule.specs.declared.err.PlanErr.{PlanErr}
use Rattle.tdf_schedule.specs.declared.err.PlanErr.TheVariants as planning
use Rattle.tdf_timestep.specs.Period.{IsDisagreed, IsTooLong, IsInexact, HasSteps}
use Rattle.tdf_timestep.specs.declared.assign.Assign.{Assign}
use Rattle.tdf_timestep.specs.declared.assign.Steps.{Steps}
use Rattle.tdf_timestep.specs.declared.err.StepErr.{StepErr}
use Rattle.tdf_timestep.specs.declared.err.StepErr.TheVariants as timing

-- the path of a module or of one of its ports
abbrev pub spot_path : FlatTablesOf → ℕ → Option ℕ → List ℕ
spot_path tables «module» None = module_path (slice_get tables.modules «module»)
spot_path tables «module» (Some port) = port_path (slice_get tables.ports port)

abbrev pub assign_path : FlatTablesOf → Option Assign → List ℕ
assign_path tables None = []
assign_path tables (Some assign) = spot_path tables assign.actor assign.port

-- the path of the cluster's first module
abbrev pub first_path : FlatTablesOf → List AttrsOf → List ℕ
first_path tables [] = []
first_path tables (attrs ∷ table) = spot_path tables attrs.number None

abbrev pub fault_at : Code → List ℕ → Option Fault
fault_at why path = Some (record { code = why; place = place.At path })

-- a refusal is such a fault; want of memory is free
abbrev pub IsRefusal : (Fault → Type 0) → ChangeErr → Type 0
IsRefusal P (Refused fault) = P fault
IsRefusal P Memory = Unit {0}

-- a refusal is the fault that is told; want of memory is free
abbrev pub IsToldFault : Option Fault → ChangeErr → Type 0
IsToldFault told (Refused fault) = told ≡ Some fault
IsToldFault told Memory = Unit {0}

-- why a cluster has no counts, and how that is told
abbrev pub IsBalanceErr : NetOf → (clusters : List ℕ) (cluster : ℕ) → BalanceErr → Type 0
IsBalanceErr net clusters cluster (balance.Rates k) = IsRatesFault net.edges clusters cluster k
IsBalanceErr net clusters cluster balance.TooLarge = IsSizeFault net.edges clusters cluster
IsBalanceErr net clusters cluster balance.Memory = ⊥

abbrev pub balance_fault : FlatTablesOf → List AttrsOf → BalanceErr → Option Fault
balance_fault tables table (balance.Rates k) = fault_at code.Rates (edge_path tables k)
balance_fault tables table balance.TooLarge = fault_at code.Size (first_path tables table)
balance_fault tables table balance.Memory = None

pub record IsCountsFault (tables : FlatTablesOf) (net : NetOf) (cluster : ℕ) (table : List AttrsOf)
    (fault : Fault) : Type 0 where
  pub why : BalanceErr
  pub is : IsBalanceErr net (clusters_of tables) cluster why
  pub told : balance_fault tables table why ≡ Some fault

-- why it has no period, and how that is told
abbrev pub IsStepErr : NetOf → List AttrsOf → (counts : List ℕ) → StepErr → Type 0
IsStepErr net table counts timing.NoTimestep = assignments table ≡ []
IsStepErr net table counts (timing.Disagree a b) =
    IsDisagreed net.ports counts (assignments table) a b
IsStepErr net table counts timing.TooLong = IsTooLong net.ports counts (assignments table)
IsStepErr net table counts (timing.Inexact actor port) =
    IsInexact net.ports counts (assignments table) (record { actor = actor; port = port })
IsStepErr net table counts timing.Memory = ⊥

abbrev pub both_paths : FlatTablesOf → List Assign → ℕ → ℕ → Place
both_paths tables assigned a b =
    place.Both (assign_path tables (slice_get assigned a))
    (assign_path tables (slice_get assigned b))

abbrev pub step_fault : FlatTablesOf → List AttrsOf → StepErr → Option Fault
step_fault tables table timing.NoTimestep = fault_at code.NoTimestep (first_path tables table)
step_fault tables table (timing.Disagree a b) =
    Some (record { code = code.Disagree; place = both_paths tables (assignments table) a b })
step_fault tables table timing.TooLong = fault_at code.TooLong (first_path tables table)
step_fault tables table (timing.Inexact actor port) =
    fault_at code.Inexact (spot_path tables actor port)
step_fault tables table timing.Memory = None

pub record IsPeriodFault (tables : FlatTablesOf) (net : NetOf) (table : List AttrsOf)
    (counts : List ℕ) (fault : Fault) : Type 0 where
  pub why : StepErr
  pub is : IsStepErr net table counts why
  pub told : step_fault tables table why ≡ Some fault

-- the first phase: the counts of the cluster, then its period and the steps of its actors
abbrev pub HasCountsOf : FlatTablesOf → NetOf → (cluster : ℕ) (counts : List ℕ) → Type 0
HasCountsOf tables net cluster counts = HasCounts net.edges (clusters_of tables) cluster counts

abbrev pub HasStepsOf : NetOf → List AttrsOf → (counts : List ℕ) → Steps → Type 0
HasStepsOf net table counts steps = HasSteps net.ports counts (assignments table) steps

pub record HasTiming (tables : FlatTablesOf) (net : NetOf) (cluster : ℕ) (table : List AttrsOf)
    (counts : List ℕ) (steps : Steps) : Type 0 where
  pub counts_are : HasCountsOf tables net cluster counts
  pub steps_are : HasStepsOf net table counts steps

pub data IsStepsFault (tables : FlatTablesOf) (net : NetOf) (cluster : ℕ) (table : List AttrsOf)
    (fault : Fault) : Type 0 where
  OfCounts : IsCountsFault tables net cluster table fault
      → IsStepsFault tables net cluster table fault
  OfPeriod : (counts : List ℕ) → HasCountsOf tables net cluster counts
      → IsPeriodFault tables net table counts fault
      → IsStepsFault tables net cluster table fault

-- the time from one firing of an actor to the next
abbrev pub pace_in : NetOf → Steps → ℕ → ℕ
pace_in net steps = pace_of net.actors steps.actor_steps.items

-- the samples in the buffers of the cluster
abbrev pub samples_in : NetOf → (counts : List ℕ) → ℕ
samples_in net counts = period_samples net.edges net.ports counts

-- the second phase: why a cluster has no plan, and how that is told
abbrev pub IsPlanErr : NetOf → (counts : List ℕ) → Steps → PlanErr → Type 0
IsPlanErr net counts steps planning.TooLarge = most_samples < samples_in net counts
IsPlanErr net counts steps (planning.Deadlock m) =
    (samples_in net counts ≤ most_samples)
    × IsDeadlock net.edges (pace_in net steps) counts m
IsPlanErr net counts steps (planning.Noncausal m a) =
    (samples_in net counts ≤ most_samples)
    × IsNoncausal net.edges net.actors (pace_in net steps) counts m a
IsPlanErr net counts steps planning.Memory = ⊥

abbrev pub plan_fault : FlatTablesOf → List AttrsOf → PlanErr → Option Fault
plan_fault tables table planning.TooLarge = fault_at code.Buffers (first_path tables table)
plan_fault tables table (planning.Deadlock m) = fault_at code.Deadlock (actor_path tables m)
plan_fault tables table (planning.Noncausal m a) =
    Some (record { code = code.Noncausal; place = place.AtIndex (actor_path tables m) a })
plan_fault tables table planning.Memory = None

pub record IsPlanFault (tables : FlatTablesOf) (net : NetOf) (table : List AttrsOf)
    (counts : List ℕ)
    (steps : Steps) (fault : Fault) : Type 0 where
  pub why : PlanErr
  pub is : IsPlanErr net counts steps why
  pub told : plan_fault tables table why ≡ Some fault

-- the plan, where there is no such fault
pub record IsPlanOf (net : NetOf) (counts : List ℕ) (steps : Steps) (plan : Plan) : Type 0 where
  pub none : (why : PlanErr) → IsPlanErr net counts steps why → ⊥
  pub planned : HasPlan net.edges (pace_in net steps) counts steps.period plan

-- the first fault of a cluster: of the first phase, else of the second
pub data IsNetFault (tables : FlatTablesOf) (net : NetOf) (cluster : ℕ) (table : List AttrsOf)
    (fault : Fault) : Type 0 where
  OfTiming : IsStepsFault tables net cluster table fault
      → IsNetFault tables net cluster table fault
  OfPlan : (counts : List ℕ) (steps : Steps) → HasTiming tables net cluster table counts steps
      → IsPlanFault tables net table counts steps fault
      → IsNetFault tables net cluster table fault

-- the plan of a cluster
pub record IsNetPlan (tables : FlatTablesOf) (net : NetOf) (cluster : ℕ) (table : List AttrsOf)
    (plan : Plan) : Type 0 where
  pub counts : List ℕ
  pub steps : Steps
  pub timing : HasTiming tables net cluster table counts steps
  pub plan_is : IsPlanOf net counts steps plan

-- the first fault, and the plan, of a cluster under a table
abbrev pub IsTableFault : FlatTablesOf → (cluster : ℕ) → List AttrsOf → Fault → Type 0
IsTableFault tables cluster table fault =
    IsNetFault tables (net_of tables table) cluster table fault

abbrev pub IsTablePlan : FlatTablesOf → (cluster : ℕ) → List AttrsOf → Plan → Type 0
IsTablePlan tables cluster table plan =
    IsNetPlan tables (net_of tables table) cluster table plan
