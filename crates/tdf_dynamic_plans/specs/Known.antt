-- The plans of a cluster that are kept, each with what it is known by.
-- Source: own.
use Rattle.std.specs.Prelude.{◌≡◌, ◌+◌, ◌-◌, ◌^◌, ◌≤◌, ◌++◌, ◌∷◌, [], ℕ, All, List, Some, drop, length, map, min, slice_get}
use Rattle.tdf_bind_tables.specs.FlatTables.{FlatTablesOf}
use Rattle.tdf_dynamic_plans.specs.Attributes.{AttrsOf, IsOfCluster}
use Rattle.tdf_dynamic_plans.specs.Faults.{HasTiming, IsPlanOf}
use Rattle.tdf_dynamic_plans.specs.Rates.{net_of}
use Rattle.tdf_schedule.specs.declared.entry.Plan.{Plan}
use Rattle.tdf_timestep.specs.declared.assign.Steps.{Steps}

-- what a plan is known by: the modules of a table, each with the values of its rate variables and
-- with the timesteps that are assigned to it and to its ports
pub record KeyOf : Type 0 where
  pub number : ℕ
  pub rates : List ℕ
  pub steps : List ℕ

abbrev pub row_key : AttrsOf → KeyOf
row_key attrs = record { number = attrs.number; rates = attrs.rates; steps = attrs.steps }

abbrev pub table_key : List AttrsOf → List KeyOf
table_key table = map row_key table

-- a plan with its counts and steps, and what it is known by
pub record KnownOf : Type 0 where
  pub key : List KeyOf
  pub counts : List ℕ
  pub steps : Steps
  pub plan : Plan

-- the plans that are kept, the one that was kept first in front; how many may be; how often one
-- was made
pub record PlansOf : Type 0 where
  pub plans : List KnownOf
  pub most : ℕ
  pub made : ℕ

-- the table of a cluster: its rows, and the plans of the cluster that are kept
pub record AttrsTable : Type 0 where
  pub rows : List AttrsOf
  pub known : PlansOf

-- each table of the cluster that has its key has its counts and steps, and its plan
pub record IsTrueFor (tables : FlatTablesOf) (cluster : ℕ) (known : KnownOf) : Type 0 where
  pub timing : (table : List AttrsOf) → All (IsOfCluster tables cluster) table
      → table_key table ≡ known.key
      → HasTiming tables (net_of tables table) cluster table known.counts known.steps
  pub plan_is : (table : List AttrsOf) → All (IsOfCluster tables cluster) table
      → table_key table ≡ known.key
      → IsPlanOf (net_of tables table) known.counts known.steps known.plan

abbrev pub AreTrueFor : FlatTablesOf → (cluster : ℕ) → List KnownOf → Type 0
AreTrueFor tables cluster plans = All (IsTrueFor tables cluster) plans

-- a plan that may be kept
abbrev pub IsShort : Plan → Type 0
IsShort plan = length plan.entries.items ≤ 16384

-- no more than eight are kept, and none that is longer
pub record AreFew (kept : PlansOf) : Type 0 where
  pub few : length kept.plans ≤ kept.most
  pub most : kept.most ≤ 8
  pub short : All (λ known. IsShort known.plan) kept.plans

-- the plan that is kept at a place has this key
abbrev pub IsKnownAt : List KnownOf → List KeyOf → ℕ → Type 0
IsKnownAt plans key i = (known : KnownOf) × (slice_get plans i ≡ Some known) × (known.key ≡ key)

-- some plan that is kept has it
abbrev pub IsKnown : List KnownOf → List KeyOf → Type 0
IsKnown plans key = (i : ℕ) × IsKnownAt plans key i

-- a plan has the same entries, bounds and period as another
pub record HasSameItems (plan other : Plan) : Type 0 where
  pub entries : other.entries.items ≡ plan.entries.items
  pub bounds : other.bounds.items ≡ plan.bounds.items
  pub period : other.period ≡ plan.period

-- one more, for which the one that was kept first gives way where there are as many as may be
abbrev pub with_plan : ℕ → List KnownOf → KnownOf → List KnownOf
with_plan most plans known = drop (length plans + 1 - most) plans ++ known ∷ []

-- a plan that was made is kept last, where plans are kept and it may be; else they stay
pub data HasKept (key : List KeyOf) (counts : List ℕ) (steps : Steps) (plan : Plan)
    (old new : PlansOf) : Type 0 where
  Kept : (copy : Plan) → HasSameItems plan copy → 1 ≤ old.most → IsShort plan
      → new.plans ≡ with_plan old.most old.plans (record {
        key = key;
        counts = counts;
        steps = steps;
        plan = copy;
      })
      → HasKept key counts steps plan old new
  Left : (1 ≤ old.most → IsShort plan → ⊥) → new.plans ≡ old.plans
      → HasKept key counts steps plan old new

-- what is left of the plans that are kept where the plan of this key was found: all as they were
-- where one has it; else the plan was made, which counts, and is kept where it may be
pub data HasPlanned (key : List KeyOf) (counts : List ℕ) (steps : Steps) (plan : Plan)
    (old new : PlansOf) : Type 0 where
  Known : IsKnown old.plans key → new ≡ old → HasPlanned key counts steps plan old new
  Made : (IsKnown old.plans key → ⊥) → HasKept key counts steps plan old new
      → new.most ≡ old.most → new.made ≡ min (old.made + 1) (2 ^ 64 - 1)
      → HasPlanned key counts steps plan old new

-- the same where the plan of a cluster under a table was found
pub record HasTablePlanned (tables : FlatTablesOf) (cluster : ℕ) (table : List AttrsOf)
    (plan : Plan) (old new : PlansOf) : Type 0 where
  pub counts : List ℕ
  pub steps : Steps
  pub timing : HasTiming tables (net_of tables table) cluster table counts steps
  pub plan_is : IsPlanOf (net_of tables table) counts steps plan
  pub planned : HasPlanned (table_key table) counts steps plan old new
