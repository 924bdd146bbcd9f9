-- What holds of the faults and plans of clusters.
-- Source: own.
use Rattle.std.specs.Prelude.{◌≡◌, ◌≤◌, ℕ, Contains}
use Rattle.tdf_base.specs.declared.faults.Fault.{Fault}
use Rattle.tdf_bind_tables.specs.FlatTables.{FlatTablesOf, AreShort}
use Rattle.tdf_dynamic_plans.specs.Attributes.{clusters_of}
use Rattle.tdf_dynamic_first.specs.First.{IsFirstPlan, IsClusterFault, IsPlannable}
use Rattle.tdf_dynamic_plans.specs.Rates.{IsWired}
use Rattle.tdf_dynamic_first.specs.declared.first.First.{First}
use Rattle.tdf_bind.specs.Flat.{IsFlatOf}
use Rattle.tdf_bind.specs.declared.model.Flat.{Flat}
use Rattle.tdf_graph.specs.Clusters.{greatest}
use Rattle.tdf_bind.specs.Below.{roles_of}
use Rattle.tdf_dynamic_plans.specs.Same.{AreSamePlans}
use Rattle.tdf_lang_tree.specs.Kept.{IsKept}
use Rattle.tdf_lang_tree.specs.Pure.{PureTree}

-- the same attributes and the same plan
pub record AreSameFirsts (one other : First) : Type 0 where
  pub attrs_are : one.attrs.rows ≡ other.attrs.rows
  pub plans_are : AreSamePlans one.plan other.plan

-- a cluster of a flat model
pub record IsPlannableCluster (flat : Flat) (cluster : ℕ) : Type 0 where
  pub plannable : IsPlannable flat
  pub has : Contains (clusters_of flat.tables) cluster

-- of the faults and plans of a cluster there is at most one
pub record ClustersHaveOne : Type 0 where
  pub one_fault : (flat : Flat) (cluster : ℕ) (one other : Fault) → IsPlannableCluster flat cluster
      → IsClusterFault flat cluster one → IsClusterFault flat cluster other → one ≡ other
  pub fault_or_plan : (flat : Flat) (cluster : ℕ) (fault : Fault) (first : First)
      → IsPlannableCluster flat cluster → IsClusterFault flat cluster fault
      → IsFirstPlan flat cluster first → ⊥
  pub one_plan : (flat : Flat) (cluster : ℕ) (one other : First) → IsPlannableCluster flat cluster
      → IsFirstPlan flat cluster one → IsFirstPlan flat cluster other → AreSameFirsts one other

-- a flat model of a tree that keeps what a spelled tree keeps, and whose delays are within their
-- limit, can be planned
abbrev pub FlatIsPlannable : Type 0
FlatIsPlannable = (model : PureTree) (flat : Flat) → IsKept model → AreShort (roles_of model)
    → IsFlatOf model flat → IsPlannable flat

-- each number from 1 to the greatest is that of a cluster
abbrev pub ClustersAreWhole : Type 0
ClustersAreWhole = (tables : FlatTablesOf) (cluster : ℕ) → IsWired tables → 1 ≤ cluster
    → cluster ≤ greatest (clusters_of tables) → Contains (clusters_of tables) cluster
