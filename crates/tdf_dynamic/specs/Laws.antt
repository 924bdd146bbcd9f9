-- What holds of the answers of a boundary, and of what modules ask for.
-- Source: own.
use Rattle.std.specs.Prelude.{◌≡◌, ℕ, ℤ, List, Contains}
use Rattle.tdf_base.specs.declared.faults.Fault.{Fault}
use Rattle.tdf_dynamic.specs.Change.{Asks, IsChangeFault, IsNewPlan, IsSame, asks_of, table_after}
use Rattle.tdf_dynamic_plans.specs.Attributes.{AttrsOf, clusters_of}
use Rattle.tdf_dynamic_plans.specs.Same.{AreSamePlans}
use Rattle.tdf_expr.specs.Checked.{IsCheckedOf}
use Rattle.tdf_bind.specs.declared.model.Flat.{Flat}
use Rattle.tdf_streams.specs.Below.{AreWithinLimits}
use Rattle.tdf_schedule.specs.declared.entry.Plan.{Plan}
use Rattle.tdf_streams.specs.Periods.{AreAttributes}
use Rattle.tdf_lang_tree.specs.Kept.{IsKept}
use Rattle.tdf_lang_tree.specs.Pure.{PureTree}

-- a table of a cluster and what its modules ask for, which leads to a table of the cluster
pub record IsBoundary (flat : Flat) (cluster : ℕ) (asks : Asks) (table : List AttrsOf)
    : Type 0 where
  pub limits : AreWithinLimits flat
  pub has : Contains (clusters_of flat.tables) cluster
  pub before : AreAttributes flat cluster table
  pub after : AreAttributes flat cluster (table_after asks table)

-- of the answers of a boundary there is at most one
pub record BoundariesHaveOne : Type 0 where
  pub same_or_fault : (flat : Flat) (cluster : ℕ) (asks : Asks) (table : List AttrsOf)
      → (fault : Fault) → IsSame asks table
      → IsChangeFault flat.tables cluster asks table fault → ⊥
  pub same_or_plan : (flat : Flat) (cluster : ℕ) (asks : Asks) (table : List AttrsOf)
      → (plan : Plan) → IsSame asks table
      → IsNewPlan flat.tables cluster asks table plan → ⊥
  pub one_fault : (flat : Flat) (cluster : ℕ) (asks : Asks) (table : List AttrsOf)
      → (one other : Fault) → IsBoundary flat cluster asks table
      → IsChangeFault flat.tables cluster asks table one
      → IsChangeFault flat.tables cluster asks table other → one ≡ other
  pub fault_or_plan : (flat : Flat) (cluster : ℕ) (asks : Asks) (table : List AttrsOf)
      → (fault : Fault) (plan : Plan) → IsBoundary flat cluster asks table
      → IsChangeFault flat.tables cluster asks table fault
      → IsNewPlan flat.tables cluster asks table plan → ⊥
  pub one_plan : (flat : Flat) (cluster : ℕ) (asks : Asks) (table : List AttrsOf)
      → (one other : Plan) → IsBoundary flat cluster asks table
      → IsNewPlan flat.tables cluster asks table one
      → IsNewPlan flat.tables cluster asks table other → AreSamePlans one other

-- whatever their variables hold, the attributes that the modules of a text ask for are of the
-- cluster
abbrev pub AttributesStay : Type 0
AttributesStay = (model : PureTree) (flat : Flat) (cluster : ℕ) (table : List AttrsOf)
    → (cells : ℕ → List ℤ) → IsKept model → IsCheckedOf model flat.checked
    → AreAttributes flat cluster table
    → AreAttributes flat cluster (table_after (asks_of model flat cells) table)
