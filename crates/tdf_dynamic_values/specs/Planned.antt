-- A table of attributes with its plan.
-- Source: own.
use Rattle.std.specs.Prelude.{◌≡◌, ℕ, List}
use Rattle.tdf_bind.specs.declared.model.Flat.{Flat}
use Rattle.tdf_dynamic_first.specs.declared.first.First.{First}
use Rattle.tdf_dynamic_plans.specs.Attributes.{AttrsOf}
use Rattle.tdf_dynamic_plans.specs.Faults.{IsTablePlan}
use Rattle.tdf_dynamic_plans.specs.Known.{AreTrueFor}
use Rattle.tdf_streams.specs.Periods.{AreAttributes}

-- the table and its plan; the plans that are known are those of the cluster
pub record IsTableFirst (flat : Flat) (cluster : ℕ) (table : List AttrsOf) (first : First)
    : Type 0 where
  pub attrs_are : first.attrs.rows ≡ table
  pub attributes : AreAttributes flat cluster first.attrs.rows
  pub plan_is : IsTablePlan flat.tables cluster table first.plan
  pub known : AreTrueFor flat.tables cluster first.attrs.known.plans
