-- The plan of a cluster as the text says it, or its first fault.
-- Source: own.
use Rattle.std.specs.Prelude.{◌≡◌, ◌<◌, ℕ, List, [], Option, Some, None, All, slice_get}
use Rattle.tdf_base.specs.Limits.{time_end}
use Rattle.tdf_base.specs.declared.faults.Fault.{Fault}
use Rattle.tdf_dynamic_plans.specs.Faults.{IsTableFault, IsTablePlan}
use Rattle.tdf_dynamic_plans.specs.Known.{AreTrueFor}
use Rattle.tdf_dynamic_plans.specs.Rates.{times_value, IsWired}
use Rattle.tdf_dynamic_first.specs.Text.{first_table}
use Rattle.tdf_dynamic_first.specs.declared.first.First.{First}
use Rattle.tdf_expr.specs.Checked.{IsChecked}
use Rattle.tdf_expr.specs.Made.{block_count, start_rates}
use Rattle.tdf_bind.specs.declared.model.Flat.{Flat}
use Rattle.tdf_graph.specs.Ranges.{IsRate}
use Rattle.tdf_bind_connections.specs.declared.modules.ModuleRow.{ModuleRow}
use Rattle.tdf_bind_connections.specs.declared.modules.PortRow.{PortRow}

-- the table of the text and its plan; the plans that are known are those of the cluster
pub record IsFirstPlan (flat : Flat) (cluster : ℕ) (first : First) : Type 0 where
  pub attrs_are : first.attrs.rows ≡ first_table flat cluster
  pub plan_is : IsTablePlan flat.tables cluster (first_table flat cluster) first.plan
  pub known : AreTrueFor flat.tables cluster first.attrs.known.plans

-- the first fault of a cluster
abbrev pub IsClusterFault : Flat → (cluster : ℕ) → Fault → Type 0
IsClusterFault flat cluster fault =
    IsTableFault flat.tables cluster (first_table flat cluster) fault

-- the values that the rate variables of a module start with
abbrev pub values_of : Flat → Option ModuleRow → List ℕ
values_of flat None = []
values_of flat (Some row) = start_rates flat.checked row.block

abbrev pub text_rate : Flat → PortRow → ℕ
text_rate flat port = times_value port.rate.times
    (values_of flat (slice_get flat.tables.modules port.«module»)) port.rate.var

-- the rates of the text are in range
abbrev pub HasRatesInRange : Flat → Type 0
HasRatesInRange flat = All (λ port. IsRate (text_rate flat port)) flat.tables.ports

-- what a flat model has, so that its clusters can be planned: its tables are wired, its timesteps
-- short, its modules of blocks that were checked, and its rates in range
pub record IsPlannable (flat : Flat) : Type 0 where
  pub wired : IsWired flat.tables
  pub module_steps : All (λ row. row.step < time_end) flat.tables.modules
  pub port_steps : All (λ row. row.step < time_end) flat.tables.ports
  pub checked_is : IsChecked flat.checked
  pub blocks : All (λ row. row.block < block_count flat.checked) flat.tables.modules
  pub rates : HasRatesInRange flat
