-- The table that the states of the modules of a cluster say.
-- Source: own.
use Rattle.std.specs.List.{flat_map}
use Rattle.std.specs.Prelude.{ℕ, Bool, List, map}
use Rattle.tdf_base.specs.declared.faults.Fault.{Fault}
use Rattle.tdf_bind.specs.declared.model.Flat.{Flat}
use Rattle.tdf_dynamic_plans.specs.Attributes.{AttrsOf}
use Rattle.tdf_dynamic_plans.specs.Faults.{IsTableFault}
use Rattle.tdf_dynamic_values.specs.Values.{AreValuesFor, HoldsValues}
use Rattle.tdf_saved.specs.State.{ModuleStateOf}
use Rattle.tdf_streams.specs.Periods.{AreAttributes}

-- the values of states, one after the other
abbrev pub state_flags : List ModuleStateOf → List Bool
state_flags modules = map (λ (m : ModuleStateOf). m.accept) modules

abbrev pub state_rates : List ModuleStateOf → List ℕ
state_rates modules = flat_map (λ (m : ModuleStateOf). m.rates) modules

abbrev pub state_steps : List ModuleStateOf → List ℕ
state_steps modules = flat_map (λ (m : ModuleStateOf). m.steps) modules

-- states with as many values as the modules of the cluster have, within their limits
abbrev pub AreStatesFor : Flat → (cluster : ℕ) → List ModuleStateOf → Type 0
AreStatesFor flat cluster modules =
    AreValuesFor flat cluster (state_flags modules) (state_rates modules) (state_steps modules)

-- the table of the cluster that holds their values
pub record IsTableOfStates (flat : Flat) (cluster : ℕ) (modules : List ModuleStateOf)
    (table : List AttrsOf) : Type 0 where
  pub attributes : AreAttributes flat cluster table
  pub holds : HoldsValues flat cluster (state_flags modules) (state_rates modules)
      (state_steps modules) table

-- the first fault of the cluster under that table
pub record IsStatesFault (flat : Flat) (cluster : ℕ) (modules : List ModuleStateOf)
    (fault : Fault) : Type 0 where
  pub table : List AttrsOf
  pub is : IsTableOfStates flat cluster modules table
  pub has : IsTableFault flat.tables cluster table fault
