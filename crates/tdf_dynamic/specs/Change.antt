-- What a boundary of a cluster leads to: the same plan, the first fault, or a new plan.
-- Source: IEEE 1666.1-2016, changes of attributes between periods; the faults are own.
use Rattle.std.specs.Prelude.{◌≡◌, ◌<◌, ◌/◌, ℕ, true, false, List, map, Option, Some, ℤ, All, slice_get, slice_index}
use Rattle.tdf_base.specs.declared.codes.Code.{Code}
use Rattle.tdf_base.specs.declared.codes.Code.TheVariants as code
use Rattle.tdf_base.specs.declared.faults.Fault.{Fault}
use Rattle.tdf_bind_tables.specs.FlatTables.{FlatTablesOf}
use Rattle.tdf_bind_tables.specs.Ranges.{module_path}
use Rattle.tdf_dynamic.specs.Asked.{AskedOf, HasSameRates, IsQuiet, asked, attrs_after}
use Rattle.tdf_dynamic_plans.specs.Attributes.{AttrsOf}
use Rattle.tdf_dynamic_plans.specs.Faults.{HasTiming, IsPlanFault, IsPlanOf, IsStepsFault, fault_at}
use Rattle.tdf_dynamic_plans.specs.Rates.{net_of, net_ports}
use Rattle.tdf_bind.specs.declared.model.Flat.{Flat}
use Rattle.tdf_graph.specs.declared.actors.Port.{Port}
use Rattle.tdf_schedule.specs.declared.entry.Plan.{Plan}
use Rattle.tdf_timestep.specs.Period.{rate_at_port}
use Rattle.tdf_timestep.specs.declared.assign.Steps.{Steps}
use Rattle.tdf_lang_tree.specs.Pure.{PureTree}

-- what each module asks for, by its attributes
abbrev pub Asks : Type 0
Asks = AttrsOf → AskedOf

-- what the modules ask for, whose variables have these values by number
abbrev pub asks_of : PureTree → Flat → (cells : ℕ → List ℤ) → Asks
asks_of model flat cells attrs = asked model flat attrs (cells attrs.number)

-- the table after the change bodies
abbrev pub table_after : Asks → List AttrsOf → List AttrsOf
table_after asks table = map (λ attrs. attrs_after attrs (asks attrs)) table

-- no module differs
abbrev pub IsSame : Asks → List AttrsOf → Type 0
IsSame asks table = All (λ attrs. IsQuiet attrs (asks attrs)) table

-- the first row of a table for which something holds
pub record IsFirstRow (table : List AttrsOf) (P : AttrsOf → Type 0) (attrs : AttrsOf) : Type 0 where
  pub place : ℕ
  pub at : slice_get table place ≡ Some attrs
  pub holds : P attrs
  pub before : (j : ℕ) (other : AttrsOf) → j < place → slice_get table j ≡ Some other → P other → ⊥

-- a module whose body gave a rate that is not allowed
abbrev pub IsMarked : Asks → AttrsOf → Type 0
IsMarked asks attrs = (asks attrs).out_of_range ≡ true

abbrev pub AreUnmarked : Asks → List AttrsOf → Type 0
AreUnmarked asks table = All (λ attrs. (asks attrs).out_of_range ≡ false) table

-- the counts and steps of a cluster under a table
pub record TimingOf (tables : FlatTablesOf) (cluster : ℕ) (table : List AttrsOf) : Type 0 where
  pub counts : List ℕ
  pub steps : Steps
  pub timing : HasTiming tables (net_of tables table) cluster table counts steps

-- the time between two firings of a module, and between two samples of a port: that over its rate
abbrev pub step_of_module : Steps → ℕ → ℕ
step_of_module steps m = slice_index steps.actor_steps.items m

abbrev pub step_at_port : List Port → Steps → (m port : ℕ) → ℕ
step_at_port ports steps m port = step_of_module steps m / rate_at_port ports (Some port)

-- a module and its ports have the same steps, by the rates and steps from before and those after
pub record HasSameSteps (old new : List Port) (before after : Steps) (attrs : AttrsOf)
    : Type 0 where
  pub own : step_of_module before attrs.number ≡ step_of_module after attrs.number
  pub ports : All (λ port. step_at_port old before attrs.number port
      ≡ step_at_port new after attrs.number port) attrs.ports

-- a module rejects: its flag says so, its own attributes are as before, and one of its steps or
-- of those of its ports is another
pub record IsRejecting (tables : FlatTablesOf) (asks : Asks) (table : List AttrsOf)
    (before after : Steps) (attrs : AttrsOf) : Type 0 where
  pub flag : (attrs_after attrs (asks attrs)).accepts ≡ false
  pub same : HasSameRates attrs (attrs_after attrs (asks attrs))
  pub moved : HasSameSteps (net_ports tables table) (net_ports tables (table_after asks table))
      before after attrs → ⊥

-- the counts and steps from before and those of the new table
pub record TimingsOf (tables : FlatTablesOf) (cluster : ℕ) (asks : Asks) (table : List AttrsOf)
    : Type 0 where
  pub before : TimingOf tables cluster table
  pub after : TimingOf tables cluster (table_after asks table)

abbrev pub Rejects : (tables : FlatTablesOf) (cluster : ℕ) (asks : Asks) (table : List AttrsOf)
    → TimingsOf tables cluster asks table → AttrsOf → Type 0
Rejects tables cluster asks table times attrs =
    IsRejecting tables asks table times.before.steps times.after.steps attrs

abbrev pub fault_of_row : FlatTablesOf → Code → AttrsOf → Option Fault
fault_of_row tables why attrs = fault_at why (module_path (slice_get tables.modules attrs.number))

-- the first fault: a rate that is not allowed, then those of counts and steps, then a module that
-- rejects, then those of the plan
pub data IsFirstChangeFault (tables : FlatTablesOf) (cluster : ℕ) (asks : Asks)
    (table : List AttrsOf)
    (fault : Fault) : Type 0 where
  OfRange : (attrs : AttrsOf) → IsFirstRow table (IsMarked asks) attrs
      → fault_of_row tables code.Range attrs ≡ Some fault
      → IsFirstChangeFault tables cluster asks table fault
  OfSteps : AreUnmarked asks table
      → IsStepsFault tables (net_of tables (table_after asks table)) cluster
      (table_after asks table) fault
      → IsFirstChangeFault tables cluster asks table fault
  OfRejected : AreUnmarked asks table → (times : TimingsOf tables cluster asks table)
      → (attrs : AttrsOf) → IsFirstRow table (Rejects tables cluster asks table times) attrs
      → fault_of_row tables code.Rejected attrs ≡ Some fault
      → IsFirstChangeFault tables cluster asks table fault
  OfPlan : AreUnmarked asks table → (times : TimingsOf tables cluster asks table)
      → All (λ attrs. Rejects tables cluster asks table times attrs → ⊥) table
      → IsPlanFault tables (net_of tables (table_after asks table)) (table_after asks table)
      times.after.counts times.after.steps fault
      → IsFirstChangeFault tables cluster asks table fault

-- some module differs, and there is a fault
pub record IsChangeFault (tables : FlatTablesOf) (cluster : ℕ) (asks : Asks) (table : List AttrsOf)
    (fault : Fault) : Type 0 where
  pub differs : IsSame asks table → ⊥
  pub first : IsFirstChangeFault tables cluster asks table fault

-- some module differs, and there is none; the plan may be equal to the old one
pub record IsNewPlan (tables : FlatTablesOf) (cluster : ℕ) (asks : Asks) (table : List AttrsOf)
    (plan : Plan) : Type 0 where
  pub differs : IsSame asks table → ⊥
  pub unmarked : AreUnmarked asks table
  pub times : TimingsOf tables cluster asks table
  pub accepted : All (λ attrs. Rejects tables cluster asks table times attrs → ⊥) table
  pub plan_is : IsPlanOf (net_of tables (table_after asks table)) times.after.counts
      times.after.steps plan
