-- How a table that differs is judged.
-- Source: own.
use Rattle.std.specs.Prelude.{◌≡◌, ℕ, List, length, Some}
use Rattle.tdf_base.specs.declared.codes.Code.TheVariants as code
use Rattle.tdf_base.specs.declared.faults.Fault.{Fault}
use Rattle.tdf_bind_tables.specs.FlatTables.{FlatTablesOf}
use Rattle.tdf_dynamic.specs.Change.{TimingOf, fault_of_row}
use Rattle.tdf_dynamic.specs.declared.frames.ModuleFrame.{ModuleFrame}
use Rattle.tdf_dynamic.specs.machine.Rows.{HoldsBelow, IsFirstPlace, IsRefusing}
use Rattle.tdf_dynamic_plans.specs.Attributes.{AttrsOf}
use Rattle.tdf_dynamic_plans.specs.Faults.{IsPlanFault, IsPlanOf, IsStepsFault}
use Rattle.tdf_dynamic_plans.specs.Rates.{net_of, net_ports}
use Rattle.tdf_graph.specs.declared.actors.Port.{Port}
use Rattle.tdf_schedule.specs.declared.entry.Plan.{Plan}
use Rattle.tdf_timestep.specs.declared.assign.Steps.{Steps}

-- the counts and steps under two tables
pub record AreTimed (tables : FlatTablesOf) (cluster : ℕ) (old new : List AttrsOf) : Type 0 where
  pub before : TimingOf tables cluster old
  pub after : TimingOf tables cluster new

abbrev pub Refuses : (tables : FlatTablesOf) (cluster : ℕ) (old new : List AttrsOf)
    → AreTimed tables cluster old new → AttrsOf → ModuleFrame → Type 0
Refuses tables cluster old new times = IsRefusing (net_ports tables old) (net_ports tables new)
    times.before.steps times.after.steps

-- no module rejects
abbrev pub NoneRefuse : (tables : FlatTablesOf) (cluster : ℕ) (old new : List AttrsOf)
    → AreTimed tables cluster old new → List ModuleFrame → Type 0
NoneRefuse tables cluster old new times frames =
    HoldsBelow (λ attrs f. Refuses tables cluster old new times attrs f → ⊥) old frames (length old)

-- the fault that the first module rejects that does
pub record IsRefused (tables : FlatTablesOf) (cluster : ℕ) (old new : List AttrsOf)
    (times : AreTimed tables cluster old new) (frames : List ModuleFrame) (fault : Fault)
    : Type 0 where
  pub place : ℕ
  pub first : IsFirstPlace (Refuses tables cluster old new times) old frames place
  pub told : fault_of_row tables code.Rejected first.one ≡ Some fault

-- no module rejects these rates of ports and steps, by the counts and steps from before
pub record IsUnrejected (tables : FlatTablesOf) (cluster : ℕ) (old : List AttrsOf)
    (frames : List ModuleFrame) (ports : List Port) (steps : Steps) : Type 0 where
  pub before : TimingOf tables cluster old
  pub none : HoldsBelow
      (λ attrs f. IsRefusing (net_ports tables old) ports before.steps steps attrs f → ⊥)
      old frames (length old)

-- the fault that the first module rejects that does
pub record IsRejection (tables : FlatTablesOf) (cluster : ℕ) (old : List AttrsOf)
    (frames : List ModuleFrame) (ports : List Port) (steps : Steps) (fault : Fault)
    : Type 0 where
  pub before : TimingOf tables cluster old
  pub place : ℕ
  pub first : IsFirstPlace (IsRefusing (net_ports tables old) ports before.steps steps)
      old frames place
  pub told : fault_of_row tables code.Rejected first.one ≡ Some fault

-- a new table has a plan, and no module rejects it
pub record IsJudged (tables : FlatTablesOf) (cluster : ℕ) (old new : List AttrsOf)
    (frames : List ModuleFrame) (plan : Plan) : Type 0 where
  pub times : AreTimed tables cluster old new
  pub none : NoneRefuse tables cluster old new times frames
  pub plan_is : IsPlanOf (net_of tables new) times.after.counts times.after.steps plan

-- why it has none
pub data IsJudgedFault (tables : FlatTablesOf) (cluster : ℕ) (old new : List AttrsOf)
    (frames : List ModuleFrame) (fault : Fault) : Type 0 where
  InSteps : IsStepsFault tables (net_of tables new) cluster new fault
      → IsJudgedFault tables cluster old new frames fault
  InRejected : (times : AreTimed tables cluster old new)
      → IsRefused tables cluster old new times frames fault
      → IsJudgedFault tables cluster old new frames fault
  InPlan : (times : AreTimed tables cluster old new)
      → NoneRefuse tables cluster old new times frames
      → IsPlanFault tables (net_of tables new) new times.after.counts times.after.steps fault
      → IsJudgedFault tables cluster old new frames fault
