-- What is left after a boundary.
-- Source: own.
use Rattle.std.specs.Prelude.{◌≡◌, ◌⊎◌, ℕ, List, [], Some, slice_get, Result, Ok, Err, IfOk, IfErr, IsOk}
use Rattle.tdf_base.specs.declared.faults.Fault.{Fault}
use Rattle.tdf_bind_tables.specs.FlatTables.{FlatTablesOf}
use Rattle.tdf_dynamic.specs.Change.{Asks, IsChangeFault, IsNewPlan, IsSame, table_after}
use Rattle.tdf_dynamic.specs.declared.frames.ModuleFrame.{ModuleFrame}
use Rattle.tdf_dynamic.specs.declared.next.Next.{Next}
use Rattle.tdf_dynamic.specs.declared.next.Next.TheVariants.{Changed, Same}
use Rattle.tdf_dynamic_plans.specs.Attributes.{AttrsOf}
use Rattle.tdf_dynamic_plans.specs.Faults.{IsRefusal}
use Rattle.tdf_dynamic_plans.specs.Known.{HasTablePlanned, PlansOf}
use Rattle.tdf_dynamic_plans.specs.declared.err.ChangeErr.{ChangeErr}
use Rattle.tdf_dynamic_plans.specs.declared.err.ChangeErr.TheVariants.{Memory, Refused}
use Rattle.tdf_expr.specs.Made.{AreMadeFor}
use Rattle.tdf_exec_firing.specs.Firing.{AreZerosBehind}
use Rattle.tdf_exec_firing.specs.Wires.{WiresOf}
use Rattle.tdf_bind.specs.declared.model.Flat.{Flat}
use Rattle.tdf_schedule.specs.declared.entry.Plan.{Plan}
use Rattle.tdf_streams.specs.Periods.{AreAttributes}
use Rattle.tdf_streams.specs.Places.{block_at}

-- the answer, and the table that is left: where no module differs it has the flags that were said,
-- else it is the old one, and the new one comes with its plan
abbrev pub IsNext : FlatTablesOf → (cluster : ℕ) → Asks → (old new : List AttrsOf) → Next → Type 0
IsNext tables cluster asks old new Same = IsSame asks old × (new ≡ table_after asks old)
IsNext tables cluster asks old new (Changed attrs plan) =
    (new ≡ old) × (attrs.rows ≡ table_after asks old) × IsNewPlan tables cluster asks old plan

-- the plans that are known go with the table in force: they stay where no module differs; else the
-- new table has them, with that of its plan, and the old one has none
abbrev pub IsCarried : FlatTablesOf → (cluster : ℕ) → (old new : PlansOf) → Next → Type 0
IsCarried tables cluster old new Same = new ≡ old
IsCarried tables cluster old new (Changed attrs plan) =
    HasTablePlanned tables cluster attrs.rows plan old attrs.known × (new.plans ≡ [])

-- what a boundary answers to what the modules of a cluster ask for: each answer means what it says,
-- and comes wherever its cause is there, but for want of memory
pub record AnswersAsks (flat : Flat) (cluster : ℕ) (asks : Asks) (old new : List AttrsOf)
    (result : Result Next ChangeErr) : Type 0 where
  pub next : IfOk result (IsNext flat.tables cluster asks old new)
  pub refused : IfErr result (IsRefusal (IsChangeFault flat.tables cluster asks old))
  pub after : AreAttributes flat cluster (table_after asks old)
  pub same_always : IsSame asks old → result ≡ Ok Same
  pub refused_always : (fault : Fault) → IsChangeFault flat.tables cluster asks old fault
      → (result ≡ Err (Refused fault)) ⊎ (result ≡ Err Memory)
  pub new_always : (plan : Plan) → IsNewPlan flat.tables cluster asks old plan
      → IsOk result ⊎ (result ≡ Err Memory)

-- the instance of each module has the values that its change body left, and what it reads is 0
pub record HasChanged (flat : Flat) (asks : Asks) (attrs : AttrsOf) (f : ModuleFrame) : Type 0 where
  pub made : AreMadeFor flat.checked (block_at flat.tables.modules attrs.number) f.frame f.ports
  pub cells : f.frame.state.cells ≡ (asks attrs).cells
  pub rates : f.frame.state.rates ≡ (asks attrs).rates
  pub zeros : (wires : WiresOf) (reads : List ℕ) → AreZerosBehind wires reads f.ports

abbrev pub HaveChanged : Flat → Asks → List AttrsOf → List ModuleFrame → Type 0
HaveChanged flat asks table frames = (i : ℕ) (attrs : AttrsOf) (f : ModuleFrame)
    → slice_get table i ≡ Some attrs → slice_get frames i ≡ Some f → HasChanged flat asks attrs f
