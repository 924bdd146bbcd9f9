-- What comes of the instances of the modules, before it is said of what they ask for.
-- Source: own.
use Rattle.std.specs.Prelude.{◌≡◌, ℕ, true, List, Some, length}
use Rattle.tdf_base.specs.declared.codes.Code.TheVariants as code
use Rattle.tdf_base.specs.declared.faults.Fault.{Fault}
use Rattle.tdf_bind_tables.specs.FlatTables.{FlatTablesOf}
use Rattle.tdf_dynamic.specs.Change.{fault_of_row}
use Rattle.tdf_dynamic.specs.declared.frames.ModuleFrame.{ModuleFrame}
use Rattle.tdf_dynamic.specs.declared.next.Next.{Next}
use Rattle.tdf_dynamic.specs.declared.next.Next.TheVariants.{Changed, Same}
use Rattle.tdf_dynamic.specs.machine.Judging.{IsJudged, IsJudgedFault}
use Rattle.tdf_dynamic.specs.machine.Rows.{AreAfter, HoldsBelow, IsFirstPlace}
use Rattle.tdf_dynamic_plans.specs.Attributes.{AttrsOf}

-- a new table and its plan
abbrev pub IsFound : FlatTablesOf → (cluster : ℕ) → List AttrsOf → List ModuleFrame → Next → Type 0
IsFound tables cluster table frames Same = ⊥
IsFound tables cluster table frames (Changed after plan) =
    AreAfter table frames (length table) after.rows
    × IsJudged tables cluster table after.rows frames plan

-- the fault of a new table
pub record IsTableRefused (tables : FlatTablesOf) (cluster : ℕ) (table : List AttrsOf)
    (frames : List ModuleFrame) (fault : Fault) : Type 0 where
  pub after : List AttrsOf
  pub after_is : AreAfter table frames (length table) after
  pub fault_is : IsJudgedFault tables cluster table after frames fault

-- a module whose body gave a rate that is not allowed
abbrev pub Marks : AttrsOf → ModuleFrame → Type 0
Marks attrs f = f.ports.state.out_of_range ≡ true

abbrev pub NoneMarks : List AttrsOf → List ModuleFrame → Type 0
NoneMarks table frames = HoldsBelow (λ attrs f. Marks attrs f → ⊥) table frames (length table)

-- the fault where some module differs
pub data IsRefusedAt (tables : FlatTablesOf) (cluster : ℕ) (table : List AttrsOf)
    (frames : List ModuleFrame) (fault : Fault) : Type 0 where
  InRange : (k : ℕ) (first : IsFirstPlace Marks table frames k)
      → fault_of_row tables code.Range first.one ≡ Some fault
      → IsRefusedAt tables cluster table frames fault
  InTable : NoneMarks table frames → IsTableRefused tables cluster table frames fault
      → IsRefusedAt tables cluster table frames fault
