-- What a boundary of a cluster begins with.
-- Source: own.
use Rattle.std.specs.Prelude.{◌≡◌, ℕ, List, length, Some, ℤ, slice_get}
use Rattle.tdf_bind_tables.specs.FlatTables.{FlatTablesOf}
use Rattle.tdf_dynamic.specs.Change.{Asks, asks_of}
use Rattle.tdf_dynamic.specs.declared.frames.ModuleFrame.{ModuleFrame}
use Rattle.tdf_dynamic_plans.specs.Attributes.{AttrsOf}
use Rattle.tdf_dynamic_plans.specs.Faults.{IsTablePlan}
use Rattle.tdf_expr.specs.Checked.{IsCheckedOf}
use Rattle.tdf_expr.specs.Made.{AreMadeFor}
use Rattle.tdf_bind.specs.declared.model.Flat.{Flat}
use Rattle.tdf_schedule.specs.declared.entry.Plan.{Plan}
use Rattle.tdf_streams.specs.Places.{block_at}
use Rattle.tdf_lang_tree.specs.Kept.{IsKept}
use Rattle.tdf_lang_tree.specs.Pure.{PureTree}

-- the bodies are those of a tree that keeps what a spelled tree keeps
pub record IsOfText (flat : Flat) : Type 0 where
  pub model : PureTree
  pub kept : IsKept model
  pub checked : IsCheckedOf model flat.checked

-- an instance of the module of a row, whose rate variables have the values of the row
pub record IsFrameOf (flat : Flat) (attrs : AttrsOf) (f : ModuleFrame) : Type 0 where
  pub made : AreMadeFor flat.checked (block_at flat.tables.modules attrs.number) f.frame f.ports
  pub rates : f.frame.state.rates ≡ attrs.rates

-- an instance for each row of a table, in its order
pub record AreFramesOf (flat : Flat) (table : List AttrsOf) (frames : List ModuleFrame)
    : Type 0 where
  pub long : length frames ≡ length table
  pub each : (i : ℕ) (attrs : AttrsOf) (f : ModuleFrame) → slice_get table i ≡ Some attrs
      → slice_get frames i ≡ Some f → IsFrameOf flat attrs f

-- the values of the variables of each module of a table
pub record HaveCells (table : List AttrsOf) (frames : List ModuleFrame) (cells : ℕ → List ℤ)
    : Type 0 where
  pub each : (i : ℕ) (attrs : AttrsOf) (f : ModuleFrame) → slice_get table i ≡ Some attrs
      → slice_get frames i ≡ Some f → f.frame.state.cells ≡ cells attrs.number

-- a table that has a plan
pub record IsPlanned (tables : FlatTablesOf) (cluster : ℕ) (table : List AttrsOf) : Type 0 where
  pub plan : Plan
  pub is : IsTablePlan tables cluster table plan

-- for what the modules ask for, by each model that the bodies are of
abbrev pub WhenAsked : Flat → List AttrsOf → List ModuleFrame → (Asks → Type 0) → Type 0
WhenAsked flat table frames P = (model : PureTree) (cells : ℕ → List ℤ)
    → IsCheckedOf model flat.checked → HaveCells table frames cells → P (asks_of model flat cells)
