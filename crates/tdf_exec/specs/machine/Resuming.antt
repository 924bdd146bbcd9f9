-- How the instances of modules get the values of a state.
-- Source: own.
use Rattle.std.specs.Prelude.{◌≡◌, ◌<◌, ℕ, ℤ, List, Some, length, map, slice_get}
use Rattle.tdf_dynamic_plans.specs.Attributes.{AttrsOf}
use Rattle.tdf_exec.specs.Runners.{ModuleOf}
use Rattle.tdf_exec.specs.declared.runners.Runner.{Runner}
use Rattle.tdf_exec.specs.declared.runners.Runner.TheVariants as runner
use Rattle.tdf_expr.specs.Frames.{limits_of_rate}
use Rattle.tdf_expr.specs.Made.{AreMadeFor, CellsFit, rate_spans_of}
use Rattle.tdf_expr.specs.declared.checked.Checked.{Checked}
use Rattle.tdf_expr_semantics.specs.Fits.{RatesFit}
use Rattle.tdf_expr_state.specs.State.{FrameState}
use Rattle.tdf_saved.specs.State.{ModuleStateOf}

-- the instance of a module has the rates of its row and the values of its state
pub record HoldsState (table : List AttrsOf) (modules : List ModuleStateOf) (m : ℕ)
    (s : FrameState) : Type 0 where
  pub each : (i : ℕ) (attrs : AttrsOf) (x : ModuleStateOf) → slice_get table i ≡ Some attrs
      → slice_get modules i ≡ Some x → attrs.number ≡ m
      → (s.rates ≡ attrs.rates) × (s.cells ≡ x.cells)

-- rates and values are such as the block of an instance has them
pub record FitInstance (checked : Checked) (rates : List ℕ) (cells : List ℤ) (x : ModuleOf)
    : Type 0 where
  pub rates_fit : RatesFit (map limits_of_rate (rate_spans_of checked x.block)) rates
  pub cells_fit : CellsFit checked x.block cells

-- an instance of its block, with a value for each rate variable
pub record IsInstance (checked : Checked) (x : ModuleOf) : Type 0 where
  pub made : AreMadeFor checked x.block x.frame x.ports
  pub long : length x.frame.state.rates ≡ length x.frame.rates

-- an actor can get such values, if it is a module
abbrev pub CanTake : Checked → List ℕ → List ℤ → Runner → Type 0
CanTake checked rates cells (runner.Module x) =
    IsInstance checked x × FitInstance checked rates cells x
CanTake checked rates cells _ = Unit {0}

-- and then it has them
abbrev pub module_with_values : List ℕ → List ℤ → ModuleOf → ModuleOf
module_with_values rates cells x = record x {
  frame = record x.frame { state = record { cells = cells; rates = rates } };
}

abbrev pub with_values : List ℕ → List ℤ → Runner → Runner
with_values rates cells (runner.Module x) = runner.Module (module_with_values rates cells x)
with_values rates cells r = r

abbrev pub HasValues : List ℕ → List ℤ → Runner → Type 0
HasValues rates cells (runner.Module x) =
    (x.frame.state.rates ≡ rates) × (x.frame.state.cells ≡ cells)
HasValues rates cells _ = Unit {0}

-- nothing but the values of an instance changed
pub record IsSameInstance (checked : Checked) (x y : ModuleOf) : Type 0 where
  pub block : y.block ≡ x.block
  pub wires : y.wires ≡ x.wires
  pub ports : y.ports ≡ x.ports
  pub is : IsInstance checked y

abbrev pub KeepsRunner : Checked → Runner → Runner → Type 0
KeepsRunner checked (runner.Module x) r =
    (y : ModuleOf) × (r ≡ runner.Module y) × IsSameInstance checked x y
KeepsRunner checked other r = r ≡ other

-- each module of a table can get the rates of its row and the values of its state
pub record CanRestore (checked : Checked) (table : List AttrsOf) (modules : List ModuleStateOf)
    (runners : List Runner) : Type 0 where
  pub long : length modules ≡ length table
  pub inside : (i : ℕ) (attrs : AttrsOf) → slice_get table i ≡ Some attrs
      → attrs.number < length runners
  pub once : (i j : ℕ) (one other : AttrsOf) → slice_get table i ≡ Some one
      → slice_get table j ≡ Some other → one.number ≡ other.number → i ≡ j
  pub instances : (m : ℕ) (x : ModuleOf) → slice_get runners m ≡ Some (runner.Module x)
      → IsInstance checked x
  pub fit : (i : ℕ) (attrs : AttrsOf) (s : ModuleStateOf) (x : ModuleOf)
      → slice_get table i ≡ Some attrs → slice_get modules i ≡ Some s
      → slice_get runners attrs.number ≡ Some (runner.Module x)
      → FitInstance checked attrs.rates s.cells x

-- those of the first n rows have them
pub record AreRestored (checked : Checked) (table : List AttrsOf) (modules : List ModuleStateOf)
    (n : ℕ) (old new : List Runner) : Type 0 where
  pub same : length new ≡ length old
  pub kept : (m : ℕ) (r : Runner) → slice_get old m ≡ Some r
      → (s : Runner) × (slice_get new m ≡ Some s) × KeepsRunner checked r s
  pub done : (i : ℕ) (attrs : AttrsOf) (x : ModuleStateOf) (s : Runner) → i < n
      → slice_get table i ≡ Some attrs → slice_get modules i ≡ Some x
      → slice_get new attrs.number ≡ Some s → HasValues attrs.rates x.cells s
