-- How the modules of a cluster are asked for changes: their instances go into a list, in the order
-- of the table, and come back from there.
-- Source: own.
use Rattle.std.specs.Prelude.{◌≡◌, ◌<◌, ◌≤◌, ℕ, ℤ, List, length, map, Some, slice_get}
use Rattle.tdf_dynamic.specs.Change.{Asks, asks_of}
use Rattle.tdf_dynamic.specs.Next.{HaveChanged}
use Rattle.tdf_dynamic.specs.declared.frames.ModuleFrame.{ModuleFrame}
use Rattle.tdf_dynamic_plans.specs.Attributes.{AttrsOf}
use Rattle.tdf_exec.specs.Crossing.{values_at}
use Rattle.tdf_exec.specs.Runners.{ModuleOf}
use Rattle.tdf_exec.specs.declared.runners.Rest.{Rest}
use Rattle.tdf_exec.specs.declared.runners.Runner.{Runner}
use Rattle.tdf_exec.specs.declared.runners.Runner.TheVariants as runner
use Rattle.tdf_exec.specs.declared.runners.TracedPort.{TracedPort}
use Rattle.tdf_expr.specs.Checked.{IsCheckedOf}
use Rattle.tdf_expr.specs.Made.{AreMadeFor}
use Rattle.tdf_exec_firing.specs.Wires.{WiresOf}
use Rattle.tdf_bind.specs.declared.model.Flat.{Flat}
use Rattle.tdf_streams.specs.Places.{block_at}
use Rattle.tdf_lang_tree.specs.Pure.{PureTree}

-- what is kept of a module beside its values and ports
pub record RestOf : Type 0 where
  pub block : ℕ
  pub wires : WiresOf
  pub traced : List TracedPort

abbrev pub kept_of : Rest → RestOf
kept_of x = record { block = x.block; wires = x.wires; traced = x.traced.items }

abbrev pub frame_of : ModuleOf → ModuleFrame
frame_of x = record { frame = x.frame; ports = x.ports }

abbrev pub rest_of : ModuleOf → RestOf
rest_of x = record { block = x.block; wires = x.wires; traced = x.traced }

abbrev pub whole_of : ModuleFrame → RestOf → ModuleOf
whole_of f r = record {
  block = r.block;
  frame = f.frame;
  ports = f.ports;
  wires = r.wires;
  traced = r.traced;
}

-- the numbers of the modules of a table
abbrev pub numbers_of : List AttrsOf → List ℕ
numbers_of table = map (λ (a : AttrsOf). a.number) table

-- these are the numbers of modules, each once
pub record AreModules (numbers : List ℕ) (runners : List Runner) : Type 0 where
  pub each : (i m : ℕ) → slice_get numbers i ≡ Some m
      → (x : ModuleOf) × (slice_get runners m ≡ Some (runner.Module x))
  pub once : (i j m : ℕ) → slice_get numbers i ≡ Some m → slice_get numbers j ≡ Some m → i ≡ j

-- a number is none of those from one place up to another
abbrev pub IsNone : List ℕ → (from to m : ℕ) → Type 0
IsNone numbers from to m = (i : ℕ) → from ≤ i → i < to → slice_get numbers i ≡ Some m → ⊥

-- the first n modules are in the lists; all others are as they were
pub record AreOut (numbers : List ℕ) (n : ℕ) (old now : List Runner) (frames : List ModuleFrame)
    (rests : List RestOf) : Type 0 where
  pub same : length now ≡ length old
  pub frames_long : length frames ≡ n
  pub rests_long : length rests ≡ n
  pub each : (i m : ℕ) (x : ModuleOf) → i < n → slice_get numbers i ≡ Some m
      → slice_get old m ≡ Some (runner.Module x)
      → (slice_get frames i ≡ Some (frame_of x)) × (slice_get rests i ≡ Some (rest_of x))
  pub others : (m : ℕ) → IsNone numbers 0 n m → slice_get now m ≡ slice_get old m

-- the modules from place n on are back from the lists; all others are as they were
pub record AreBack (numbers : List ℕ) (n : ℕ) (old now : List Runner) (frames : List ModuleFrame)
    (rests : List RestOf) : Type 0 where
  pub same : length now ≡ length old
  pub each : (i m : ℕ) (f : ModuleFrame) (r : RestOf) → n ≤ i → slice_get numbers i ≡ Some m
      → slice_get frames i ≡ Some f → slice_get rests i ≡ Some r
      → slice_get now m ≡ Some (runner.Module (whole_of f r))
  pub others : (m : ℕ) → IsNone numbers n (length numbers) m → slice_get now m ≡ slice_get old m

-- each module has another instance; nothing else has changed
pub record HaveInstances (numbers : List ℕ) (frames : List ModuleFrame) (old new : List Runner)
    : Type 0 where
  pub same : length new ≡ length old
  pub long : length frames ≡ length numbers
  pub each : (i m : ℕ) (x : ModuleOf) (f : ModuleFrame) → slice_get numbers i ≡ Some m
      → slice_get frames i ≡ Some f → slice_get old m ≡ Some (runner.Module x)
      → slice_get new m ≡ Some (runner.Module (whole_of f (rest_of x)))
  pub others : (m : ℕ) → IsNone numbers 0 (length numbers) m → slice_get new m ≡ slice_get old m

-- each module of a table is an instance of its block, with the rates of its row
pub record AreInstances (flat : Flat) (table : List AttrsOf) (runners : List Runner) : Type 0 where
  pub made : (i : ℕ) (a : AttrsOf) (x : ModuleOf) → slice_get table i ≡ Some a
      → slice_get runners a.number ≡ Some (runner.Module x)
      → AreMadeFor flat.checked (block_at flat.tables.modules a.number) x.frame x.ports
  pub rates : (i : ℕ) (a : AttrsOf) (x : ModuleOf) → slice_get table i ≡ Some a
      → slice_get runners a.number ≡ Some (runner.Module x) → x.frame.state.rates ≡ a.rates

-- the values of the modules of a table
abbrev pub AreValues : (table : List AttrsOf) → List Runner → (cells : ℕ → List ℤ) → Type 0
AreValues table runners cells = (i : ℕ) (attrs : AttrsOf) → slice_get table i ≡ Some attrs
    → cells attrs.number ≡ values_at runners attrs.number

-- for what they ask for, by each model that the bodies are of
abbrev pub WhenTheyAsk : Flat → (table : List AttrsOf) → List Runner → (Asks → Type 0) → Type 0
WhenTheyAsk flat table runners P = (model : PureTree) (cells : ℕ → List ℤ)
    → IsCheckedOf model flat.checked → AreValues table runners cells → P (asks_of model flat cells)

-- the modules of a table have the instances that their change bodies left
pub record HaveMoved (flat : Flat) (asks : Asks) (table : List AttrsOf) (old new : List Runner)
    : Type 0 where
  pub frames : List ModuleFrame
  pub are : HaveInstances (numbers_of table) frames old new
  pub changed : HaveChanged flat asks table frames
