-- How change bodies run, module by module.
-- Source: own.
use Rattle.std.specs.Prelude.{◌≡◌, ◌+◌, ◌<◌, ◌≤◌, ◌^◌, ℕ, false, List, length, Some, ℤ, pos, slice_get}
use Rattle.tdf_base.specs.Limits.{time_end}
use Rattle.tdf_dynamic.specs.Asked.{AskedOf, IsQuiet, asked, asked_in}
use Rattle.tdf_dynamic.specs.declared.frames.ModuleFrame.{ModuleFrame}
use Rattle.tdf_dynamic_plans.specs.Attributes.{AttrsOf}
use Rattle.tdf_expr.specs.Checked.{IsCheckedOf}
use Rattle.tdf_expr.specs.Frames.{PortsSeen}
use Rattle.tdf_expr.specs.Made.{AreMadeFor}
use Rattle.tdf_exec_firing.specs.Firing.{AreZerosBehind}
use Rattle.tdf_exec_firing.specs.Wires.{WiresOf}
use Rattle.tdf_bind.specs.declared.model.Flat.{Flat}
use Rattle.tdf_expr_state.specs.State.{cell_at, state_of}
use Rattle.tdf_streams.specs.Periods.{HasAllowedRates}
use Rattle.tdf_streams.specs.Places.{block_at, has_changes}
use Rattle.tdf_lang_tree.specs.Pure.{PureTree}

-- the samples below a place are 0, and all but samples is as before
pub record AreZeroBelow (n : ℕ) (old new : PortsSeen) : Type 0 where
  pub rest : new ≡ record old { state = record old.state { samples = new.state.samples } }
  pub long : length new.state.samples ≡ length old.state.samples
  pub zero : (j : ℕ) → j < n → cell_at new.state.samples j ≡ pos 0

-- what an instance says that its body asked for
abbrev pub told : ModuleFrame → AskedOf
told f = asked_in (state_of f.frame.state f.ports.state)

-- an instance of which can be read what its body asked for; its rates were within their limits, and
-- are so again; where it has no changes, it asks for nothing
pub record CanTell (flat : Flat) (attrs : AttrsOf) (f : ModuleFrame) : Type 0 where
  pub is_module : attrs.number < length flat.tables.modules
  pub before : HasAllowedRates flat attrs
  pub made : AreMadeFor flat.checked (block_at flat.tables.modules attrs.number) f.frame f.ports
  pub few : length f.ports.spans ≤ 2 ^ 31
  pub long : length f.ports.state.steps ≡ 1 + length f.ports.spans
  pub allowed : HasAllowedRates flat (record attrs { rates = f.frame.state.rates })
  pub quiet : has_changes flat.tables.modules attrs.number ≡ false → IsQuiet attrs (told f)

-- one for each row of a table
pub record AllTell (flat : Flat) (table : List AttrsOf) (frames : List ModuleFrame)
    : Type 0 where
  pub long : length frames ≡ length table
  pub each : (i : ℕ) (attrs : AttrsOf) (f : ModuleFrame) → slice_get table i ≡ Some attrs
      → slice_get frames i ≡ Some f → CanTell flat attrs f

-- a module whose variables had these values has asked for what it wants; what its ports read is 0
pub record HasAsked (flat : Flat) (attrs : AttrsOf) (cells : List ℤ) (f : ModuleFrame)
    : Type 0 where
  pub tells : CanTell flat attrs f
  pub short : (j step : ℕ) → slice_get f.ports.state.steps j ≡ Some (Some step) → step < time_end
  pub asked_is : (model : PureTree) → IsCheckedOf model flat.checked
      → told f ≡ asked model flat attrs cells
  pub zeros : (wires : WiresOf) (reads : List ℕ) → AreZerosBehind wires reads f.ports

-- the first n modules have asked; the others are as before
pub record HaveAsked (flat : Flat) (table : List AttrsOf) (n : ℕ) (old new : List ModuleFrame)
    : Type 0 where
  pub long : length new ≡ length old
  pub done : (i : ℕ) (attrs : AttrsOf) (f g : ModuleFrame) → i < n
      → slice_get table i ≡ Some attrs → slice_get old i ≡ Some f → slice_get new i ≡ Some g
      → HasAsked flat attrs f.frame.state.cells g
  pub left : (i : ℕ) → n ≤ i → slice_get new i ≡ slice_get old i
