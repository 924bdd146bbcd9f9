-- What holds of the driver of a table in a flat model: it is a driver, so in a run its signals have
-- their cells.
-- Source: own.
use Rattle.std.specs.Prelude.{◌≡◌, ◌<◌, ℕ, ◌+◌, ◌-◌, List, Some, None, length, slice_get}
use Rattle.tdf_bind.specs.declared.model.Flat.{Flat}
use Rattle.tdf_bind_connections.specs.ProcessBlocks.{BlockRowOf}
use Rattle.tdf_dynamic_first.specs.declared.first.First.{First}
use Rattle.tdf_events.specs.Side.{SideOf}
use Rattle.tdf_fixed.specs.declared.raw.Raw.{Raw}
use Rattle.tdf_lang_tree.specs.Pure.{PureTree}
use Rattle.tdf_lang_tree.specs.declared.names.Lit.{Lit}
use Rattle.tdf_sim_history.specs.History.{On, history}
use Rattle.tdf_sim_history.specs.Rules.{start_world, world_engine}
use Rattle.tdf_sim_history.specs.World.{Change, World}
use Rattle.tdf_expr.specs.Checked.{IsCheckedOf}
use Rattle.tdf_expr.specs.Made.{event_count}
use Rattle.tdf_expr_semantics.specs.Value.{literal_in}
use Rattle.tdf_stim.specs.Drivable.{off_line}
use Rattle.tdf_stim.specs.Driven.{times_of}
use Rattle.tdf_stim.specs.Driver.{literals}
use Rattle.tdf_stim.specs.Signals.{Column}
use Rattle.tdf_stim_history.specs.Driver.{DrivesAlways, NoSinkDrives}
use Rattle.tdf_stim_history.specs.Literals.{literal_at}
use Rattle.tdf_stim_history.specs.Rows.{HasRowTimes}
use Rattle.tdf_stim_process.specs.Placed.{AreRisingTimes, IsAlone, IsDriverIn, IsDriverInstance, IsDriverText, placed_driver}
use Rattle.tdf_tables.specs.Tables.{IsTableForm, TableOf}

-- a driver of some columns, to which alone its signals belong
pub record DrivesAlone (model : PureTree) (flat : Flat) (columns : List Column) (times : List ℕ)
    : Type 0 where
  pub placed : IsDriverIn model flat columns times
  pub alone : IsAlone model flat placed.owner placed.process placed.block.signals
  pub sinks : NoSinkDrives (placed_driver model flat columns times placed) flat

-- it is a driver
abbrev pub PlacedIsDriver : Type 0
PlacedIsDriver = (model : PureTree) (flat : Flat) (columns : List Column) (times : List ℕ)
    → (d : DrivesAlone model flat columns times)
    → DrivesAlways (placed_driver model flat columns times d.placed) model flat

abbrev pub PlacedHasTimes : Type 0
PlacedHasTimes = (model : PureTree) (flat : Flat) (columns : List Column) (times : List ℕ)
    → (d : IsDriverIn model flat columns times)
    → HasRowTimes (placed_driver model flat columns times d)

-- an instance of such a block is one of the driver, and has one event for each row but the first
abbrev pub TextGivesInstance : Type 0
TextGivesInstance = (model : PureTree) (flat : Flat) (columns : List Column) (times : List ℕ)
    → (owner : ℕ) (block : BlockRowOf) → IsCheckedOf model flat.checked → 0 < length times
    → IsDriverText model flat columns times owner block
    → IsDriverInstance model flat columns times owner block
    × (event_count flat.checked block.block ≡ length times - 1)

-- the times of the rows of a table that can drive a model rise
abbrev pub TableTimesRise : Type 0
TableTimesRise = (tree : PureTree) (table : TableOf) → IsTableForm table
    → off_line tree table ≡ None → AreRisingTimes (times_of tree table)

-- a signal has the value of the literal of a column at a time, cast to the column's format
pub record ShowsLiteral (times : List ℕ) (c : Column) (time : ℕ) (values : List Raw) (signal : ℕ)
    : Type 0 where
  pub lit : Lit
  pub literal : literal_at times (literals c.start c.cells) time ≡ Some lit
  pub value : slice_get values signal ≡ Some (literal_in (Some c.shape) lit)

-- so at each time up to which a run goes on, the signal that port j reaches has the value of the
-- literal of its column at that time
abbrev pub PortsShowColumns : Type 0
PortsShowColumns = (model : PureTree) (flat : Flat) (columns : List Column) (times : List ℕ)
    → (d : DrivesAlone model flat columns times) (firsts : List First)
    → (ahead : List (List Change)) (turns time : ℕ) (w : World SideOf)
    → history (world_engine model flat) 0 (start_world model flat firsts ahead turns) (time + 1)
    ≡ On w → (j signal : ℕ) (c : Column) → slice_get columns j ≡ Some c
    → slice_get d.placed.block.signals j ≡ Some signal
    → ShowsLiteral times c time w.events.values signal
