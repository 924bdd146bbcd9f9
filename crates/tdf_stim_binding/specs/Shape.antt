-- The driven tree: the block of the driver behind the other globals, and its instance with its
-- `bind` lines behind the other members of `top`.
-- Source: own.
use Rattle.std.specs.List.{range_with_len}
use Rattle.std.specs.Prelude.{◌≡◌, ℕ, ◌-◌, List, [], ◌∷◌, ◌++◌, length, replicate, Some, true, slice_get}
use Rattle.tdf_bind_attributes.specs.Roles.{processes_role, roles_of}
use Rattle.tdf_bind_hierarchy.specs.Tables.{RowOf, TablesOf}
use Rattle.tdf_bind_hierarchy.specs.declared.tables.Signal.{Signal}
use Rattle.tdf_bind_hierarchy.specs.declared.tables.SignalNumber.{SignalNumber}
use Rattle.tdf_bind_connections.specs.declared.roles.Role.TheVariants.{Processes}
use Rattle.tdf_expr.specs.Blocks.{Events, blocks_of}
use Rattle.tdf_lang_tree.specs.Pure.{GDe, PureDe, PureGlobal, PureTree}
use Rattle.tdf_lang_tree.specs.declared.blocks.Member.{Member}
use Rattle.tdf_lang_tree.specs.declared.blocks.PortKind.TheVariants.{DeOut}
use Rattle.tdf_stim.specs.Driver.{driver_block, driver_members}
use Rattle.tdf_stim.specs.Signals.{Column, SignalOf, signal_named}
use Rattle.tdf_stim_lines.specs.Numbered.{de_at, lines_at, member_at}

pub record IsDrivenTree (model : PureTree) (columns : List Column) (times : List ℕ)
    (name : List ℕ) : Type 0 where
  pub globals : List PureGlobal
  pub line : ℕ
  pub globals_are : model.globals
      ≡ globals ++ GDe (de_at line (driver_block name columns times)) ∷ []
  pub members : List Member
  pub first : ℕ
  pub members_are : model.top.members
      ≡ members ++ lines_at member_at first (driver_members name columns)
  -- the label of each column is the name of an event signal
  pub signals : (j : ℕ) (c : Column) → slice_get columns j ≡ Some c
      → (signal : SignalOf) × (signal_named members c.label ≡ Some signal)

-- the driver's block in it
abbrev pub driver_de : {model : PureTree} {columns : List Column} {times : List ℕ}
    {name : List ℕ} → IsDrivenTree model columns times name → PureDe
driver_de {columns = columns} {times = times} {name = name} d =
    de_at d.line (driver_block name columns times)

-- its number among the `tdf` and `de` blocks, and its place among all blocks: its role is that of
-- one process, which is sensitive to all its events
pub record HasDriverRole (model : PureTree) (columns : List Column) (times : List ℕ)
    (de : PureDe) (number place : ℕ) : Type 0 where
  pub block : slice_get (blocks_of model.globals) number ≡ Some (Events de)
  pub role : slice_get (roles_of model) place ≡ Some (Processes (processes_role number de))
  pub ports : (processes_role number de).ports ≡ replicate (length columns) DeOut
  pub process : (processes_role number de).processes ≡ record {
    starts = true;
    ports = [];
    events = range_with_len 0 (length times - 1);
  } ∷ []
  pub events : length (processes_role number de).events ≡ length times - 1

-- a number stands for the event signal of this path
pub record StandsForPath (tables : TablesOf) (number : SignalNumber) (path : List ℕ) : Type 0 where
  pub event : number.event ≡ true
  pub signal : Signal
  pub at : slice_get tables.event_signals number.number ≡ Some signal
  pub path_is : signal.path ≡ path

-- the last instance is that of the driver's block, and its ports reach the signals of the columns
pub record IsLastInstance (tables : TablesOf) (columns : List Column) (place : ℕ) : Type 0 where
  pub others : List RowOf
  pub instance : RowOf
  pub is : tables.instances ≡ others ++ instance ∷ []
  pub block : instance.block ≡ place
  pub long : length instance.signals ≡ length columns
  pub reaches : (j : ℕ) (c : Column) → slice_get columns j ≡ Some c → (number : SignalNumber)
      × (slice_get instance.signals j ≡ Some number) × StandsForPath tables number c.label
