-- A model whose last instance is one of a block with one process: where it stands in the flat
-- model.
-- Source: own.
use Rattle.std.specs.List.{range_with_len}
use Rattle.std.specs.Prelude.{◌≡◌, ◌≢◌, ◌<◌, ℕ, ◌+◌, true, List, [], ◌∷◌, ◌++◌, length, Some, slice_get}
use Rattle.tdf_bind_connections.specs.Modules.{signal_at}
use Rattle.tdf_bind_connections.specs.ProcessBlocks.{PlacedBlock, ProcessRowOf, block_row, placed_blocks, process_row}
use Rattle.tdf_bind_connections.specs.Roles.{ProcessOf, ProcessesOf}
use Rattle.tdf_bind_connections.specs.Writers.{gives}
use Rattle.tdf_bind_connections.specs.declared.modules.PortRow.{PortRow}
use Rattle.tdf_bind_connections.specs.declared.roles.Role.{Role}
use Rattle.tdf_bind_connections.specs.declared.roles.Role.TheVariants.{Processes}
use Rattle.tdf_bind_hierarchy.specs.Tables.{RowOf, TablesOf}
use Rattle.tdf_bind_tables.specs.FlatTables.{FlatTablesOf}
use Rattle.tdf_events.specs.Processes.{owned_from}
use Rattle.tdf_lang_tree.specs.declared.blocks.PortKind.{PortKind}

pub record EndsWithBlock (tables : TablesOf) (roles : List Role) : Type 0 where
  pub others : List RowOf
  pub instance : RowOf
  pub is : tables.instances ≡ others ++ instance ∷ []
  pub role : ProcessesOf
  pub role_is : slice_get roles instance.block ≡ Some (Processes role)
  pub process : ProcessOf
  pub one : role.processes ≡ process ∷ []

-- the last instance, and the blocks of processes before it
abbrev pub last_placed : {tables : TablesOf} {roles : List Role} → EndsWithBlock tables roles
    → PlacedBlock
last_placed e = record { instance = e.instance; role = e.role }

abbrev pub placed_before : (roles : List Role) → List RowOf → List PlacedBlock
placed_before roles others = placed_blocks roles others

-- it is the last of the blocks, its process is the last, and so are its events
pub record IsLastBlock (tables : TablesOf) (roles : List Role) (flat : FlatTablesOf)
    (e : EndsWithBlock tables roles) (owner process first : ℕ) : Type 0 where
  pub behind : owner ≡ length (placed_before roles e.others)
  pub block : slice_get flat.blocks owner ≡ Some (block_row (last_placed e))
  pub row : slice_get flat.processes process
      ≡ Some (process_row owner first e.instance.signals 0 e.process)
  pub owned : owned_from owner 0 flat.events ≡ range_with_len first (length e.role.events)
  pub inside : first + length e.role.events ≡ length flat.events
  pub others : (n : ℕ) (row : ProcessRowOf) → slice_get flat.processes n ≡ Some row
      → n ≢ process → row.owner ≢ owner

-- the number of the event signal that a port of an instance at a place gives values, by its kind
pub record GivesAt (placed : PlacedBlock) (j signal : ℕ) : Type 0 where
  pub kind : PortKind
  pub at : slice_get placed.role.ports j ≡ Some kind
  pub gives : gives true kind ≡ true
  pub signal_is : signal_at placed.instance.signals j ≡ signal

-- the last block gives values to an event signal
pub record GivesEvent (tables : TablesOf) (roles : List Role) (e : EndsWithBlock tables roles)
    (i signal : ℕ) : Type 0 where
  pub there : signal < length tables.event_signals
  pub gives : GivesAt (last_placed e) i signal

-- that signal has values from no other port, of a block of processes or of a module
pub record GivesAlone (tables : TablesOf) (roles : List Role) (flat : FlatTablesOf)
    (e : EndsWithBlock tables roles) : Type 0 where
  pub apart : (i j signal : ℕ) → GivesEvent tables roles e i signal
      → GivesAt (last_placed e) j signal → i ≡ j
  pub blocks : (n i j signal : ℕ) (placed : PlacedBlock) → GivesEvent tables roles e i signal
      → slice_get (placed_before roles e.others) n ≡ Some placed → GivesAt placed j signal → ⊥
  pub modules : (n i signal : ℕ) (port : PortRow) → GivesEvent tables roles e i signal
      → slice_get flat.ports n ≡ Some port → gives true port.kind ≡ true → port.signal ≡ signal
      → ⊥
