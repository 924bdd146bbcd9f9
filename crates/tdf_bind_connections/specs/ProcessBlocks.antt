-- The instances of blocks of processes, their processes and their events.
-- Source: own.
use Rattle.std.specs.List.{enumerate_from}
use Rattle.std.specs.Prelude.{◌≡◌, ◌+◌, ℕ, Bool, List, [], ◌∷◌, ◌++◌, length, map, Option, Some, None, slice_get, filter_map}
use Rattle.tdf_bind_hierarchy.specs.Tables.{RowOf}
use Rattle.tdf_bind_hierarchy.specs.declared.tables.SignalNumber.{SignalNumber}
use Rattle.tdf_bind_connections.specs.Modules.{signal_at}
use Rattle.tdf_bind_connections.specs.Roles.{ProcessOf, ProcessesOf}
use Rattle.tdf_bind_connections.specs.declared.blocks.EventRow.{EventRow}
use Rattle.tdf_bind_connections.specs.declared.roles.Role.{Role}
use Rattle.tdf_bind_connections.specs.declared.roles.Role.TheVariants.{Processes}

-- an instance of a block of processes with the data of its block
pub record PlacedBlock : Type 0 where
  pub instance : RowOf
  pub role : ProcessesOf

abbrev pub as_block : RowOf → Option Role → Option PlacedBlock
as_block instance (Some (Processes role)) = Some (record { instance = instance; role = role })
as_block instance _ = None

-- the blocks of processes among the instances
abbrev pub placed_blocks : List Role → List RowOf → List PlacedBlock
placed_blocks roles instances =
    filter_map (λ instance. as_block instance (slice_get roles instance.block)) instances

pub record BlockRowOf : Type 0 where
  pub path : List ℕ
  pub block : ℕ
  pub signals : List ℕ

pub record ProcessRowOf : Type 0 where
  pub owner : ℕ
  pub number : ℕ
  pub starts : Bool
  pub signals : List ℕ
  pub events : List ℕ

abbrev pub block_row : PlacedBlock → BlockRowOf
block_row placed = record {
  path = placed.instance.path;
  block = placed.role.block;
  signals = map (λ signal. signal.number) placed.instance.signals;
}

-- a process of the instance `owner`, whose ports reach `signals`
-- and whose events are numbered from `first`
abbrev pub process_row : ℕ → ℕ → List SignalNumber → ℕ → ProcessOf → ProcessRowOf
process_row owner first signals number process = record {
  owner = owner;
  number = number;
  starts = process.starts;
  signals = map (signal_at signals) process.ports;
  events = map (λ place. first + place) process.events;
}

abbrev pub event_row : ℕ → List ℕ → EventRow
event_row owner name = record { owner = owner; name = name }

-- the processes of an instance, each with its place
abbrev pub block_processes : ℕ → ℕ → PlacedBlock → List ProcessRowOf
block_processes owner first placed =
    map (λ process. process_row owner first placed.instance.signals process.0 process.1)
    (enumerate_from 0 placed.role.processes)

-- the processes of instances that are numbered from `owner`, whose events are numbered from `first`
abbrev pub processes_from : ℕ → ℕ → List PlacedBlock → List ProcessRowOf
processes_from owner first [] = []
processes_from owner first (placed ∷ later) =
    block_processes owner first placed
    ++ processes_from (owner + 1) (first + length placed.role.events) later

-- the events of instances that are numbered from `owner`
abbrev pub events_from : ℕ → List PlacedBlock → List EventRow
events_from owner [] = []
events_from owner (placed ∷ later) =
    map (event_row owner) placed.role.events ++ events_from (owner + 1) later

pub record ProcessBlocksOf : Type 0 where
  pub blocks : List BlockRowOf
  pub processes : List ProcessRowOf
  pub events : List EventRow

-- the tables are those of the blocks of processes among the instances
pub record AreProcessBlocks (roles : List Role) (instances : List RowOf)
    (tables : ProcessBlocksOf) : Type 0 where
  pub blocks : tables.blocks ≡ map block_row (placed_blocks roles instances)
  pub processes : tables.processes ≡ processes_from 0 0 (placed_blocks roles instances)
  pub events : tables.events ≡ events_from 0 (placed_blocks roles instances)
