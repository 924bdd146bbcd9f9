-- How the tables of blocks of processes are made.
-- Source: own.
use Rattle.std.specs.List.{enumerate_from}
use Rattle.std.specs.Prelude.{ℕ, List, [], ◌∷◌, ◌++◌, length, map, Option, Some, None, slice_get}
use Rattle.tdf_bind_hierarchy.specs.Tables.{RowOf}
use Rattle.tdf_bind_hierarchy.specs.declared.tables.SignalNumber.{SignalNumber}
use Rattle.tdf_bind_connections.specs.ProcessBlocks.{PlacedBlock, as_block, block_row, process_row, event_row, ProcessRowOf, ProcessBlocksOf}
use Rattle.tdf_bind_connections.specs.Roles.{ProcessOf, ProcessesOf}
use Rattle.tdf_bind_connections.specs.declared.roles.Role.{Role}

abbrev pub processes_of : ℕ → ℕ → List SignalNumber → List ProcessOf → List ProcessRowOf
processes_of owner first signals processes =
    map (λ process. process_row owner first signals process.0 process.1)
    (enumerate_from 0 processes)

abbrev pub with_block : RowOf → ProcessesOf → ProcessBlocksOf → ProcessBlocksOf
with_block instance role t = record {
  blocks = t.blocks ++ block_row (record { instance = instance; role = role }) ∷ [];
  processes = t.processes
      ++ processes_of (length t.blocks) (length t.events) instance.signals role.processes;
  events = t.events ++ map (event_row (length t.blocks)) role.events;
}

abbrev pub with_placed_block : Option PlacedBlock → ProcessBlocksOf → ProcessBlocksOf
with_placed_block None t = t
with_placed_block (Some placed) t = with_block placed.instance placed.role t

abbrev pub with_block_at : List Role → RowOf → ProcessBlocksOf → ProcessBlocksOf
with_block_at roles instance t =
    with_placed_block (as_block instance (slice_get roles instance.block)) t
