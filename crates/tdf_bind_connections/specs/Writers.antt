-- The ports that write signals.
-- Source: own.
use Rattle.std.specs.List.{enumerate_from, flat_map}
use Rattle.std.specs.Prelude.{ℕ, Bool, false, not, List, ◌++◌, Option, Some, None, cond, filter_map}
use Rattle.tdf_lang_tree.specs.declared.blocks.PortKind.{PortKind}
use Rattle.tdf_lang_tree.specs.declared.blocks.PortKind.TheVariants.{In, Out, DeIn, DeOut}
use Rattle.tdf_bind_hierarchy.specs.Tables.{RowOf}
use Rattle.tdf_bind_hierarchy.specs.declared.tables.SignalNumber.{SignalNumber}
use Rattle.tdf_bind_connections.specs.Modules.{signal_at}
use Rattle.tdf_bind_connections.specs.ProcessBlocks.{PlacedBlock, placed_blocks}
use Rattle.tdf_bind_connections.specs.declared.modules.PortRow.{PortRow}
use Rattle.tdf_bind_connections.specs.declared.roles.Role.{Role}
use Rattle.tdf_bind_connections.specs.declared.writers.Writer.{Writer}

-- whether a port writes a signal of a kind: an event signal, or one of samples
abbrev pub gives : Bool → PortKind → Bool
gives event Out = not event
gives event DeOut = event
gives event In = false
gives event DeIn = false

-- the port of a module with this number, if it writes a signal of this kind
abbrev pub port_writer : Bool → ℕ → PortRow → Option Writer
port_writer event number port =
    cond (gives event port.kind) (Some (record { signal = port.signal; port = Some number })) None

abbrev pub module_writers : Bool → List PortRow → List Writer
module_writers event ports =
    filter_map (λ port. port_writer event port.0 port.1) (enumerate_from 0 ports)

-- the port at a place of a block of processes, if it writes a signal of this kind
abbrev pub place_writer : Bool → List SignalNumber → ℕ → PortKind → Option Writer
place_writer event signals place kind =
    cond (gives event kind) (Some (record { signal = signal_at signals place; port = None })) None

abbrev pub writers_at : Bool → List SignalNumber → List PortKind → List Writer
writers_at event signals kinds =
    filter_map (λ kind. place_writer event signals kind.0 kind.1) (enumerate_from 0 kinds)

abbrev pub block_writers : Bool → List PlacedBlock → List Writer
block_writers event blocks =
    flat_map (λ placed. writers_at event placed.instance.signals placed.role.ports) blocks

-- the ports that write signals of a kind: those of modules, then those of blocks of processes
abbrev pub writers_to : Bool → List Role → List RowOf → List PortRow → List Writer
writers_to event roles instances ports =
    module_writers event ports ++ block_writers event (placed_blocks roles instances)
