-- The flat model, and the first fault of binding after those by line.
-- Source: own.
use Rattle.std.specs.List.{AllZip}
use Rattle.std.specs.Option.{option_map}
use Rattle.std.specs.Prelude.{◌≡◌, ◌<◌, ◌≤◌, ℕ, false, List, [], length, map, Option, Some, None, slice_get, All}
use Rattle.tdf_base.specs.Limits.{greatest_delay, most_clusters}
use Rattle.tdf_base.specs.declared.codes.Code.TheVariants as code
use Rattle.tdf_base.specs.declared.faults.Fault.{Fault}
use Rattle.tdf_base.specs.declared.faults.Place.TheVariants as place
use Rattle.tdf_bind_tables.specs.Actors.{cluster_of, AreActors}
use Rattle.tdf_bind_tables.specs.declared.actors.ActorRow.{ActorRow}
use Rattle.tdf_bind_tables.specs.declared.flat.BindErr.{BindErr}
use Rattle.tdf_bind_tables.specs.declared.flat.BindErr.TheVariants.{Refused, Memory}
use Rattle.tdf_graph.specs.Clusters.{greatest}
use Rattle.tdf_bind_hierarchy.specs.Blocks.{BlockOf}
use Rattle.tdf_bind_hierarchy.specs.Met.{met_in}
use Rattle.tdf_bind_hierarchy.specs.Tables.{TablesOf, table, IsTable}
use Rattle.tdf_bind_hierarchy.specs.declared.tables.Signal.{Signal}
use Rattle.tdf_bind_hierarchy.specs.declared.tables.SignalNumber.{SignalNumber}
use Rattle.tdf_bind_connections.specs.Drivers.{writers_in, misdriven, signal_rows, AreSignals}
use Rattle.tdf_bind_connections.specs.Edges.{edges_of}
use Rattle.tdf_bind_connections.specs.Modules.{placed_modules, ports_from, AreModules}
use Rattle.tdf_bind_connections.specs.ProcessBlocks.{BlockRowOf, ProcessRowOf, AreProcessBlocks}
use Rattle.tdf_bind_connections.specs.Traces.{IsTraceOf, unknown_lines}
use Rattle.tdf_bind_connections.specs.declared.blocks.EventRow.{EventRow}
use Rattle.tdf_bind_connections.specs.declared.drivers.DriverFault.{DriverFault}
use Rattle.tdf_bind_connections.specs.declared.drivers.SignalRow.{SignalRow}
use Rattle.tdf_bind_connections.specs.declared.edges.EdgeRow.{EdgeRow}
use Rattle.tdf_bind_connections.specs.declared.modules.ModuleRow.{ModuleRow}
use Rattle.tdf_bind_connections.specs.declared.modules.PortRow.{PortRow}
use Rattle.tdf_bind_connections.specs.declared.roles.Role.{Role}
use Rattle.tdf_bind_connections.specs.declared.roles.Role.TheVariants.{Module, Processes, Composite}
use Rattle.tdf_bind_connections.specs.declared.traces.TraceLine.{TraceLine}
use Rattle.tdf_bind_connections.specs.declared.traces.TraceRow.{TraceRow}

-- the tables of a flat model
pub record FlatTablesOf : Type 0 where
  pub modules : List ModuleRow
  pub ports : List PortRow
  pub actors : List ActorRow
  pub edges : List EdgeRow
  pub signals : List SignalRow
  pub de_signals : List SignalRow
  pub blocks : List BlockRowOf
  pub processes : List ProcessRowOf
  pub events : List EventRow
  pub traces : List TraceRow

-- the delays of the ports of a block are within their limit
abbrev pub IsShortRole : Role → Type 0
IsShortRole (Module role) = All (λ port. port.delay ≤ greatest_delay) role.ports
IsShortRole (Processes role) = Unit {0}
IsShortRole Composite = Unit {0}

abbrev pub AreShort : List Role → Type 0
AreShort roles = All IsShortRole roles

-- a flat model has the tables that follow from those of what was met,
-- each signal one driver, and no more clusters than there may be
pub record FollowsFrom (tables : TablesOf) (roles : List Role) (lines : List TraceLine)
    (flat : FlatTablesOf) : Type 0 where
  pub modules : AreModules roles tables.instances
      (record { modules = flat.modules; ports = flat.ports })
  pub blocks : AreProcessBlocks roles tables.instances
      (record { blocks = flat.blocks; processes = flat.processes; events = flat.events })
  pub signals : AreSignals (writers_in roles tables flat.ports) tables.signals tables.event_signals
      (record { signals = flat.signals; de_signals = flat.de_signals })
  pub edges : flat.edges ≡ edges_of (length flat.modules) flat.signals flat.ports
  pub actors : AreActors (length flat.modules) flat.ports flat.edges flat.actors
  pub traces : AllZip (IsTraceOf tables) flat.traces lines
  pub drivers : misdriven roles tables flat.ports ≡ []
  pub clusters : greatest (map cluster_of flat.actors) ≤ most_clusters

-- the flat model of blocks, of which `top` is the outermost
pub record IsFlat (blocks : List BlockOf) (top : ℕ) (roles : List Role) (lines : List TraceLine)
    (flat : FlatTablesOf) : Type 0 where
  pub tables : TablesOf
  pub met : IsTable (met_in blocks top) tables
  pub follows : FollowsFrom tables roles lines flat

-- the ports, signals and edges of a model
abbrev pub ports_in : List Role → TablesOf → List PortRow
ports_in roles tables = ports_from 0 (placed_modules roles tables.instances)

abbrev pub count_in : List Role → TablesOf → ℕ
count_in roles tables = length (placed_modules roles tables.instances)

abbrev pub signals_in : List Role → TablesOf → List SignalRow
signals_in roles tables =
    signal_rows (writers_in roles tables (ports_in roles tables) false) tables.signals

abbrev pub edges_in : List Role → TablesOf → List EdgeRow
edges_in roles tables =
    edges_of (count_in roles tables) (signals_in roles tables) (ports_in roles tables)

-- the path of a signal
abbrev pub path_or_none : Option Signal → List ℕ
path_or_none None = []
path_or_none (Some signal) = signal.path

abbrev pub path_of : List Signal → ℕ → List ℕ
path_of signals number = path_or_none (slice_get signals number)

abbrev pub path_at : TablesOf → SignalNumber → List ℕ
path_at tables n = path_of (table n.event tables) n.number

-- a fault of drivers, at the path of the signal
abbrev pub driver_report : TablesOf → DriverFault → Fault
driver_report tables fault = record {
  code = fault.code;
  place = place.At (path_at tables fault.signal);
}

-- a path that leads to no signal, on its line
abbrev pub trace_report : ℕ → Fault
trace_report line = record { code = code.UnknownPath; place = place.Line line }

-- more clusters than there may be, without a place
abbrev pub clusters_report : Fault
clusters_report = record { code = code.Clusters; place = place.Nowhere }

abbrev pub driver_faults_in : List Role → TablesOf → List DriverFault
driver_faults_in roles tables = misdriven roles tables (ports_in roles tables)

-- the actors are in more clusters than there may be
pub record HasManyClusters (modules : ℕ) (ports : List PortRow)
    (edges : List EdgeRow) : Type 0 where
  pub actors : List ActorRow
  pub are : AreActors modules ports edges actors
  pub many : most_clusters < greatest (map cluster_of actors)

-- the first fault: drivers in preorder of signals, then traces by line, then clusters
pub data IsFirstTableFault (roles : List Role) (tables : TablesOf) (lines : List TraceLine)
    (fault : Fault) : Type 0 where
  OfDriver : option_map (driver_report tables) (slice_get (driver_faults_in roles tables) 0)
      ≡ Some fault
      → IsFirstTableFault roles tables lines fault
  OfTrace : driver_faults_in roles tables ≡ []
      → option_map trace_report (slice_get (unknown_lines tables lines) 0) ≡ Some fault
      → IsFirstTableFault roles tables lines fault
  OfClusters : driver_faults_in roles tables ≡ [] → unknown_lines tables lines ≡ []
      → HasManyClusters (count_in roles tables) (ports_in roles tables) (edges_in roles tables)
      → fault ≡ clusters_report
      → IsFirstTableFault roles tables lines fault

-- the fault of a model
pub record HasBindingFault (blocks : List BlockOf) (top : ℕ) (roles : List Role)
    (lines : List TraceLine)
    (fault : Fault) : Type 0 where
  pub tables : TablesOf
  pub met : IsTable (met_in blocks top) tables
  pub first : IsFirstTableFault roles tables lines fault

-- a refusal is the first fault; want of memory is free
abbrev pub IsFlatRefusal : List BlockOf → ℕ → List Role → List TraceLine → BindErr → Type 0
IsFlatRefusal blocks top roles lines (Refused fault) = HasBindingFault blocks top roles lines fault
IsFlatRefusal blocks top roles lines Memory = Unit {0}
