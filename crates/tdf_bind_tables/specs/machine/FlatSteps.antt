-- How the tables are put together.
-- Source: own.
use Rattle.std.specs.Option.{option_map}
use Rattle.std.specs.Prelude.{◌≡◌, ◌≤◌, ℕ, List, Some, length, map, slice_get}
use Rattle.tdf_base.specs.Limits.{most_clusters}
use Rattle.tdf_bind_tables.specs.Actors.{cluster_of, AreActors}
use Rattle.tdf_bind_tables.specs.declared.actors.ActorRow.{ActorRow}
use Rattle.tdf_graph.specs.Clusters.{greatest}
use Rattle.tdf_bind_connections.specs.Drivers.{SignalsOf}
use Rattle.tdf_bind_connections.specs.Edges.{edges_of}
use Rattle.tdf_bind_connections.specs.Modules.{ModulesOf}
use Rattle.tdf_bind_connections.specs.ProcessBlocks.{ProcessBlocksOf}
use Rattle.tdf_bind_connections.specs.declared.edges.EdgeRow.{EdgeRow}
use Rattle.tdf_bind_connections.specs.declared.traces.TraceRow.{TraceRow}
use Rattle.tdf_bind_tables.specs.FlatTables.{driver_report, trace_report, clusters_report, FlatTablesOf, HasManyClusters, IsFirstTableFault}
use Rattle.tdf_bind_tables.specs.declared.flat.BindErr.{BindErr}
use Rattle.tdf_bind_tables.specs.declared.flat.BindErr.TheVariants as bind
use Rattle.tdf_bind_hierarchy.specs.Tables.{TablesOf}
use Rattle.tdf_bind_connections.specs.declared.drivers.DriverErr.{DriverErr}
use Rattle.tdf_bind_connections.specs.declared.drivers.DriverErr.TheVariants as driver
use Rattle.tdf_bind_connections.specs.declared.drivers.DriverFault.{DriverFault}
use Rattle.tdf_bind_connections.specs.declared.roles.Role.{Role}
use Rattle.tdf_bind_connections.specs.declared.traces.TraceErr.{TraceErr}
use Rattle.tdf_bind_connections.specs.declared.traces.TraceErr.TheVariants as trace
use Rattle.tdf_bind_connections.specs.declared.traces.TraceLine.{TraceLine}

abbrev pub IsDriverErr : TablesOf → DriverErr → BindErr → Type 0
IsDriverErr tables (driver.Refused fault) (bind.Refused report) =
    report ≡ driver_report tables fault
IsDriverErr tables driver.Memory (bind.Refused report) = ⊥
IsDriverErr tables error bind.Memory = Unit {0}

abbrev pub IsTraceErr : TraceErr → BindErr → Type 0
IsTraceErr (trace.Unknown line) (bind.Refused report) = report ≡ trace_report line
IsTraceErr trace.Memory (bind.Refused report) = ⊥
IsTraceErr error bind.Memory = Unit {0}

abbrev pub IsDriverFault : TablesOf → List DriverFault → BindErr → Type 0
IsDriverFault tables faults (bind.Refused fault) =
    option_map (driver_report tables) (slice_get faults 0) ≡ Some fault
IsDriverFault tables faults bind.Memory = Unit {0}

abbrev pub IsTraceFault : List ℕ → BindErr → Type 0
IsTraceFault unknown (bind.Refused fault) =
    option_map trace_report (slice_get unknown 0) ≡ Some fault
IsTraceFault unknown bind.Memory = Unit {0}

abbrev pub IsFirstErr : List Role → TablesOf → List TraceLine → BindErr → Type 0
IsFirstErr roles tables lines (bind.Refused fault) = IsFirstTableFault roles tables lines fault
IsFirstErr roles tables lines bind.Memory = Unit {0}

abbrev pub assembled : ModulesOf → ProcessBlocksOf → SignalsOf → List TraceRow
    → List EdgeRow → List ActorRow → FlatTablesOf
assembled modules blocks signals traces edges actors = record {
  modules = modules.modules;
  ports = modules.ports;
  actors = actors;
  edges = edges;
  signals = signals.signals;
  de_signals = signals.de_signals;
  blocks = blocks.blocks;
  processes = blocks.processes;
  events = blocks.events;
  traces = traces;
}

-- the flat model of some modules, blocks of processes, signals and traces
pub record IsAssembled (modules : ModulesOf) (blocks : ProcessBlocksOf) (signals : SignalsOf)
    (traces : List TraceRow) (flat : FlatTablesOf) : Type 0 where
  pub same : flat ≡ assembled modules blocks signals traces flat.edges flat.actors
  pub edges : flat.edges ≡ edges_of (length modules.modules) signals.signals modules.ports
  pub actors : AreActors (length modules.modules) modules.ports flat.edges flat.actors
  pub clusters : greatest (map cluster_of flat.actors) ≤ most_clusters

abbrev pub IsGraphErr : ModulesOf → SignalsOf → BindErr → Type 0
IsGraphErr modules signals (bind.Refused fault) =
    (fault ≡ clusters_report) × HasManyClusters (length modules.modules) modules.ports
    (edges_of (length modules.modules) signals.signals modules.ports)
IsGraphErr modules signals bind.Memory = Unit {0}
