-- The net of a flat model with the rates that a table of attributes gives.
-- Source: own.
use Rattle.std.specs.Prelude.{◌≤◌, ◌*◌, ℕ, List, map, Option, Some, None, slice_get, slice_index, All, length}
use Rattle.tdf_base.specs.Limits.{greatest_delay}
use Rattle.tdf_bind_tables.specs.Actors.{AreActors}
use Rattle.tdf_bind_tables.specs.FlatTables.{FlatTablesOf}
use Rattle.tdf_bind_tables.specs.Ranges.{AreInRange}
use Rattle.tdf_dynamic_plans.specs.Attributes.{AttrsOf, attrs_at}
use Rattle.tdf_graph.specs.Ranges.{IsRate}
use Rattle.tdf_graph.specs.declared.actors.Actor.{Actor}
use Rattle.tdf_graph.specs.declared.actors.Edge.{Edge}
use Rattle.tdf_graph.specs.declared.actors.Port.{Port}
use Rattle.tdf_graph.specs.declared.net.Net.{Net}
use Rattle.tdf_timestep.specs.Period.{rate_at_port}
use Rattle.tdf_lang_tree.specs.declared.blocks.PortKind.{PortKind}
use Rattle.tdf_lang_tree.specs.declared.blocks.PortKind.TheVariants.{In, Out, DeIn, DeOut}
use Rattle.tdf_bind_connections.specs.declared.edges.EdgeRow.{EdgeRow}
use Rattle.tdf_bind_connections.specs.declared.modules.PortRow.{PortRow}

-- a number, or a number times the value of a rate variable
abbrev pub times_value : ℕ → List ℕ → Option ℕ → ℕ
times_value times values None = times
times_value times values (Some var) = times * slice_index values var

-- the rate of a port; 1 for a port of a module that is not in the table, where it makes no
-- difference
abbrev pub rate_by : PortRow → Option AttrsOf → ℕ
rate_by port None = 1
rate_by port (Some attrs) = times_value port.rate.times attrs.rates port.rate.var

abbrev pub port_rate : List AttrsOf → PortRow → ℕ
port_rate table port = rate_by port (attrs_at table port.«module»)

abbrev pub rated_port : List AttrsOf → PortRow → Port
rated_port table port = record { actor = port.«module»; rate = port_rate table port }

-- the ports with their rates
unfoldable pub net_ports : FlatTablesOf → List AttrsOf → List Port
net_ports tables table = map (rated_port table) tables.ports

-- samples written into an edge: by the `out` port that drives it, one by a sampler, or by the
-- `de_out` port
abbrev pub write_rate_by : List Port → EdgeRow → Option PortKind → ℕ
write_rate_by ports edge None = 1
write_rate_by ports edge (Some In) = rate_at_port ports edge.driver
write_rate_by ports edge (Some Out) = 1
write_rate_by ports edge (Some DeIn) = 1
write_rate_by ports edge (Some DeOut) = rate_at_port ports (Some edge.port)

-- samples read from an edge: by the `in` or `de_in` port, or one by a sink
abbrev pub read_rate_by : List Port → EdgeRow → Option PortKind → ℕ
read_rate_by ports edge None = 1
read_rate_by ports edge (Some In) = rate_at_port ports (Some edge.port)
read_rate_by ports edge (Some Out) = 1
read_rate_by ports edge (Some DeIn) = rate_at_port ports (Some edge.port)
read_rate_by ports edge (Some DeOut) = 1

abbrev pub kind_of_port : Option PortRow → Option PortKind
kind_of_port None = None
kind_of_port (Some port) = Some port.kind

-- the word of the port that gives an edge
abbrev pub edge_kind : List PortRow → EdgeRow → Option PortKind
edge_kind rows edge = kind_of_port (slice_get rows edge.port)

abbrev pub rated_edge : List PortRow → List Port → EdgeRow → Edge
rated_edge rows ports edge = record {
  writer = edge.writer;
  reader = edge.reader;
  write_rate = write_rate_by ports edge (edge_kind rows edge);
  read_rate = read_rate_by ports edge (edge_kind rows edge);
  initial = edge.initial;
}

-- a net, as clauses see it
pub record NetOf : Type 0 where
  pub actors : List Actor
  pub edges : List Edge
  pub ports : List Port

abbrev pub net_seen : Net → NetOf
net_seen net = record {
  actors = net.actors.items;
  edges = net.edges.items;
  ports = net.ports.items;
}

-- the net of a model under a table: its actors, its edges and ports with their rates
unfoldable pub net_of : FlatTablesOf → List AttrsOf → NetOf
net_of tables table = record {
  actors = map (λ row. row.kind) tables.actors;
  edges = map (rated_edge tables.ports (net_ports tables table)) tables.edges;
  ports = net_ports tables table;
}

-- the rates of all ports are in range
abbrev pub AreRates : FlatTablesOf → List AttrsOf → Type 0
AreRates tables table = All (λ port. IsRate (port_rate table port)) tables.ports

-- the tables of a flat model: numbers of rows, actors with the clusters that the edges make of
-- them, and delays within their limits
pub record IsWired (tables : FlatTablesOf) : Type 0 where
  pub in_range : AreInRange tables
  pub actors : AreActors (length tables.modules) tables.ports tables.edges tables.actors
  pub delays : All (λ edge. edge.initial ≤ 2 * greatest_delay) tables.edges
