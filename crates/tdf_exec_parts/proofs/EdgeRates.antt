-- The rates of ports and edges, as they are found.
use Rattle.std.proofs.Common.{◌≡◌, ◌∙◌, ℕ, Some, option_map, List, map, ap}
use Rattle.std.proofs.lemmas.Option.{slice_get-map}
use Rattle.std.proofs.lemmas.Simd.{map-map}
use Rattle.std.specs.Prelude.{slice_get, slice_index}
use Rattle.tdf_bind_tables.specs.FlatTables.{FlatTablesOf}
use Rattle.tdf_dynamic_plans.specs.Attributes.{AttrsOf}
use Rattle.tdf_dynamic_plans.specs.Rates.{edge_kind, net_of, net_ports, port_rate, rated_edge, rated_port, read_rate_by, write_rate_by}
use Rattle.tdf_graph.specs.declared.actors.Edge.{Edge}
use Rattle.tdf_exec_parts.proofs.Rows.{index_at}
use Rattle.tdf_exec_layout.specs.Below.{read_rates, write_rates}
use Rattle.tdf_timestep.specs.Period.{port_rate_or_one, rate_at_port}
use Rattle.tdf_bind_connections.specs.declared.edges.EdgeRow.{EdgeRow}
use Rattle.tdf_bind_connections.specs.declared.modules.PortRow.{PortRow}

module _ (tables : FlatTablesOf) (table : List AttrsOf) where
  -- the rate of a port
  pub rate_there : (n : ℕ) (row : PortRow) → slice_get tables.ports n ≡ Some row → rate_at_port (net_ports tables table) (Some n) ≡ port_rate table row
  unfolding net_ports
  rate_there n row at = ap port_rate_or_one (slice_get-map (rated_port table) tables.ports n ∙ ap (option_map (rated_port table)) at)

  abbrev pub edge_reads : EdgeRow → ℕ
  edge_reads edge = read_rate_by (net_ports tables table) edge (edge_kind tables.ports edge)

  abbrev pub edge_writes : EdgeRow → ℕ
  edge_writes edge = write_rate_by (net_ports tables table) edge (edge_kind tables.ports edge)

  pub reads_map : read_rates (net_of tables table) ≡ map edge_reads tables.edges
  unfolding net_of
  reads_map = map-map (λ (e : Edge). e.read_rate) (rated_edge tables.ports (net_ports tables table)) tables.edges

  pub writes_map : write_rates (net_of tables table) ≡ map edge_writes tables.edges
  unfolding net_of
  writes_map = map-map (λ (e : Edge). e.write_rate) (rated_edge tables.ports (net_ports tables table)) tables.edges

  -- those of one edge
  pub reads_at : (e : ℕ) (edge : EdgeRow) → slice_get tables.edges e ≡ Some edge → slice_index (read_rates (net_of tables table)) e ≡ edge_reads edge
  reads_at e edge at = ap (λ l. slice_index l e) reads_map ∙ index_at edge_reads tables.edges e edge at

  pub writes_at : (e : ℕ) (edge : EdgeRow) → slice_get tables.edges e ≡ Some edge → slice_index (write_rates (net_of tables table)) e ≡ edge_writes edge
  writes_at e edge at = ap (λ l. slice_index l e) writes_map ∙ index_at edge_writes tables.edges e edge at
