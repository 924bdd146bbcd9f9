-- How edges are made.
-- Source: own.
use Rattle.std.specs.List.{enumerate_from}
use Rattle.std.specs.Prelude.{◌≡◌, ◌+◌, ℕ, List, cond, filter_map, take}
use Rattle.tdf_lang_tree.specs.declared.blocks.PortKind.{PortKind}
use Rattle.tdf_bind_connections.specs.Edges.{is_event_port, actor_at, edge_by}
use Rattle.tdf_bind_connections.specs.declared.drivers.SignalRow.{SignalRow}
use Rattle.tdf_bind_connections.specs.declared.edges.EdgeRow.{EdgeRow}
use Rattle.tdf_bind_connections.specs.declared.modules.PortRow.{PortRow}

abbrev pub actor_after : ℕ → PortKind → ℕ
actor_after actor kind = cond (is_event_port kind) (actor + 1) actor

-- the loop over the ports
pub record EdgesUpTo (modules : ℕ) (signals : List SignalRow) (ports : List PortRow) (i actor : ℕ)
    (edges : List EdgeRow) : Type 0 where
  pub edges_are : edges
      ≡ filter_map (λ port. edge_by signals ports port.0 (actor_at modules ports port.0) port.1)
      (enumerate_from 0 (take i ports))
  pub actor_is : actor ≡ actor_at modules ports i
