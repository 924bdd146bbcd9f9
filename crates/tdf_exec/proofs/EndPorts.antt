-- The ports of an edge are of modules in its cluster.
use Rattle.std.proofs.Common.{◌≡◌, ◌∙◌, ℕ, Option, Some, None, sym, ap}
use Rattle.std.proofs.lemmas.Option.{same_Some}
use Rattle.std.specs.Prelude.{All, slice_get, slice_index}
use Rattle.tdf_bind.specs.declared.model.Flat.{Flat}
use Rattle.tdf_bind_connections.specs.declared.edges.EdgeRow.{EdgeRow}
use Rattle.tdf_bind_connections.specs.declared.modules.PortRow.{PortRow}
use Rattle.tdf_cluster_plans.specs.Groups.{HasPortsInside, edge_cluster, port_cluster}
use Rattle.tdf_dynamic_plans.specs.Attributes.{clusters_of}
use Rattle.tdf_exec.proofs.Changing.{all_from}
use Rattle.tdf_exec.specs.machine.Laid.{IsLaid}
use Rattle.tdf_exec_layout.specs.Edges.{IsEdgeRow}
use Rattle.tdf_streams.proofs.Api.{one_cluster}

no_driver : (o : Option ℕ) (n : ℕ) → o ≡ None → o ≡ Some n → ⊥
no_driver None n none some = absurd cc
no_driver (Some x) n none some = absurd cc

module _ (flat : Flat) (laid : IsLaid flat) (e : ℕ) (edge : EdgeRow) (at : slice_get flat.tables.edges e ≡ Some edge) where
  abbrev cluster_at : ℕ → ℕ
  cluster_at m = slice_index (clusters_of flat.tables) m

  by_reader : (n : ℕ) (port p : PortRow) → slice_get flat.tables.ports n ≡ Some port → edge.reader ≡ port.«module» → slice_get flat.tables.ports n ≡ Some p
      → port_cluster (clusters_of flat.tables) p ≡ edge_cluster (clusters_of flat.tables) edge
  by_reader n port p is reads found =
      ap (λ (x : PortRow). cluster_at x.«module») (same_Some p port (sym found ∙ is)) ∙ ap cluster_at (sym reads) ∙ sym (one_cluster flat laid.limits e edge at)

  by_writer : (n : ℕ) (port p : PortRow) → slice_get flat.tables.ports n ≡ Some port → edge.writer ≡ port.«module» → slice_get flat.tables.ports n ≡ Some p
      → port_cluster (clusters_of flat.tables) p ≡ edge_cluster (clusters_of flat.tables) edge
  by_writer n port p is writes found = ap (λ (x : PortRow). cluster_at x.«module») (same_Some p port (sym found ∙ is)) ∙ ap cluster_at (sym writes)

  edge_inside : IsEdgeRow flat.tables edge → HasPortsInside flat.tables edge
  edge_inside (IsEdgeRow.Between port out driver is) = record {
    own = λ p found. by_reader edge.port port p is.port_at is.reader found;
    driver = λ n p driven found. by_writer out driver p is.driver_at is.writer (ap (slice_get flat.tables.ports) (same_Some out n (sym is.driven ∙ driven)) ∙ found);
  }
  edge_inside (IsEdgeRow.FromSampler port is) = record {
    own = λ p found. by_reader edge.port port p is.port_at is.reader found;
    driver = λ n p driven found. absurd (no_driver edge.driver n is.not_driven driven);
  }
  edge_inside (IsEdgeRow.ToSink port is) = record {
    own = λ p found. by_writer edge.port port p is.port_at is.writer found;
    driver = λ n p driven found. absurd (no_driver edge.driver n is.not_driven driven);
  }

pub ports_inside : (flat : Flat) → IsLaid flat → All (HasPortsInside flat.tables) flat.tables.edges
ports_inside flat laid = all_from (HasPortsInside flat.tables) flat.tables.edges (λ e edge at. edge_inside flat laid e edge at (laid.rows e edge at))
