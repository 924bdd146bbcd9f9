-- What those who fire actors need of the edges.
use Rattle.std.proofs.Common.{◌≡◌, ◌∙◌, ℕ, ◌<◌, Some, List, length, sym, subst, slice_get}
use Rattle.std.specs.Prelude.{All}
use Rattle.tdf_bind_tables.specs.FlatTables.{FlatTablesOf}
use Rattle.tdf_expr.specs.Frames.{IsOfFormat}
use Rattle.tdf_exec_firing.specs.Actors.{CanPutOne}
use Rattle.tdf_exec_firing.specs.Formats.{AreFormats}
use Rattle.tdf_exec_firing.specs.Wires.{WiresOf}
use Rattle.tdf_fixed.specs.declared.format.Format.{Format}
use Rattle.tdf_bind_invariants.specs.Below.{Flat, IsFlatOf}
use Rattle.tdf_streams.proofs.Api.{some_same}
use Rattle.tdf_bind_invariants.specs.Formats.{IsSoundModel, PortsHaveFormats}
use Rattle.tdf_exec_layout.proofs.Samples.{edge_fits, read_format, write_format}
use Rattle.tdf_exec_layout.proofs.Wired.{spans_at}
use Rattle.tdf_exec_layout.specs.Samples.{EdgeHasFormat, edge_format}
use Rattle.tdf_exec_layout.specs.Wiring.{AreEdgesOf, AreWiresOf, Writes}
use Rattle.tdf_rings.specs.Carried.{ring_at}
use Rattle.tdf_rings.specs.Rings.{RingOf}
use Rattle.tdf_streams.specs.Cluster.{initial_list}
use Rattle.tdf_lang_tree.specs.Pure.{PureTree}
use Rattle.tdf_bind_connections.specs.declared.edges.EdgeRow.{EdgeRow}

-- a sampler can put a sample on each of its edges where each has room for one
pub can_put : (tables : FlatTablesOf) (m : ℕ) (edges : List ℕ) (rings : List RingOf) → AreEdgesOf tables m edges → length rings ≡ length tables.edges
    → ((e : ℕ) → Writes tables m e → length (ring_at rings e).samples < (ring_at rings e).capacity) → CanPutOne edges rings
can_put tables m edges rings are same room = record {
  inside = λ j e at. let w = are.each j e at in subst (λ n. e < n) (sym same) w.inside;
  once = are.once;
  room = λ j e at. room e (are.each j e at);
}

module _ (formats : PortsHaveFormats) (model : PureTree) (flat : Flat) (sound : IsSoundModel model) (is : IsFlatOf model flat) where
  -- what an edge holds at first is of its format
  pub initials_fit : (e : ℕ) (edge : EdgeRow) (f : Format) → slice_get flat.tables.edges e ≡ Some edge → edge_format flat.tables e ≡ Some f → All (IsOfFormat f) (initial_list flat.tables edge)
  initials_fit e edge f at is_format =
      let h : EdgeHasFormat flat e edge = edge_fits formats model flat sound is e edge at in
      subst (λ (x : Format). All (IsOfFormat x) (initial_list flat.tables edge)) (some_same h.format f (sym h.format_is ∙ is_format)) h.initials

  -- any function that gives each edge its format gives the ports of wires theirs
  pub are_formats : (format : ℕ → Format) (m : ℕ) (wires : WiresOf) → ((e : ℕ) (f : Format) → edge_format flat.tables e ≡ Some f → format e ≡ f) → m < length flat.tables.modules
      → AreWiresOf flat.tables m wires → AreFormats format wires (spans_at formats model flat sound is m)
  are_formats format m wires gives below are = record {
    ins = λ j w p at pat. gives w.edge p.format (read_format formats model flat sound is m wires below are j w p at pat);
    outs = λ j w p at pat. gives w.edge p.format (write_format formats model flat sound is m wires below are j w p at pat);
  }
