-- No path, name or label of a sound model has an LF.
use Rattle.std.proofs.Common.{◌≡◌, ◌≢◌, ◌∙◌, ℕ, zero, suc, ◌+◌, ◌<◌, ◌≤◌, ◌||◌, List, [], ◌∷◌, ◌++◌, Option, Some, None, map, refl, ap, arith}
use Rattle.std.proofs.lemmas.Bool.{ne_eqb}
use Rattle.std.specs.List.{AllByRecursion, list_any, range_with_len}
use Rattle.std.specs.Prelude.{slice_get}
use Rattle.tdf_bind.proofs.Api.{HasNo, all_append, all_at, all_map, all_mapped, name_without, path_without, paths_are_plain, weaker}
use Rattle.tdf_bind.specs.Laws.{HasPlainPaths, IsPlainPath}
use Rattle.tdf_bind.specs.declared.model.Flat.{Flat}
use Rattle.tdf_bind_connections.specs.ProcessBlocks.{BlockRowOf}
use Rattle.tdf_bind_connections.specs.declared.blocks.EventRow.{EventRow}
use Rattle.tdf_bind_connections.specs.declared.drivers.SignalRow.{SignalRow}
use Rattle.tdf_bind_connections.specs.declared.edges.EdgeRow.{EdgeRow}
use Rattle.tdf_bind_connections.specs.declared.modules.ModuleRow.{ModuleRow}
use Rattle.tdf_bind_connections.specs.declared.modules.PortRow.{PortRow}
use Rattle.tdf_bind_connections.specs.declared.traces.TraceRow.{TraceRow}
use Rattle.tdf_bind_tables.specs.Actors.{cluster_of}
use Rattle.tdf_bind_tables.specs.Ranges.{edge_path, module_path, path_of_edge, port_path}
use Rattle.tdf_dynamic_first.specs.Text.{first_table}
use Rattle.tdf_exec.specs.Saved.{own_edges}
use Rattle.tdf_graph.specs.Clusters.{greatest}
use Rattle.tdf_lang_tree.specs.Kept.{IsName}
use Rattle.tdf_save.specs.Laws.{AreInLines, IsClusterInLine}
use Rattle.tdf_save.specs.Members.{BlockMembersOf, ModuleMembersOf}
use Rattle.tdf_save.specs.Start.{IsInLine, ends_a_line}
use Rattle.tdf_save_members.specs.Laws.{MembersAreInLines}
use Rattle.tdf_save_members.specs.OfFlat.{block_members, cluster_members, clusters_in, named_event, instance_path, members_of, module_members}

in_line : (text : List ℕ) → HasNo 10 text → IsInLine text
in_line [] none = refl
in_line (c ∷ text) none = ap (λ ends. ends || list_any ends_a_line text) (ne_eqb c 10 none.0) ∙ in_line text none.1

path_in_line : (path : List ℕ) → IsPlainPath path → IsInLine path
path_in_line path plain = in_line path (path_without 10 refl path plain)

name_in_line : (name : List ℕ) → IsName name → IsInLine name
name_in_line name is = in_line name (name_without 10 refl name is)

event_in_line : (path name : List ℕ) → IsPlainPath path → IsName name → IsInLine (path ++ 32 ∷ name)
event_in_line path name plain is =
    in_line (path ++ 32 ∷ name) (all_append (λ c. c ≢ 10) path (32 ∷ name) (path_without 10 refl path plain) ((λ same. omega (arith, same)), name_without 10 refl name is))

-- numbers in a row are below their end
below_end : (first count end : ℕ) → first + count ≤ end → AllByRecursion (λ k. k < end) (range_with_len first count)
below_end first zero end fits = tt
below_end first (suc count) end fits = (omega (arith, fits), below_end (first + 1) count end (omega (arith, fits)))

module _ (flat : Flat) (plain : HasPlainPaths flat.tables) where
  instance_plain : (number : ℕ) (o : Option BlockRowOf) → slice_get flat.tables.blocks number ≡ o → IsPlainPath (instance_path o)
  instance_plain number None is = tt
  instance_plain number (Some row) is = all_at (λ (r : BlockRowOf). IsPlainPath r.path) flat.tables.blocks number row plain.blocks is

  module_plain : (number : ℕ) (o : Option ModuleRow) → slice_get flat.tables.modules number ≡ o → IsPlainPath (module_path o)
  module_plain number None is = tt
  module_plain number (Some row) is = all_at (λ (r : ModuleRow). IsPlainPath r.path) flat.tables.modules number row plain.modules is

  port_plain : (number : ℕ) (o : Option PortRow) → slice_get flat.tables.ports number ≡ o → IsPlainPath (port_path o)
  port_plain number None is = tt
  port_plain number (Some row) is = all_at (λ (r : PortRow). IsPlainPath r.path) flat.tables.ports number row plain.ports is

  edge_plain : (o : Option EdgeRow) → IsPlainPath (path_of_edge flat.tables.ports o)
  edge_plain None = tt
  edge_plain (Some edge) = port_plain edge.port (slice_get flat.tables.ports edge.port) refl

  cluster_in_line : (k : ℕ) → k < 65 → IsClusterInLine (cluster_members flat k)
  cluster_in_line k few = record {
    small = omega (arith, few);
    modules = all_map (λ (m : ModuleMembersOf). IsInLine m.path) (module_members flat)
        (λ attrs. path_in_line (module_path (slice_get flat.tables.modules attrs.number)) (module_plain attrs.number (slice_get flat.tables.modules attrs.number) refl)) (first_table flat k);
    edges = all_map IsInLine (edge_path flat.tables)
        (λ number. path_in_line (edge_path flat.tables number) (edge_plain (slice_get flat.tables.edges number))) (own_edges flat.tables k);
  }

  in_lines : greatest (map cluster_of flat.tables.actors) ≤ 64 → AreInLines (members_of flat)
  in_lines few = record {
    clusters = all_mapped IsClusterInLine (cluster_members flat) (clusters_in flat)
        (weaker (λ k. k < 65) (λ k. IsClusterInLine (cluster_members flat k)) cluster_in_line (clusters_in flat)
        (below_end 1 (greatest (map cluster_of flat.tables.actors)) 65 (omega (arith, few))));
    values = all_mapped IsInLine (λ (row : SignalRow). row.path) flat.tables.de_signals
        (weaker (λ (row : SignalRow). IsPlainPath row.path) (λ row. IsInLine row.path) (λ row path. path_in_line row.path path) flat.tables.de_signals plain.de_signals);
    blocks = all_mapped (λ (b : BlockMembersOf). IsInLine b.path) (block_members flat) flat.tables.blocks
        (weaker (λ (row : BlockRowOf). IsPlainPath row.path) (λ row. IsInLine row.path) (λ row path. path_in_line row.path path) flat.tables.blocks plain.blocks);
    events = all_mapped IsInLine (named_event flat.tables) flat.tables.events
        (weaker (λ (row : EventRow). IsName row.name) (λ row. IsInLine (named_event flat.tables row))
        (λ row name. event_in_line (instance_path (slice_get flat.tables.blocks row.owner)) row.name (instance_plain row.owner (slice_get flat.tables.blocks row.owner) refl) name)
        flat.tables.events plain.events);
    columns = all_mapped IsInLine (λ (row : TraceRow). row.label) flat.tables.traces
        (weaker (λ (row : TraceRow). IsName row.label) (λ row. IsInLine row.label) (λ row name. name_in_line row.label name) flat.tables.traces plain.traces);
  }

pub members_in_lines : MembersAreInLines
members_in_lines model flat sound is = in_lines flat (paths_are_plain model flat sound.kept sound.names is) is.tables.follows.clusters
