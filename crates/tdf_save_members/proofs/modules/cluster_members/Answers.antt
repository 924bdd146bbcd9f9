use Rattle.std.proofs.Common.{◌≡◌, ◌∙◌, ◌<◌, ℕ, Vec, Global, List, ap, length, map, sym, subst}
use Rattle.std.proofs.lemmas.List.{length-map}
use Rattle.std.specs.Prelude.{All, [], slice_index_or}
use Rattle.tdf_bind_tables.specs.Ranges.{edge_path}
use Rattle.tdf_cluster_net.specs.Numbers.{AllBelow}
use Rattle.tdf_cluster_plans.proofs.Api.{in_count}
use Rattle.tdf_cluster_plans.specs.Groups.{edge_cluster}
use Rattle.tdf_dynamic_first.proofs.Api.{table_is}
use Rattle.tdf_dynamic_plans.proofs.Api.{rows_same}
use Rattle.tdf_dynamic_plans.specs.Attributes.{AttrsOf, clusters_of}
use Rattle.tdf_exec.specs.Saved.{own_edges}
use Rattle.tdf_exec.proofs.Api.{own_numbers}
use Rattle.tdf_save.specs.Members.{ClusterMembersOf, ModuleMembersOf}
use Rattle.tdf_save_members.specs.OfFlat.{module_members}
use Rattle.tdf_dynamic_first.specs.Text.{first_table}
use Rattle.tdf_save_members.proofs.modules.cluster_members.Goals as goal
use Rattle.tdf_streams.proofs.Api.{is_plannable}

pub first_table-requires-clause-plannable : goal.first_table-requires-clause-plannable
first_table-requires-clause-plannable c = is_plannable c.args.flat.now c.requires.limits

pub module_list-requires-clause-modules : goal.module_list-requires-clause-modules
module_list-requires-clause-modules c =
    subst (All (λ (a : AttrsOf). a.number < length c.args.flat.now.tables.modules)) (sym (c.deref.ensures.value ∙ rows_same c.attrs.view_is ∙ c.in_ok-attrs.ensures.rows))
    (λ k d less. (table_is c.args.flat.now c.args.cluster (is_plannable c.args.flat.now c.requires.limits) k d less).is_module)

pub edges-requires : goal.edges-requires
edges-requires c = subst (λ n. c.args.cluster < n) (sym c.requires.groups.edges.long) (in_count (clusters_of c.args.flat.now.tables) c.args.cluster c.requires.groups.count c.requires.has c.requires.groups.all)

pub edge_paths-requires-clause-inside : goal.edge_paths-requires-clause-inside
edge_paths-requires-clause-inside c =
    subst (AllBelow (length c.args.flat.now.tables.edges)) (sym c.edges.ensures)
    (subst (λ n. AllBelow n (slice_index_or c.args.groups.now.edges c.args.cluster [])) (length-map c.args.flat.now.tables.edges (edge_cluster (clusters_of c.args.flat.now.tables)))
    (c.requires.groups.edges.each c.args.cluster (in_count (clusters_of c.args.flat.now.tables) c.args.cluster c.requires.groups.count c.requires.has c.requires.groups.all)).within)

abbrev member : (number : ℕ) → List ModuleMembersOf → List (List ℕ) → ClusterMembersOf
member number modules edges = record { number = number; modules = modules; edges = edges }

pub returns : goal.returns
returns c =
    let modules : c.in_ok-modules.modules.items ≡ map (module_members c.args.flat.now) (first_table c.args.flat.now c.args.cluster) =
    c.in_ok-modules.ensures ∙ ap (map (module_members c.args.flat.now)) (c.deref.ensures.value ∙ rows_same c.attrs.view_is ∙ c.in_ok-attrs.ensures.rows) in
    let edges : map (λ (x : Vec ℕ Global). x.items) c.in_ok-edges.edges.items ≡ map (edge_path c.args.flat.now.tables) (own_edges c.args.flat.now.tables c.args.cluster) =
    c.in_ok-edges.ensures ∙ ap (map (edge_path c.args.flat.now.tables)) (c.edges.ensures ∙ own_numbers c.args.flat.now.tables c.args.groups.now c.args.cluster c.requires.has c.requires.groups) in
    ap (λ (m : List ModuleMembersOf). member c.args.cluster m (map (λ (x : Vec ℕ Global). x.items) c.in_ok-edges.edges.items)) modules
    ∙ ap (member c.args.cluster (map (module_members c.args.flat.now) (first_table c.args.flat.now c.args.cluster))) edges
