-- The clusters of things are no greater than the greatest one.
use Rattle.std.proofs.Common.{◌≡◌, ◌∙◌, ℕ, zero, suc, ◌<◌, List, [], ◌∷◌, length, map, sym, ap, subst, arith}
use Rattle.std.proofs.lemmas.List.{get_or_default, length-map}
use Rattle.std.proofs.lemmas.List.Elements.{All-weaker, recursion_from_All}
use Rattle.std.specs.List.{AllByRecursion}
use Rattle.std.specs.Prelude.{All, Contains, slice_index}
use Rattle.tdf_bind_connections.specs.declared.modules.PortRow.{PortRow}
use Rattle.tdf_bind_tables.specs.Actors.{cluster_of}
use Rattle.tdf_bind_tables.specs.FlatTables.{FlatTablesOf}
use Rattle.tdf_cluster_net.specs.Numbers.{AllBelow}
use Rattle.tdf_cluster_plans.specs.Groups.{edge_cluster, port_cluster}
use Rattle.tdf_dynamic_plans.proofs.Api.{modules_few}
use Rattle.tdf_dynamic_plans.specs.Attributes.{clusters_of}
use Rattle.tdf_dynamic_plans.specs.Rates.{IsWired}
use Rattle.tdf_graph.specs.Clusters.{greatest}

pub index_below : (clusters : List ℕ) (count : ℕ) → greatest clusters < count → (k : ℕ) → slice_index clusters k < count
index_below [] count most k = most
index_below (n ∷ clusters) count most zero = omega (arith, most)
index_below (n ∷ clusters) count most (suc k) = index_below clusters count (omega (arith, most)) k

-- a cluster that is there
pub in_count : (clusters : List ℕ) (cluster count : ℕ) → Contains clusters cluster → greatest clusters < count → cluster < count
in_count clusters cluster count has most = subst (λ k. k < count) (sym (get_or_default clusters has.0 cluster 0 has.1) ∙ has.2) (index_below clusters count most has.0)

mapped_below : {A : Type 0} (f : A → ℕ) (count : ℕ) → ((x : A) → f x < count) → (rows : List A) → AllBelow count (map f rows)
mapped_below f count below [] i less = absurd (omega (arith, less))
mapped_below f count below (x ∷ rows) zero less = below x
mapped_below f count below (x ∷ rows) (suc i) less = mapped_below f count below rows i (omega (arith, less))

module _ (tables : FlatTablesOf) (wired : IsWired tables) (count : ℕ) (most : greatest (clusters_of tables) < count) (clusters : List ℕ) (same : clusters ≡ clusters_of tables) where
  clusters_long : length clusters ≡ length tables.actors
  clusters_long = ap (λ (l : List ℕ). length l) same ∙ length-map tables.actors cluster_of

  pub modules_inside : All (λ (port : PortRow). port.«module» < length clusters) tables.ports
  modules_inside = All-weaker (λ (port : PortRow). port.«module» < length tables.modules) (λ (port : PortRow). port.«module» < length clusters)
      (λ port less. let few = modules_few tables wired in let long = clusters_long in omega (arith, less, few, long)) tables.ports wired.in_range.port_modules

  pub actors_below : AllBelow count clusters
  actors_below i less = subst (λ (l : List ℕ). slice_index l i < count) (sym same) (index_below (clusters_of tables) count most i)

  pub edges_below : (of : List ℕ) → of ≡ map (edge_cluster clusters) tables.edges → AllBelow count of
  edges_below of is = subst (AllBelow count) (sym is) (mapped_below (edge_cluster clusters) count (λ edge. actors_index edge.writer) tables.edges)
    where
      actors_index : (k : ℕ) → slice_index clusters k < count
      actors_index k = subst (λ (l : List ℕ). slice_index l k < count) (sym same) (index_below (clusters_of tables) count most k)

  pub ports_below : (of : List ℕ) → of ≡ map (port_cluster clusters) tables.ports → AllBelow count of
  ports_below of is = subst (AllBelow count) (sym is) (mapped_below (port_cluster clusters) count (λ port. actors_index port.«module») tables.ports)
    where
      actors_index : (k : ℕ) → slice_index clusters k < count
      actors_index k = subst (λ (l : List ℕ). slice_index l k < count) (sym same) (index_below (clusters_of tables) count most k)

pub modules_below : (tables : FlatTablesOf) → IsWired tables → (count : ℕ) → count ≡ length tables.actors → (of : List ℕ) → of ≡ map (λ (port : PortRow). port.«module») tables.ports → AllBelow count of
modules_below tables wired count count_is of is =
    subst (AllBelow count) (sym is) (go tables.ports (recursion_from_All (λ (port : PortRow). port.«module» < length tables.modules) tables.ports wired.in_range.port_modules))
  where
    go : (rows : List PortRow) → AllByRecursion (λ (port : PortRow). port.«module» < length tables.modules) rows → AllBelow count (map (λ (port : PortRow). port.«module») rows)
    go [] all i less = absurd (omega (arith, less))
    go (p ∷ rows) all zero less = let few = modules_few tables wired in let low = all.0 in omega (arith, few, low, count_is)
    go (p ∷ rows) all (suc i) less = go rows all.1 i (omega (arith, less))
