-- Rings at the start, by the numbers of the cluster's own edges.
use Rattle.std.proofs.Common.{◌≡◌, ◌∙◌, ◌+◌, ◌-◌, ◌<◌, ◌≤◌, ◌++◌, [], ◌∷◌, ◌⊎◌, ℕ, zero, suc, List, Some, length, length-append, refl, sym, ap, subst, inl, inr, arith}
use Rattle.std.proofs.lemmas.Bool.{cases_lt}
use Rattle.std.proofs.lemmas.List.{get_or-append_right, get_or_append_left, get_or_default}
use Rattle.std.proofs.lemmas.Option.{slice_get_read}
use Rattle.std.specs.Prelude.{Contains, slice_get, slice_index, slice_index_or}
use Rattle.tdf_bind_connections.specs.declared.edges.EdgeRow.{EdgeRow}
use Rattle.tdf_bind_tables.specs.FlatTables.{FlatTablesOf}
use Rattle.tdf_cluster_plans.specs.Groups.{AreTableGroups, TableGroupsOf}
use Rattle.tdf_dynamic_plans.specs.Attributes.{clusters_of}
use Rattle.tdf_exec_parts.specs.Rings.{AreOwnFirstRings}
use Rattle.tdf_graph.specs.Clusters.{greatest}
use Rattle.tdf_rings.specs.Carried.{ring_at}
use Rattle.tdf_rings.specs.Rings.{RingOf, ring_of}
use Rattle.tdf_exec_layout.proofs.Api.{some_same}
use Rattle.tdf_exec_layout.specs.Below.{initial_list}

-- ---- the numbers of a cluster

index_below : (clusters : List ℕ) (count : ℕ) → greatest clusters < count → (k : ℕ) → slice_index clusters k < count
index_below [] count most k = most
index_below (n ∷ clusters) count most zero = omega (arith, most)
index_below (n ∷ clusters) count most (suc k) = index_below clusters count (omega (arith, most)) k

-- a cluster of the model has its groups
pub in_groups : (tables : FlatTablesOf) (groups : TableGroupsOf) (cluster : ℕ) → Contains (clusters_of tables) cluster → (are : AreTableGroups tables groups) → cluster < are.count
in_groups tables groups cluster has are =
    subst (λ k. k < are.count) (sym (get_or_default (clusters_of tables) has.0 cluster 0 has.1) ∙ has.2) (index_below (clusters_of tables) are.count are.all has.0)

-- the row of an edge, as it is read
pub edge_there : (seen tables : FlatTablesOf) → seen ≡ tables → (e : ℕ) (edge : EdgeRow) → e < length tables.edges → edge ≡ slice_index_or seen.edges e edge → slice_get tables.edges e ≡ Some edge
edge_there seen tables same e edge below is =
    subst (λ (x : FlatTablesOf). slice_get x.edges e ≡ Some edge) same
    (slice_get_read seen.edges (length seen.edges) e edge refl (subst (λ (x : FlatTablesOf). e < length x.edges) (sym same) below) is)

-- ---- the rings

-- one ring more
pub own_next : (tables : FlatTablesOf) (bounds numbers : List ℕ) (n : ℕ) (rings : List RingOf) → AreOwnFirstRings tables bounds numbers n rings → (edge : EdgeRow)
    → slice_get tables.edges (slice_index numbers n) ≡ Some edge → (ring : RingOf) → ring ≡ ring_of (initial_list tables edge) (slice_index bounds (slice_index numbers n))
    → AreOwnFirstRings tables bounds numbers (n + 1) (rings ++ ring ∷ [])
own_next tables bounds numbers n rings are edge there ring ring_is = record {
  long = length-append rings (ring ∷ []) ∙ ap (λ k. k + 1) are.long;
  each = λ i row less at. go i row less at (cases_lt i n);
}
  where
    go : (i : ℕ) (row : EdgeRow) → i < n + 1 → slice_get tables.edges (slice_index numbers i) ≡ Some row → (i < n) ⊎ (n ≤ i)
        → ring_at (rings ++ ring ∷ []) i ≡ ring_of (initial_list tables row) (slice_index bounds (slice_index numbers i))
    go i row less at (inl below) =
        get_or_append_left rings (ring ∷ []) (ring_of [] 0) i (let l = are.long in omega (arith, below, l)) ∙ are.each i row below at
    go i row less at (inr past) =
        let same : n ≡ i = omega (arith, less, past) in
        let last : i - n ≡ 0 = omega (arith, same) in
        let one : edge ≡ row = some_same edge row (sym there ∙ ap (λ k. slice_get tables.edges (slice_index numbers k)) same ∙ at) in
        get_or-append_right rings (ring ∷ []) n i (ring_of [] 0) are.long past ∙ ap (λ k. slice_index_or (ring ∷ []) k (ring_of [] 0)) last ∙ ring_is
        ∙ ap (λ k. ring_of (initial_list tables edge) (slice_index bounds (slice_index numbers k))) same
        ∙ ap (λ (x : EdgeRow). ring_of (initial_list tables x) (slice_index bounds (slice_index numbers i))) one
