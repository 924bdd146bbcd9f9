-- The actors and the edges of each cluster, with those of clusters that there are not.
use Rattle.std.proofs.Common.{◌≡◌, ◌⊎◌, ℕ, zero, suc, ◌<◌, ◌≤◌, List, [], ◌∷◌, length, map, refl, sym, subst, inl, inr, arith}
use Rattle.std.proofs.lemmas.Bool.{cases_lt}
use Rattle.std.proofs.lemmas.List.{length-map}
use Rattle.std.specs.Prelude.{slice_index, slice_index_or}
use Rattle.tdf_bind_connections.specs.declared.edges.EdgeRow.{EdgeRow}
use Rattle.tdf_bind_tables.specs.Actors.{cluster_of}
use Rattle.tdf_bind_tables.specs.FlatTables.{FlatTablesOf}
use Rattle.tdf_cluster_net.specs.Grouped.{AreGroups}
use Rattle.tdf_cluster_net.specs.Numbers.{AllBelow, AreNumbers}
use Rattle.tdf_cluster_plans.proofs.Api.{index_below}
use Rattle.tdf_cluster_plans.specs.Groups.{AreTableGroups, TableGroupsOf, edge_cluster}
use Rattle.tdf_dynamic_texts.specs.views.Numbered.{AreActorNumbers, AreEdgeNumbers}

beyond : (groups : List (List ℕ)) (c : ℕ) → length groups ≤ c → slice_index_or groups c [] ≡ []
beyond [] c past = refl
beyond (x ∷ groups) zero past = absurd (omega (arith, past))
beyond (x ∷ groups) (suc c) past = beyond groups c (omega (arith, past))

-- groups have the numbers of each cluster, also of those that there are not
groups_each : (count : ℕ) (clusters : List ℕ) (groups : List (List ℕ)) → AllBelow count clusters → AreGroups count clusters groups → (c : ℕ)
    → AreNumbers (length clusters) (λ m. slice_index clusters m ≡ c) (slice_index_or groups c [])
groups_each count clusters groups below are c = go (cases_lt c count)
  where
    no_numbers : count ≤ c → AreNumbers (length clusters) (λ m. slice_index clusters m ≡ c) []
    no_numbers past = record {
      within = λ i less. absurd (omega (arith, less));
      rising = λ i j before less. absurd (omega (arith, less));
      meant = λ i less. absurd (omega (arith, less));
      all = λ m less is. absurd (let b = below m less in omega (arith, b, is, past));
    }

    go : (c < count) ⊎ (count ≤ c) → AreNumbers (length clusters) (λ m. slice_index clusters m ≡ c) (slice_index_or groups c [])
    go (inl less) = are.each c less
    go (inr past) = subst (AreNumbers (length clusters) (λ m. slice_index clusters m ≡ c)) (sym (beyond groups c (let l = are.long in omega (arith, past, l)))) (no_numbers past)

edges_below : (clusters : List ℕ) (count : ℕ) → ((k : ℕ) → slice_index clusters k < count) → (edges : List EdgeRow) → AllBelow count (map (edge_cluster clusters) edges)
edges_below clusters count below [] i less = absurd (omega (arith, less))
edges_below clusters count below (edge ∷ edges) zero less = below edge.writer
edges_below clusters count below (edge ∷ edges) (suc i) less = edges_below clusters count below edges i (omega (arith, less))

module _ (tables : FlatTablesOf) (groups : TableGroupsOf) (are : AreTableGroups tables groups) (cluster : ℕ) where
  -- the numbers of the actors of a cluster, and those of its edges
  pub actors_given : (numbers : List ℕ) → numbers ≡ slice_index_or groups.actors cluster [] → AreActorNumbers tables cluster numbers
  actors_given numbers is = subst (AreActorNumbers tables cluster) (sym is)
      (subst (λ n. AreNumbers n (λ m. slice_index (map cluster_of tables.actors) m ≡ cluster) (slice_index_or groups.actors cluster [])) (length-map tables.actors cluster_of)
      (groups_each are.count (map cluster_of tables.actors) groups.actors (λ i less. index_below (map cluster_of tables.actors) are.count are.all i) are.actors cluster))

  pub edges_given : (numbers : List ℕ) → numbers ≡ slice_index_or groups.edges cluster [] → AreEdgeNumbers tables cluster numbers
  edges_given numbers is = subst (AreEdgeNumbers tables cluster) (sym is)
      (subst (λ n. AreNumbers n (λ m. slice_index (map (edge_cluster (map cluster_of tables.actors)) tables.edges) m ≡ cluster) (slice_index_or groups.edges cluster []))
      (length-map tables.edges (edge_cluster (map cluster_of tables.actors)))
      (groups_each are.count (map (edge_cluster (map cluster_of tables.actors)) tables.edges) groups.edges
      (edges_below (map cluster_of tables.actors) are.count (index_below (map cluster_of tables.actors) are.count are.all) tables.edges) are.edges cluster))
