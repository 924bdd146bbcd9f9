-- The actors of a cluster's edges and ports are among its own.
use Rattle.std.proofs.Common.{◌≡◌, ◌∙◌, ℕ, ◌<◌, List, Some, length, sym, ap, arith}
use Rattle.std.proofs.lemmas.List.Elements.{All-contains}
use Rattle.std.proofs.lemmas.Option.{same_Some}
use Rattle.std.specs.Prelude.{slice_get, slice_index, All}
use Rattle.tdf_cluster_net.proofs.Edges.{at_contains}
use Rattle.tdf_cluster_net.specs.Numbers.{AreNumbers, IsAmong}
use Rattle.tdf_cluster_net.specs.Own.{IsActorInCluster, IsEdgeInCluster, IsPortInCluster}
use Rattle.tdf_graph.specs.Clusters.{AreClusters, Joined}
use Rattle.tdf_graph.specs.Ranges.{IsEdge, IsGraphPort}
use Rattle.tdf_graph.specs.declared.actors.Edge.{Edge}
use Rattle.tdf_graph.specs.declared.actors.Port.{Port}

module _ (count : ℕ) (edges : List Edge) (clusters : List ℕ) (cluster : ℕ) (are : AreClusters count edges clusters) (fit : All (IsEdge count) edges)
    (numbers : List ℕ) (own : AreNumbers (length clusters) (IsActorInCluster clusters cluster) numbers) where
  there_by : (m : ℕ) → m < count → slice_index clusters m ≡ cluster → IsAmong numbers m
  there_by m less is = own.all m (let l = are.long in omega (arith, less, l)) is

  pub ends_there : (picked : List ℕ) → AreNumbers (length edges) (IsEdgeInCluster edges clusters cluster) picked → (i : ℕ) (e : Edge) → i < length picked → slice_get edges (slice_index picked i) ≡ Some e → IsAmong numbers e.writer × IsAmong numbers e.reader
  ends_there picked picks i e inside at = (there_by e.writer fits.writer in_cluster, there_by e.reader fits.reader (sym one ∙ in_cluster))
    where
      fits : IsEdge count e
      fits = All-contains (IsEdge count) edges e fit (at_contains edges (slice_index picked i) e at)

      in_cluster : slice_index clusters e.writer ≡ cluster
      in_cluster =
          let meant = picks.meant i inside in
          ap (λ (x : Edge). slice_index clusters x.writer) (same_Some e meant.0 (sym at ∙ meant.1)) ∙ meant.2

      one : slice_index clusters e.writer ≡ slice_index clusters e.reader
      one = are.joined e.writer e.reader fits.writer fits.reader (Joined.goes e (at_contains edges (slice_index picked i) e at) (Joined.stays e.reader))

  pub actors_there : (ports : List Port) (picked : List ℕ) → All (IsGraphPort count) ports → AreNumbers (length ports) (IsPortInCluster ports clusters cluster) picked → (i : ℕ) (p : Port) → i < length picked → slice_get ports (slice_index picked i) ≡ Some p → IsAmong numbers p.actor
  actors_there ports picked port_fit picks i p inside at = there_by p.actor fits.actor in_cluster
    where
      fits : IsGraphPort count p
      fits = All-contains (IsGraphPort count) ports p port_fit (at_contains ports (slice_index picked i) p at)

      in_cluster : slice_index clusters p.actor ≡ cluster
      in_cluster =
          let meant = picks.meant i inside in
          ap (λ (x : Port). slice_index clusters x.actor) (same_Some p meant.0 (sym at ∙ meant.1)) ∙ meant.2
