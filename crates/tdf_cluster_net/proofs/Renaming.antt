-- A net that is made of a cluster's own actors, edges and ports is the cluster's.
use Rattle.std.proofs.Common.{◌≡◌, ◌∙◌, ℕ, ◌+◌, ◌<◌, ◌≤◌, ◌⊎◌, inl, inr, List, [], ◌∷◌, ◌++◌, Some, length, refl, sym, ap, subst, arith}
use Rattle.std.proofs.Math.ListN.{get_or}
use Rattle.std.proofs.lemmas.Bool.{cases_lt}
use Rattle.std.proofs.lemmas.List.{length_push}
use Rattle.std.proofs.lemmas.List.Elements.{All-contains, All-from_get_or}
use Rattle.std.proofs.lemmas.Option.{slice_get-get_or, slice_get_within}
use Rattle.std.specs.Prelude.{All, slice_get, slice_index}
use Rattle.tdf_cluster_net.proofs.Edges.{at_contains}
use Rattle.tdf_cluster_net.proofs.Making.{actors_there, ends_there}
use Rattle.tdf_cluster_net.proofs.Picking.{at_end, in_front, pushed}
use Rattle.tdf_cluster_net.specs.Made.{ArePickedOf, AreRenamedEdges, AreRenamedPorts, IsEdgeAmong, IsMadeOf, IsPortAmong, PartsOf}
use Rattle.tdf_cluster_net.specs.Numbers.{AreNumbers}
use Rattle.tdf_cluster_net.specs.Own.{IsActorInCluster, IsEdgeInCluster, IsOwnNet, IsPortInCluster, OwnOf, whole_edge, whole_port}
use Rattle.tdf_graph.specs.Clusters.{AreClusters}
use Rattle.tdf_graph.specs.Ranges.{IsEdge, IsGraphPort}
use Rattle.tdf_graph.specs.declared.actors.Actor.{Actor}
use Rattle.tdf_graph.specs.declared.actors.Edge.{Edge}
use Rattle.tdf_graph.specs.declared.actors.Port.{Port}

abbrev no_edge : Edge
no_edge = record { writer = 0; reader = 0; write_rate = 0; read_rate = 0; initial = 0 }

abbrev no_port : Port
no_port = record { actor = 0; rate = 0 }

-- one thing more
pub picked_none : {X : Type 0} (all : List X) (numbers : List ℕ) → ArePickedOf all numbers 0 []
picked_none all numbers = record { long = refl; each = λ i less. absurd (omega (arith, less)) }

pub picked_one_more : {X : Type 0} (all : List X) (numbers : List ℕ) (n : ℕ) (own : List X) (y : X) → slice_get all (slice_index numbers n) ≡ Some y → ArePickedOf all numbers n own → ArePickedOf all numbers (n + 1) (own ++ y ∷ [])
picked_one_more {X} all numbers n own y is are = record {
  long = length_push own y ∙ ap (λ k. k + 1) are.long;
  each = λ i less. go i less (cases_lt i n);
}
  where
    go : (i : ℕ) → i < n + 1 → (i < n) ⊎ (n ≤ i) → slice_get (own ++ y ∷ []) i ≡ slice_get all (slice_index numbers i)
    go i less (inl before) = in_front own y i (let l = are.long in omega (arith, before, l)) ∙ are.each i before
    go i less (inr past) =
        let here : length own ≡ i = (let l = are.long in omega (arith, less, past, l)) in
        ap (slice_get (own ++ y ∷ [])) (sym here) ∙ at_end own y ∙ sym is ∙ ap (λ k. slice_get all (slice_index numbers k)) (sym are.long ∙ here)

pub renamed_edge_more : (numbers : List ℕ) (edges : List Edge) (n : ℕ) (own : List Edge) (y : Edge) → slice_get edges n ≡ Some (whole_edge numbers y) → y.writer < length numbers → y.reader < length numbers
    → AreRenamedEdges numbers edges n own → AreRenamedEdges numbers edges (n + 1) (own ++ y ∷ [])
renamed_edge_more numbers edges n own y is writer reader are = record {
  long = length_push own y ∙ ap (λ k. k + 1) are.long;
  each = pushed (λ k e. slice_get edges k ≡ Some (whole_edge numbers e)) own y are.each (subst (λ k. slice_get edges k ≡ Some (whole_edge numbers y)) (sym are.long) is);
  writers = pushed (λ k e. e.writer < length numbers) own y are.writers writer;
  readers = pushed (λ k e. e.reader < length numbers) own y are.readers reader;
}

pub renamed_port_more : (numbers : List ℕ) (ports : List Port) (n : ℕ) (own : List Port) (y : Port) → slice_get ports n ≡ Some (whole_port numbers y) → y.actor < length numbers
    → AreRenamedPorts numbers ports n own → AreRenamedPorts numbers ports (n + 1) (own ++ y ∷ [])
renamed_port_more numbers ports n own y is actor are = record {
  long = length_push own y ∙ ap (λ k. k + 1) are.long;
  each = pushed (λ k p. slice_get ports k ≡ Some (whole_port numbers p)) own y are.each (subst (λ k. slice_get ports k ≡ Some (whole_port numbers y)) (sym are.long) is);
  actors = pushed (λ k p. p.actor < length numbers) own y are.actors actor;
}

-- they are in range
pub renamed_edges_fit : (numbers : List ℕ) (edges : List Edge) (n : ℕ) (own : List Edge) → All (IsEdgeAmong numbers) edges → AreRenamedEdges numbers edges n own → All (IsEdge (length numbers)) own
renamed_edges_fit numbers edges n own among are = All-from_get_or (IsEdge (length numbers)) own no_edge (λ i less. fits i (get_or own i no_edge) (slice_get-get_or own i no_edge less))
  where
    fits : (i : ℕ) (e : Edge) → slice_get own i ≡ Some e → IsEdge (length numbers) e
    fits i e at =
        let whole : IsEdgeAmong numbers (whole_edge numbers e) = All-contains (IsEdgeAmong numbers) edges (whole_edge numbers e) among (at_contains edges i (whole_edge numbers e) (are.each i e at)) in
        record { writer = are.writers i e at; reader = are.readers i e at; writes = whole.writes; reads = whole.reads; starts = whole.starts }

pub renamed_ports_fit : (numbers : List ℕ) (ports : List Port) (n : ℕ) (own : List Port) → All (IsPortAmong numbers) ports → AreRenamedPorts numbers ports n own → All (IsGraphPort (length numbers)) own
renamed_ports_fit numbers ports n own among are = All-from_get_or (IsGraphPort (length numbers)) own no_port (λ i less. fits i (get_or own i no_port) (slice_get-get_or own i no_port less))
  where
    fits : (i : ℕ) (p : Port) → slice_get own i ≡ Some p → IsGraphPort (length numbers) p
    fits i p at =
        let whole : IsPortAmong numbers (whole_port numbers p) = All-contains (IsPortAmong numbers) ports (whole_port numbers p) among (at_contains ports i (whole_port numbers p) (are.each i p at)) in
        record { actor = are.actors i p at; rate = whole.rate }

-- what is picked from a net
module _ (actors : List Actor) (edges : List Edge) (ports : List Port) (clusters : List ℕ) (cluster : ℕ) (parts : PartsOf)
    (actor_numbers : AreNumbers (length actors) (IsActorInCluster clusters cluster) parts.actor_numbers)
    (edge_numbers : AreNumbers (length edges) (IsEdgeInCluster edges clusters cluster) parts.edge_numbers)
    (port_numbers : AreNumbers (length ports) (IsPortInCluster ports clusters cluster) parts.port_numbers)
    (actors_are : ArePickedOf actors parts.actor_numbers (length parts.actor_numbers) parts.actors)
    (edges_are : ArePickedOf edges parts.edge_numbers (length parts.edge_numbers) parts.edges)
    (ports_are : ArePickedOf ports parts.port_numbers (length parts.port_numbers) parts.ports) where
  pub made_is_own : (own : OwnOf) → IsMadeOf parts own → IsOwnNet actors edges ports clusters cluster own
  made_is_own own made = record {
    actor_numbers = subst (AreNumbers (length actors) (IsActorInCluster clusters cluster)) (sym made.actor_numbers) actor_numbers;
    edge_numbers = subst (AreNumbers (length edges) (IsEdgeInCluster edges clusters cluster)) (sym made.edge_numbers) edge_numbers;
    port_numbers = subst (AreNumbers (length ports) (IsPortInCluster ports clusters cluster)) (sym made.port_numbers) port_numbers;
    actors_long = ap (λ (l : List Actor). length l) made.actors ∙ actors_are.long ∙ sym (ap (λ (l : List ℕ). length l) made.actor_numbers);
    edges_long = made.edges.long ∙ edges_are.long ∙ sym (ap (λ (l : List ℕ). length l) made.edge_numbers);
    ports_long = made.ports.long ∙ ports_are.long ∙ sym (ap (λ (l : List ℕ). length l) made.port_numbers);
    actors_are = λ i less. ap (λ (l : List Actor). slice_get l i) made.actors
        ∙ actors_are.each i (let l = ap (λ (l : List ℕ). length l) made.actor_numbers in omega (arith, less, l))
        ∙ sym (ap (λ (l : List ℕ). slice_get actors (slice_index l i)) made.actor_numbers);
    edges_are = λ k e at. edge_at k e at;
    ports_are = λ n p at. port_at n p at;
    writers = λ k e at. subst (λ (l : List ℕ). e.writer < length l) (sym made.actor_numbers) (made.edges.writers k e at);
    readers = λ k e at. subst (λ (l : List ℕ). e.reader < length l) (sym made.actor_numbers) (made.edges.readers k e at);
    port_actors = λ n p at. subst (λ (l : List ℕ). p.actor < length l) (sym made.actor_numbers) (made.ports.actors n p at);
  }
    where
      edge_at : (k : ℕ) (e : Edge) → slice_get own.edges k ≡ Some e → slice_get edges (slice_index own.edge_numbers k) ≡ Some (whole_edge own.actor_numbers e)
      edge_at k e at =
          let inside = slice_get_within own.edges k e at in
          let long = made.edges.long in
          let picks = edges_are.long in
          ap (λ (l : List ℕ). slice_get edges (slice_index l k)) made.edge_numbers
          ∙ sym (edges_are.each k (omega (arith, inside, long, picks)))
          ∙ made.edges.each k e at
          ∙ sym (ap (λ (l : List ℕ). Some (whole_edge l e)) made.actor_numbers)

      port_at : (n : ℕ) (p : Port) → slice_get own.ports n ≡ Some p → slice_get ports (slice_index own.port_numbers n) ≡ Some (whole_port own.actor_numbers p)
      port_at n p at =
          let inside = slice_get_within own.ports n p at in
          let long = made.ports.long in
          let picks = ports_are.long in
          ap (λ (l : List ℕ). slice_get ports (slice_index l n)) made.port_numbers
          ∙ sym (ports_are.each n (omega (arith, inside, long, picks)))
          ∙ made.ports.each n p at
          ∙ sym (ap (λ (l : List ℕ). Some (whole_port l p)) made.actor_numbers)

-- the actors of what is picked are the cluster's own
module _ (count : ℕ) (edges : List Edge) (clusters : List ℕ) (cluster : ℕ) (are : AreClusters count edges clusters) (fit : All (IsEdge count) edges)
    (numbers : List ℕ) (own : AreNumbers (length clusters) (IsActorInCluster clusters cluster) numbers) where
  pub edges_among : (picked : List ℕ) (parts : List Edge) → AreNumbers (length edges) (IsEdgeInCluster edges clusters cluster) picked → ArePickedOf edges picked (length picked) parts → All (IsEdgeAmong numbers) parts
  edges_among picked parts picks picked_are = All-from_get_or (IsEdgeAmong numbers) parts no_edge (λ i less. among i less (get_or parts i no_edge) (slice_get-get_or parts i no_edge less))
    where
      among : (i : ℕ) → i < length parts → (e : Edge) → slice_get parts i ≡ Some e → IsEdgeAmong numbers e
      among i less e at =
          let long = picked_are.long in
          let inside : i < length picked = omega (arith, less, long) in
          let there : slice_get edges (slice_index picked i) ≡ Some e = sym (picked_are.each i inside) ∙ at in
          let ends = ends_there count edges clusters cluster are fit numbers own picked picks i e inside there in
          let fits : IsEdge count e = All-contains (IsEdge count) edges e fit (at_contains edges (slice_index picked i) e there) in
          record { writer = ends.0; reader = ends.1; writes = fits.writes; reads = fits.reads; starts = fits.starts }

  pub ports_among : (ports : List Port) (picked : List ℕ) (parts : List Port) → All (IsGraphPort count) ports → AreNumbers (length ports) (IsPortInCluster ports clusters cluster) picked
      → ArePickedOf ports picked (length picked) parts → All (IsPortAmong numbers) parts
  ports_among ports picked parts port_fit picks picked_are = All-from_get_or (IsPortAmong numbers) parts no_port (λ i less. among i less (get_or parts i no_port) (slice_get-get_or parts i no_port less))
    where
      among : (i : ℕ) → i < length parts → (p : Port) → slice_get parts i ≡ Some p → IsPortAmong numbers p
      among i less p at =
          let long = picked_are.long in
          let inside : i < length picked = omega (arith, less, long) in
          let there : slice_get ports (slice_index picked i) ≡ Some p = sym (picked_are.each i inside) ∙ at in
          let fits : IsGraphPort count p = All-contains (IsGraphPort count) ports p port_fit (at_contains ports (slice_index picked i) p there) in
          record { actor = actors_there count edges clusters cluster are fit numbers own ports picked port_fit picks i p inside there; rate = fits.rate }
