-- What is picked from the tables of a model by the numbers of a cluster makes the cluster's net.
use Rattle.std.proofs.Common.{◌≡◌, ◌∙◌, ℕ, zero, suc, ◌+◌, ◌<◌, List, [], ◌∷◌, ◌++◌, Some, length, map, refl, sym, ap, subst, arith}
use Rattle.std.proofs.Math.ListN.{get_or}
use Rattle.std.proofs.lemmas.List.{get_or_default, length-map}
use Rattle.std.proofs.lemmas.Option.{same_Some, slice_get-map, slice_get_read}
use Rattle.std.specs.Option.{option_map}
use Rattle.std.specs.Prelude.{All, Contains, slice_get, slice_index, slice_index_or}
use Rattle.tdf_bind_connections.specs.declared.edges.EdgeRow.{EdgeRow}
use Rattle.tdf_bind_connections.specs.declared.modules.PortRow.{PortRow}
use Rattle.tdf_bind_tables.specs.Actors.{cluster_of}
use Rattle.tdf_bind_tables.specs.FlatTables.{FlatTablesOf}
use Rattle.tdf_bind_tables.specs.declared.actors.ActorRow.{ActorRow}
use Rattle.tdf_cluster_net.proofs.Api.{edges_among, made_is_own, picked_one_more, ports_among}
use Rattle.tdf_cluster_net.specs.Made.{ArePickedOf, IsEdgeAmong, IsMadeOf, IsPortAmong, PartsOf}
use Rattle.tdf_cluster_net.specs.Numbers.{AllBelow, AreNumbers}
use Rattle.tdf_cluster_net.specs.Own.{IsActorInCluster, IsEdgeInCluster, IsPortInCluster, OwnOf}
use Rattle.tdf_cluster_plans.proofs.Clustering.{in_count}
use Rattle.tdf_cluster_plans.specs.Groups.{AreTableGroups, TableGroupsOf, edge_cluster, port_cluster}
use Rattle.tdf_cluster_plans.specs.Own.{IsNetOfCluster}
use Rattle.tdf_dynamic_plans.proofs.Api.{edges_are_fit, modules_few, ports_are_fit, rated_clusters}
use Rattle.tdf_dynamic_plans.specs.Attributes.{AttrsOf, clusters_of}
use Rattle.tdf_dynamic_plans.specs.Rates.{AreRates, IsWired, net_of, net_ports, rated_edge, rated_port}
use Rattle.tdf_graph.specs.Clusters.{AreClusters}
use Rattle.tdf_graph.specs.Ranges.{IsEdge, IsGraphPort}
use Rattle.tdf_graph.specs.declared.actors.Actor.{Actor}
use Rattle.tdf_graph.specs.declared.actors.Edge.{Edge}
use Rattle.tdf_graph.specs.declared.actors.Port.{Port}

-- what a row of a list becomes
pub mapped_at : {A B : Type 0} (f : A → B) (rows : List A) (k : ℕ) (row : A) → row ≡ slice_index_or rows k row → k < length rows → slice_get (map f rows) k ≡ Some (f row)
mapped_at f rows k row is less = slice_get-map f rows k ∙ ap (option_map f) (slice_get_read rows (length rows) k row refl less is)

-- one thing more is picked
pub picked_mapped : {A X : Type 0} (f : A → X) (rows : List A) (numbers : List ℕ) (n : ℕ) (own : List X) (row : A) (y : X) → y ≡ f row → row ≡ slice_index_or rows (slice_index numbers n) row
    → slice_index numbers n < length rows → ArePickedOf (map f rows) numbers n own → ArePickedOf (map f rows) numbers (n + 1) (own ++ y ∷ [])
picked_mapped f rows numbers n own row y same is less are =
    picked_one_more (map f rows) numbers n own y (mapped_at f rows (slice_index numbers n) row is less ∙ ap Some (sym same)) are

pub picked_index : {A X : Type 0} (f : A → X) (rows : List A) (numbers : List ℕ) (n : ℕ) (own : List X) (d : A) (y : X) → y ≡ f (get_or rows (slice_index numbers n) d)
    → slice_index numbers n < length rows → ArePickedOf (map f rows) numbers n own → ArePickedOf (map f rows) numbers (n + 1) (own ++ y ∷ [])
picked_index f rows numbers n own d y same less are =
    picked_mapped f rows numbers n own (get_or rows (slice_index numbers n) d) y same (sym (get_or_default rows (slice_index numbers n) (get_or rows (slice_index numbers n) d) d less)) less are

-- numbers of the same things
numbers_as : (count other : ℕ) (P Q : ℕ → Type 0) (numbers : List ℕ) → count ≡ other → ((m : ℕ) → m < count → P m → Q m) → ((m : ℕ) → m < count → Q m → P m) → AreNumbers count P numbers → AreNumbers other Q numbers
numbers_as count other P Q numbers same up down are = subst (λ n. AreNumbers n Q numbers) same (record {
  within = are.within;
  rising = are.rising;
  meant = λ i less. up (slice_index numbers i) (are.within i less) (are.meant i less);
  all = λ m less is. are.all m less (down m less is);
})

-- things that are in a cluster by a list of their clusters
module _ {A B : Type 0} (f : A → B) (g : A → ℕ) (h : B → ℕ) (same : (x : A) → h (f x) ≡ g x) (cluster : ℕ) where
  in_up : (rows : List A) (m : ℕ) → m < length rows → slice_index (map g rows) m ≡ cluster → (e : B) × (slice_get (map f rows) m ≡ Some e) × (h e ≡ cluster)
  in_up [] m less is = absurd (omega (arith, less))
  in_up (x ∷ rows) zero less is = (f x, refl, same x ∙ is)
  in_up (x ∷ rows) (suc m) less is = in_up rows m (omega (arith, less)) is

  in_down : (rows : List A) (m : ℕ) → m < length rows → (e : B) × (slice_get (map f rows) m ≡ Some e) × (h e ≡ cluster) → slice_index (map g rows) m ≡ cluster
  in_down [] m less is = absurd (omega (arith, less))
  in_down (x ∷ rows) zero less is = sym (same x) ∙ ap h (same_Some (f x) is.0 is.1) ∙ is.2
  in_down (x ∷ rows) (suc m) less is = in_down rows m (omega (arith, less)) is

  numbers_in : (rows : List A) (numbers : List ℕ) → AreNumbers (length (map g rows)) (λ m. slice_index (map g rows) m ≡ cluster) numbers
      → AreNumbers (length (map f rows)) (λ m. (e : B) × (slice_get (map f rows) m ≡ Some e) × (h e ≡ cluster)) numbers
  numbers_in rows numbers are = numbers_as (length (map g rows)) (length (map f rows)) (λ m. slice_index (map g rows) m ≡ cluster) (λ m. (e : B) × (slice_get (map f rows) m ≡ Some e) × (h e ≡ cluster)) numbers
      (length-map rows g ∙ sym (length-map rows f)) (λ m less. in_up rows m (let l = length-map rows g in omega (arith, less, l))) (λ m less. in_down rows m (let l = length-map rows g in omega (arith, less, l))) are

module _ (tables : FlatTablesOf) (cluster : ℕ) (table : List AttrsOf) (groups : TableGroupsOf) (wired : IsWired tables) (has : Contains (clusters_of tables) cluster) (rates : AreRates tables table) (are : AreTableGroups tables groups) where
  pub in_groups : cluster < are.count
  in_groups = in_count (clusters_of tables) cluster are.count has are.all

  abbrev actor_numbers : List ℕ
  actor_numbers = slice_index_or groups.actors cluster []

  abbrev edge_numbers : List ℕ
  edge_numbers = slice_index_or groups.edges cluster []

  abbrev port_numbers : List ℕ
  port_numbers = slice_index_or groups.ports cluster []

  abbrev kind_of : ActorRow → Actor
  kind_of row = row.kind

  abbrev edge_of : EdgeRow → Edge
  edge_of row = rated_edge tables.ports (net_ports tables table) row

  pub actors_in : AreNumbers (length (clusters_of tables)) (IsActorInCluster (clusters_of tables) cluster) actor_numbers
  actors_in = are.actors.each cluster in_groups

  pub edges_in : AreNumbers (length (map edge_of tables.edges)) (IsEdgeInCluster (map edge_of tables.edges) (clusters_of tables) cluster) edge_numbers
  edges_in = numbers_in edge_of (edge_cluster (clusters_of tables)) (λ (e : Edge). slice_index (clusters_of tables) e.writer) (λ x. refl) cluster tables.edges edge_numbers (are.edges.each cluster in_groups)

  pub ports_in : AreNumbers (length (map (rated_port table) tables.ports)) (IsPortInCluster (map (rated_port table) tables.ports) (clusters_of tables) cluster) port_numbers
  ports_in = numbers_in (rated_port table) (port_cluster (clusters_of tables)) (λ (p : Port). slice_index (clusters_of tables) p.actor) (λ x. refl) cluster tables.ports port_numbers (are.ports.each cluster in_groups)

  whole_clusters : AreClusters (length tables.actors) (map edge_of tables.edges) (clusters_of tables)
  whole_clusters = rated_clusters tables table wired

  edges_fit : All (IsEdge (length tables.actors)) (map edge_of tables.edges)
  edges_fit = edges_are_fit tables table wired.in_range wired.delays rates

  ports_fit : All (IsGraphPort (length tables.actors)) (map (rated_port table) tables.ports)
  unfolding net_ports
  ports_fit = ports_are_fit tables table (length tables.actors) wired.in_range (modules_few tables wired) rates

  -- where the numbers and rows are told by other lists
  pub actors_within : (numbers : List ℕ) → numbers ≡ actor_numbers → (rows : List ActorRow) → rows ≡ tables.actors → AllBelow (length rows) numbers
  actors_within numbers same rows rows_same = subst (λ (rs : List ActorRow). AllBelow (length rs) numbers) (sym rows_same)
      (subst (λ n. AllBelow n numbers) (length-map tables.actors cluster_of) (subst (AllBelow (length (clusters_of tables))) (sym same) actors_in.within))

  pub edges_within : (numbers : List ℕ) → numbers ≡ edge_numbers → AllBelow (length tables.edges) numbers
  edges_within numbers same = subst (λ n. AllBelow n numbers) (length-map tables.edges edge_of) (subst (AllBelow (length (map edge_of tables.edges))) (sym same) edges_in.within)

  pub ports_within : (numbers : List ℕ) → numbers ≡ port_numbers → (rows : List PortRow) → rows ≡ tables.ports → AllBelow (length rows) numbers
  ports_within numbers same rows rows_same = subst (λ (rs : List PortRow). AllBelow (length rs) numbers) (sym rows_same)
      (subst (λ n. AllBelow n numbers) (length-map tables.ports (rated_port table)) (subst (AllBelow (length (map (rated_port table) tables.ports))) (sym same) ports_in.within))

  pub edges_told : (numbers picked : List ℕ) → numbers ≡ actor_numbers → picked ≡ edge_numbers → (own told : List Edge) → told ≡ own → ArePickedOf (map edge_of tables.edges) picked (length picked) own
      → All (IsEdgeAmong numbers) told
  edges_told numbers picked same picked_same own told told_is are = subst (λ ns. All (IsEdgeAmong ns) told) (sym same) (subst (All (IsEdgeAmong actor_numbers)) (sym told_is)
      (edges_among (length tables.actors) (map edge_of tables.edges) (clusters_of tables) cluster whole_clusters edges_fit actor_numbers actors_in edge_numbers own edges_in
      (subst (λ ns. ArePickedOf (map edge_of tables.edges) ns (length ns) own) picked_same are)))

  pub ports_told : (numbers picked : List ℕ) → numbers ≡ actor_numbers → picked ≡ port_numbers → (rows : List PortRow) → rows ≡ tables.ports → (own told : List Port) → told ≡ own
      → ArePickedOf (map (rated_port table) rows) picked (length picked) own → All (IsPortAmong numbers) told
  ports_told numbers picked same picked_same rows rows_same own told told_is are = subst (λ ns. All (IsPortAmong ns) told) (sym same) (subst (All (IsPortAmong actor_numbers)) (sym told_is)
      (ports_among (length tables.actors) (map edge_of tables.edges) (clusters_of tables) cluster whole_clusters edges_fit actor_numbers actors_in (map (rated_port table) tables.ports) port_numbers own ports_fit ports_in
      (subst (λ (rs : List PortRow). ArePickedOf (map (rated_port table) rs) port_numbers (length port_numbers) own) rows_same
      (subst (λ ns. ArePickedOf (map (rated_port table) rows) ns (length ns) own) picked_same are))))

  is_net : (parts : PartsOf) (own : OwnOf) → parts.actor_numbers ≡ actor_numbers → parts.edge_numbers ≡ edge_numbers → parts.port_numbers ≡ port_numbers
      → ArePickedOf (map kind_of tables.actors) parts.actor_numbers (length parts.actor_numbers) parts.actors
      → ArePickedOf (map edge_of tables.edges) parts.edge_numbers (length parts.edge_numbers) parts.edges
      → ArePickedOf (map (rated_port table) tables.ports) parts.port_numbers (length parts.port_numbers) parts.ports
      → IsMadeOf parts own → IsNetOfCluster tables cluster table own
  unfolding net_of net_ports
  is_net parts own same_actors same_edges same_ports actors edges ports made = record {
    own_is = made_is_own (map kind_of tables.actors) (map edge_of tables.edges) (map (rated_port table) tables.ports) (clusters_of tables) cluster parts
        (subst (AreNumbers (length (map kind_of tables.actors)) (IsActorInCluster (clusters_of tables) cluster)) (sym same_actors)
        (subst (λ n. AreNumbers n (IsActorInCluster (clusters_of tables) cluster) actor_numbers) (length-map tables.actors cluster_of ∙ sym (length-map tables.actors kind_of)) actors_in))
        (subst (AreNumbers (length (map edge_of tables.edges)) (IsEdgeInCluster (map edge_of tables.edges) (clusters_of tables) cluster)) (sym same_edges) edges_in)
        (subst (AreNumbers (length (map (rated_port table) tables.ports)) (IsPortInCluster (map (rated_port table) tables.ports) (clusters_of tables) cluster)) (sym same_ports) ports_in)
        actors edges ports own made;
    clusters_are = subst (λ n. AreClusters n (map edge_of tables.edges) (clusters_of tables)) (sym (length-map tables.actors kind_of)) whole_clusters;
    has = has;
    edges_fit = subst (λ n. All (IsEdge n) (map edge_of tables.edges)) (sym (length-map tables.actors kind_of)) edges_fit;
    ports_fit = subst (λ n. All (IsGraphPort n) (map (rated_port table) tables.ports)) (sym (length-map tables.actors kind_of)) ports_fit;
  }

  pub net_told : (parts : PartsOf) (own : OwnOf) → parts.actor_numbers ≡ actor_numbers → parts.edge_numbers ≡ edge_numbers → parts.port_numbers ≡ port_numbers
      → (rows : List ActorRow) → rows ≡ tables.actors → (port_rows : List PortRow) → port_rows ≡ tables.ports
      → (actors : List Actor) → parts.actors ≡ actors → ArePickedOf (map kind_of rows) parts.actor_numbers (length parts.actor_numbers) actors
      → (edges : List Edge) → parts.edges ≡ edges → ArePickedOf (map edge_of tables.edges) parts.edge_numbers (length parts.edge_numbers) edges
      → (ports : List Port) → parts.ports ≡ ports → ArePickedOf (map (rated_port table) port_rows) parts.port_numbers (length parts.port_numbers) ports
      → IsMadeOf parts own → IsNetOfCluster tables cluster table own
  net_told parts own same_actors same_edges same_ports rows rows_same port_rows port_rows_same actors actors_same actors_are edges edges_same edges_are ports ports_same ports_are made =
      is_net parts own same_actors same_edges same_ports
      (subst (ArePickedOf (map kind_of tables.actors) parts.actor_numbers (length parts.actor_numbers)) (sym actors_same)
      (subst (λ (rs : List ActorRow). ArePickedOf (map kind_of rs) parts.actor_numbers (length parts.actor_numbers) actors) rows_same actors_are))
      (subst (ArePickedOf (map edge_of tables.edges) parts.edge_numbers (length parts.edge_numbers)) (sym edges_same) edges_are)
      (subst (ArePickedOf (map (rated_port table) tables.ports) parts.port_numbers (length parts.port_numbers)) (sym ports_same)
      (subst (λ (rs : List PortRow). ArePickedOf (map (rated_port table) rs) parts.port_numbers (length parts.port_numbers) ports) port_rows_same ports_are))
      made
