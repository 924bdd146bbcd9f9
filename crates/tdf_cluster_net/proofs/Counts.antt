-- Counts of a cluster's own net, and why there are none: those of the cluster in the whole net.
use Rattle.std.proofs.Common.{◌≡◌, ◌≢◌, ◌∙◌, ℕ, zero, suc, ◌+◌, ◌*◌, ◌<◌, ◌≤◌, ◌⊎◌, inl, inr, Bool, true, cond, nat_eq, List, [], ◌∷◌, ◌++◌, Some, length, take, drop, refl, sym, ap, subst, arith}
use Rattle.std.proofs.Math.ListN.{get_or}
use Rattle.std.proofs.lemmas.Bool.{cases_eq, cases_lt, eq-eqb, eqb-true}
use Rattle.std.proofs.lemmas.List.{get_or-replicate, get_or-take, length-replicate, length-take, take-append-drop}
use Rattle.std.proofs.lemmas.List.Elements.{All-contains, All-contains_itself, All-filter, Contains-append_left, Contains-push, filter-append, filter_more, filter_passes}
use Rattle.std.proofs.lemmas.Option.{get_or_from_slice_get, slice_get-get_or, slice_get_within}
use Rattle.std.specs.Int.{◌∣◌}
use Rattle.std.specs.List.{filter}
use Rattle.std.specs.Prelude.{All, Contains, slice_get, slice_index, sum}
use Rattle.tdf_balance.specs.Balance.{cluster_edges, edges_to, IsBad, IsFirstBad, IsNoneBad, at_edge, in_all}
use Rattle.tdf_base.specs.Limits.{most_firings}
use Rattle.tdf_cluster_net.proofs.Edges.{HasOwnEdge, at_contains, contains_at, edge_down, number_less, number_once, one_cluster}
use Rattle.tdf_cluster_net.proofs.Joined.{AreOwnEdges, AreWithin, IsOfOwn, bad_down, bad_up, joined_down, large_up, none_bad, unsolvable_up}
use Rattle.tdf_cluster_net.proofs.Spread.{AreBelow, IsOnce, are_spread, below_after, some_below, spread, spread_sum}
use Rattle.tdf_cluster_net.specs.Laws.{IsClusterNet, OwnCountsAreWhole, OwnRatesFaultsAreWhole, OwnSizeFaultsAreWhole, own_clusters}
use Rattle.tdf_cluster_net.specs.Numbers.{AreSpread}
use Rattle.tdf_cluster_net.specs.Own.{IsActorInCluster, IsEdgeInCluster, OwnOf, whole_edge, whole_port}
use Rattle.tdf_graph.proofs.Api.{place_in}
use Rattle.tdf_graph.specs.Clusters.{AreClusters, Joined, greatest}
use Rattle.tdf_graph.specs.Counts.{AreCounts, IsBalanced}
use Rattle.tdf_graph.specs.Ranges.{IsEdge, IsGraphPort}
use Rattle.tdf_graph.specs.declared.actors.Actor.{Actor}
use Rattle.tdf_graph.specs.declared.actors.Edge.{Edge}
use Rattle.tdf_graph.specs.declared.actors.Port.{Port}

-- what passes a test
filter_has : {A : Type 0} (p : A → Bool) (xs : List A) (y : A) → Contains xs y → p y ≡ true → Contains (filter p xs) y
filter_has {A} p xs y found passes =
    subst (λ l. Contains l y) (sym (filter-append p (take (n + 1) xs) (drop (n + 1) xs)) ∙ ap (filter p) (take-append-drop (n + 1) xs))
    (Contains-append_left (filter p (take (n + 1) xs)) (filter p (drop (n + 1) xs)) y
    (subst (λ l. Contains l y) (sym here) (Contains-push (filter p (take n xs)) y)))
  where
    n : ℕ
    n = found.0

    here : filter p (take (n + 1) xs) ≡ filter p (take n xs) ++ y ∷ []
    here = filter_more p xs n y found.1
        ∙ ap (λ b. filter p (take n xs) ++ cond b (get_or xs n y ∷ []) []) (ap p found.2 ∙ passes)
        ∙ ap (λ x. filter p (take n xs) ++ x ∷ []) found.2

-- an edge of a cluster before a place
pub record StandsBelow (clusters : List ℕ) (cluster : ℕ) (edges : List Edge) (k : ℕ) (e : Edge) : Type 0 where
  pub place : ℕ
  pub low : place < k
  pub is : slice_get edges place ≡ Some e
  pub inside : slice_index clusters e.writer ≡ cluster

below_from : (clusters : List ℕ) (cluster : ℕ) (edges : List Edge) (k : ℕ) (e : Edge) → Contains (cluster_edges clusters cluster (take k edges)) e → StandsBelow clusters cluster edges k e
below_from clusters cluster edges k e found = record {
  place = n;
  low = low;
  is = slice_get-get_or edges n e in_edges ∙ ap Some (sym (get_or-take k edges n e low) ∙ taken.2);
  inside = eqb-true (slice_index clusters e.writer) cluster
      (All-contains (λ (x : Edge). nat_eq (slice_index clusters x.writer) cluster ≡ true) (cluster_edges clusters cluster (take k edges)) e
      (filter_passes (λ (x : Edge). nat_eq (slice_index clusters x.writer) cluster) (take k edges)) found);
}
  where
    taken : Contains (take k edges) e
    taken = All-contains (Contains (take k edges)) (cluster_edges clusters cluster (take k edges)) e
        (All-filter (λ (x : Edge). nat_eq (slice_index clusters x.writer) cluster) (Contains (take k edges)) (take k edges) (All-contains_itself (take k edges))) found

    n : ℕ
    n = taken.0

    low : n < k
    low = let t = taken.1 in let l = length-take k edges in omega (arith, t, l)

    in_edges : n < length edges
    in_edges = let t = taken.1 in let l = length-take k edges in omega (arith, t, l)

below_has : (clusters : List ℕ) (cluster : ℕ) (edges : List Edge) (k : ℕ) (e : Edge) → StandsBelow clusters cluster edges k e → Contains (cluster_edges clusters cluster (take k edges)) e
below_has clusters cluster edges k e at = filter_has (λ (x : Edge). nat_eq (slice_index clusters x.writer) cluster) (take k edges) e
    (at.place, inside, get_or-take k edges at.place e at.low ∙ get_or_from_slice_get edges at.place e e at.is) (eq-eqb _ _ at.inside)
  where
    inside : at.place < length (take k edges)
    inside = let w = slice_get_within edges at.place e at.is in let l = length-take k edges in let low = at.low in omega (arith, w, l, low)

module _ {actors : List Actor} {edges : List Edge} {ports : List Port} {clusters : List ℕ} {cluster : ℕ} {own : OwnOf}
    (net : IsClusterNet actors edges ports clusters cluster own) where
  pub actors_once : IsOnce own.actor_numbers
  actors_once = number_once own.actor_numbers (length actors) (IsActorInCluster clusters cluster) net.own_is.actor_numbers

  pub in_own : (i : ℕ) → i < length own.actor_numbers → slice_index (own_clusters own) i ≡ 1
  in_own i i_in = get_or-replicate (length own.actor_numbers) i 1 0 i_in

  -- numbers of the own edges and ports
  pub own_edges_fit : All (IsEdge (length own.actor_numbers)) own.edges
  own_edges_fit k d less = record {
    writer = net.own_is.writers k (get_or own.edges k d) is;
    reader = net.own_is.readers k (get_or own.edges k d) is;
    writes = fits.writes;
    reads = fits.reads;
    starts = fits.starts;
  }
    where
      is : slice_get own.edges k ≡ Some (get_or own.edges k d)
      is = slice_get-get_or own.edges k d less

      fits : IsEdge (length actors) (whole_edge own.actor_numbers (get_or own.edges k d))
      fits = All-contains (IsEdge (length actors)) edges (whole_edge own.actor_numbers (get_or own.edges k d)) net.edges_fit
          (at_contains edges (slice_index own.edge_numbers k) (whole_edge own.actor_numbers (get_or own.edges k d))
          (net.own_is.edges_are k (get_or own.edges k d) is))

  pub own_ports_fit : All (IsGraphPort (length own.actor_numbers)) own.ports
  own_ports_fit k d less = record {
    actor = net.own_is.port_actors k (get_or own.ports k d) is;
    rate = fits.rate;
  }
    where
      is : slice_get own.ports k ≡ Some (get_or own.ports k d)
      is = slice_get-get_or own.ports k d less

      fits : IsGraphPort (length actors) (whole_port own.actor_numbers (get_or own.ports k d))
      fits = All-contains (IsGraphPort (length actors)) ports (whole_port own.actor_numbers (get_or own.ports k d)) net.ports_fit
          (at_contains ports (slice_index own.port_numbers k) (whole_port own.actor_numbers (get_or own.ports k d))
          (net.own_is.ports_are k (get_or own.ports k d) is))

  -- all own actors are in one cluster
  pub own_within : AreWithin own.actor_numbers own.edges
  own_within = record {
    writers = λ e there. (let at = contains_at own.edges e there in net.own_is.writers at.0 e at.1);
    readers = λ e there. (let at = contains_at own.edges e there in net.own_is.readers at.0 e at.1);
  }

  down_at : (e : Edge) (k : ℕ) → slice_get edges k ≡ Some e → slice_index clusters e.writer ≡ cluster → IsOfOwn own.actor_numbers own.edges e
  down_at e k is inside = record { edge = of.edge; there = at_contains own.edges of.place of.edge of.is; same = of.same }
    where
      of : HasOwnEdge own k e
      of = edge_down net k e is inside

  down_from : (e : Edge) → Contains edges e → (i : ℕ) → i < length own.actor_numbers
      → (slice_index own.actor_numbers i ≡ e.writer) ⊎ (slice_index own.actor_numbers i ≡ e.reader) → IsOfOwn own.actor_numbers own.edges e
  down_from e there i i_in (inl is) =
      let at = contains_at edges e there in
      down_at e at.0 at.1 (ap (slice_index clusters) (sym is) ∙ net.own_is.actor_numbers.meant i i_in)
  down_from e there i i_in (inr is) =
      let at = contains_at edges e there in
      down_at e at.0 at.1 (one_cluster net e there ∙ ap (slice_index clusters) (sym is) ∙ net.own_is.actor_numbers.meant i i_in)

  own_joined : (a b : ℕ) → a < length own.actor_numbers → b < length own.actor_numbers → Joined own.edges a b
  own_joined a b a_in b_in = subst (Joined own.edges a) (actors_once found.0 b found.1 b_in found.2) found.3
    where
      chain : Joined edges (slice_index own.actor_numbers a) (slice_index own.actor_numbers b)
      chain = net.clusters_are.together (slice_index own.actor_numbers a) (slice_index own.actor_numbers b)
          (net.own_is.actor_numbers.within a a_in) (net.own_is.actor_numbers.within b b_in)
          (net.own_is.actor_numbers.meant a a_in ∙ sym (net.own_is.actor_numbers.meant b b_in))

      found : (c : ℕ) × (c < length own.actor_numbers) × (slice_index own.actor_numbers c ≡ slice_index own.actor_numbers b) × Joined own.edges a c
      found = joined_down own.actor_numbers own.edges edges actors_once own_within down_from chain a a_in refl

  pub own_clusters_are : AreClusters (length own.actor_numbers) own.edges (own_clusters own)
  own_clusters_are = record {
    long = length-replicate (length own.actor_numbers) 1;
    together = λ a b a_in b_in same. own_joined a b a_in b_in;
    joined = λ a b a_in b_in chain. in_own a a_in ∙ sym (in_own b b_in);
    first = λ a a_in none. first a a_in none (cases_eq a 0);
  }
    where
      first : (a : ℕ) → a < length own.actor_numbers → ((b : ℕ) → b < a → Joined own.edges b a → ⊥) → (a ≡ 0) ⊎ (a ≡ 0 → ⊥)
          → slice_index (own_clusters own) a ≡ greatest (take a (own_clusters own)) + 1
      first a a_in none (inl is) = in_own a a_in ∙ sym (ap (λ m. greatest (take m (own_clusters own)) + 1) is)
      first a a_in none (inr some) = absurd (none 0 (omega (arith, some)) (own_joined 0 a (omega (arith, a_in)) a_in))

  pub own_has : Contains (own_clusters own) 1
  own_has = (0, subst (λ n. 0 < n) (sym (length-replicate (length own.actor_numbers) 1)) some, get_or-replicate (length own.actor_numbers) 0 1 1 some)
    where
      place : (i : ℕ) × (i < length clusters) × (slice_index clusters i ≡ cluster)
      place = place_in clusters cluster net.has

      number : (i : ℕ) × (i < length own.actor_numbers) × (slice_index own.actor_numbers i ≡ place.0)
      number = net.own_is.actor_numbers.all place.0 (subst (λ n. place.0 < n) net.clusters_are.long place.1) place.2

      some : 0 < length own.actor_numbers
      some = let less = number.1 in omega (arith, less)

  -- the cluster's edges before a place are made of the own edges before another
  edges_up : (j k : ℕ) → AreBelow own.edge_numbers j k → (e : Edge) → StandsBelow (own_clusters own) 1 own.edges j e
      → StandsBelow clusters cluster edges k (whole_edge own.actor_numbers e)
  edges_up j k below e at = record {
    place = slice_index own.edge_numbers at.place;
    low = below.low at.place at.low;
    is = net.own_is.edges_are at.place e at.is;
    inside = net.own_is.actor_numbers.meant e.writer (net.own_is.writers at.place e at.is);
  }

  edges_down : (j k : ℕ) → AreBelow own.edge_numbers j k → (e : Edge) → StandsBelow clusters cluster edges k e
      → IsOfOwn own.actor_numbers (cluster_edges (own_clusters own) 1 (take j own.edges)) e
  edges_down j k below e at = record {
    edge = of.edge;
    there = below_has (own_clusters own) 1 own.edges j of.edge (record {
      place = of.place;
      low = low (cases_lt of.place j);
      is = of.is;
      inside = in_own of.edge.writer (net.own_is.writers of.place of.edge of.is);
    });
    same = of.same;
  }
    where
      of : HasOwnEdge own at.place e
      of = edge_down net at.place e at.is at.inside

      place_in_own : of.place < length own.edge_numbers
      place_in_own = subst (λ n. of.place < n) net.own_is.edges_long (slice_get_within own.edges of.place of.edge of.is)

      low : (of.place < j) ⊎ (j ≤ of.place) → of.place < j
      low (inl less) = less
      low (inr past) = absurd (
          let h = below.high of.place past place_in_own in
          let n = of.number in let l = at.low in omega (arith, h, n, l))

  are_own_edges : (j k : ℕ) → AreBelow own.edge_numbers j k
      → AreOwnEdges own.actor_numbers (cluster_edges (own_clusters own) 1 (take j own.edges)) (cluster_edges clusters cluster (take k edges))
  are_own_edges j k below = record {
    once = actors_once;
    within = record {
      writers = λ e there. (let at = below_from (own_clusters own) 1 own.edges j e there in net.own_is.writers at.place e at.is);
      readers = λ e there. (let at = below_from (own_clusters own) 1 own.edges j e there in net.own_is.readers at.place e at.is);
    };
    up = λ e there. below_has clusters cluster edges k (whole_edge own.actor_numbers e) (edges_up j k below e (below_from (own_clusters own) 1 own.edges j e there));
    down = λ e there. edges_down j k below e (below_from clusters cluster edges k e there);
  }

  to_edge : (j : ℕ) → j < length own.edge_numbers
      → AreOwnEdges own.actor_numbers (edges_to (own_clusters own) 1 own.edges j) (edges_to clusters cluster edges (slice_index own.edge_numbers j))
  to_edge j j_in = are_own_edges (j + 1) (slice_index own.edge_numbers j + 1)
      (below_after own.edge_numbers (length edges) (IsEdgeInCluster edges clusters cluster) net.own_is.edge_numbers j j_in)

  -- what is bad in the whole net is bad in the own one, as early
  abbrev BadBy : ℕ → Type 0
  BadBy k = (j : ℕ) × (j < length own.edge_numbers) × (slice_index own.edge_numbers j ≤ k) × IsBad (edges_to (own_clusters own) 1 own.edges j)

  bad_by : (k : ℕ) → IsBad (edges_to clusters cluster edges k) → BadBy k
  bad_by k bad = go found.0 found.1 (bad_down own.actor_numbers _ _ (are_own_edges found.0 (k + 1) found.1) bad)
    where
      found : (j : ℕ) × AreBelow own.edge_numbers j (k + 1)
      found = some_below own.edge_numbers (length edges) (IsEdgeInCluster edges clusters cluster) net.own_is.edge_numbers (k + 1)

      go : (j : ℕ) → AreBelow own.edge_numbers j (k + 1) → IsBad (cluster_edges (own_clusters own) 1 (take j own.edges)) → BadBy k
      go zero below own_bad = absurd (none_bad own_bad)
      go (suc j) below own_bad = (
        j,
        (let few = below.few in omega (arith, few)),
        (let low = below.low j (omega arith) in omega (arith, low)),
        subst (λ n. IsBad (cluster_edges (own_clusters own) 1 (take n own.edges))) {x = suc j} {y = j + 1} (omega arith) own_bad,
      )

  first_up : (j : ℕ) → IsFirstBad own.edges (own_clusters own) 1 j → IsFirstBad edges clusters cluster (slice_index own.edge_numbers j)
  first_up j first = record {
    within = net.own_is.edge_numbers.within j j_in;
    bad = bad_up own.actor_numbers _ _ (to_edge j j_in) first.bad;
    before = λ k less bad. before k less (bad_by k bad);
  }
    where
      j_in : j < length own.edge_numbers
      j_in = subst (λ n. j < n) net.own_is.edges_long first.within

      before : (k : ℕ) → k < slice_index own.edge_numbers j → BadBy k → ⊥
      before k less found = first.before found.0
          (number_less own.edge_numbers (length edges) (IsEdgeInCluster edges clusters cluster) net.own_is.edge_numbers found.0 j found.1 j_in
          (let most = found.2 in omega (arith, most, less))) found.3

  none_up : IsNoneBad own.edges (own_clusters own) 1 → IsNoneBad edges clusters cluster
  none_up none k k_in bad = go (bad_by k bad)
    where
      go : BadBy k → ⊥
      go found = none found.0 (subst (λ n. found.0 < n) (sym net.own_is.edges_long) found.1) found.3

  -- counts
  module _ (counts all : List ℕ) (spread_is : AreSpread own.actor_numbers (length actors) counts all) (are : AreCounts own.edges (own_clusters own) 1 counts) where
    in_clusters : (i : ℕ) → i < length own.actor_numbers → i < length (own_clusters own)
    in_clusters i i_in = subst (λ n. i < n) (sym (length-replicate (length own.actor_numbers) 1)) i_in

    outside : (a : ℕ) → slice_index clusters a ≢ cluster → slice_index all a ≡ 0
    outside a other = spread_is.elsewhere a (λ i i_in is. other (ap (slice_index clusters) (sym is) ∙ net.own_is.actor_numbers.meant i i_in))

    positive : (a : ℕ) → a < length clusters → slice_index clusters a ≡ cluster → 0 < slice_index all a
    positive a a_in inside = subst (λ m. 0 < slice_index all m) number.2
        (subst (λ n. 0 < n) (sym (spread_is.at number.0 number.1)) (are.positive number.0 (in_clusters number.0 number.1) (in_own number.0 number.1)))
      where
        number : (i : ℕ) × (i < length own.actor_numbers) × (slice_index own.actor_numbers i ≡ a)
        number = net.own_is.actor_numbers.all a (subst (λ n. a < n) net.clusters_are.long a_in) inside

    balanced_own : (k : ℕ) (d : Edge) → slice_get own.edges k ≡ Some d → IsBalanced (slice_index all) (whole_edge own.actor_numbers d)
    balanced_own k d is =
        ap (λ n. n * d.write_rate) (spread_is.at d.writer (net.own_is.writers k d is))
        ∙ are.balanced d (at_contains own.edges k d is)
        ∙ sym (ap (λ n. n * d.read_rate) (spread_is.at d.reader (net.own_is.readers k d is)))

    balanced : (e : Edge) → Contains edges e → (slice_index clusters e.writer ≡ cluster) ⊎ (slice_index clusters e.writer ≡ cluster → ⊥) → IsBalanced (slice_index all) e
    balanced e there (inl inside) =
        let at = contains_at edges e there in
        let of = edge_down net at.0 e at.1 inside in
        subst (IsBalanced (slice_index all)) of.same (balanced_own of.place of.edge of.is)
    balanced e there (inr other) =
        ap (λ n. n * e.write_rate) (outside e.writer other) ∙ nothing e.write_rate e.read_rate
        ∙ sym (ap (λ n. n * e.read_rate) (outside e.reader (λ is. other (one_cluster net e there ∙ is))))
      where
        nothing : (x y : ℕ) → 0 * x ≡ 0 * y
        nothing x y = omega arith

    pub counts_up : AreCounts edges clusters cluster all
    counts_up = record {
      long = spread_is.long ∙ sym net.clusters_are.long;
      outside = outside;
      positive = positive;
      balanced = λ e there. balanced e there (cases_eq (slice_index clusters e.writer) cluster);
      least = λ d each. are.least d (λ i i_in inside. least d each i (subst (λ n. i < n) (length-replicate (length own.actor_numbers) 1) i_in));
    }
      where
        least : (d : ℕ) → ((a : ℕ) → a < length clusters → slice_index clusters a ≡ cluster → d ∣ slice_index all a) → (i : ℕ) → i < length own.actor_numbers → d ∣ slice_index counts i
        least d each i i_in = subst (λ n. d ∣ n) (spread_is.at i i_in)
            (each (slice_index own.actor_numbers i) (subst (λ n. slice_index own.actor_numbers i < n) (sym net.clusters_are.long) (net.own_is.actor_numbers.within i i_in))
            (net.own_is.actor_numbers.meant i i_in))

    pub sum_up : sum all ≡ sum counts
    sum_up = spread_sum own.actor_numbers (length actors) (IsActorInCluster clusters cluster) net.own_is.actor_numbers counts all spread_is
        (are.long ∙ length-replicate (length own.actor_numbers) 1)

pub own_counts : OwnCountsAreWhole
own_counts actors edges ports clusters cluster own net counts all spread_is has = record {
  none_bad = none_up net has.none_bad;
  counts_are = counts_up net counts all spread_is has.counts_are;
  few = (let same = sum_up net counts all spread_is has.counts_are in let few = has.few in omega (arith, same, few));
}

pub own_rates_fault : OwnRatesFaultsAreWhole
own_rates_fault actors edges ports clusters cluster own net k fault = record {
  first = first_up net k fault.first;
  unsolvable = unsolvable_up own.actor_numbers _ _ (to_edge net k (subst (λ n. k < n) net.own_is.edges_long fault.first.within)) fault.unsolvable;
}

pub own_size_fault : OwnSizeFaultsAreWhole
own_size_fault actors edges ports clusters cluster own net (at_edge k first large) =
    at_edge (slice_index own.edge_numbers k) (first_up net k first)
    (large_up own.actor_numbers _ _ (to_edge net k (subst (λ n. k < n) net.own_is.edges_long first.within)) large)
own_size_fault actors edges ports clusters cluster own net (in_all counts none are above) =
    in_all (spread own.actor_numbers (length actors) counts) (none_up net none) (counts_up net counts all spread_is are)
    (subst (λ n. most_firings < n) (sym (sum_up net counts all spread_is are)) above)
  where
    all : List ℕ
    all = spread own.actor_numbers (length actors) counts

    spread_is : AreSpread own.actor_numbers (length actors) counts (spread own.actor_numbers (length actors) counts)
    spread_is = are_spread own.actor_numbers (length actors) (IsActorInCluster clusters cluster) counts net.own_is.actor_numbers
