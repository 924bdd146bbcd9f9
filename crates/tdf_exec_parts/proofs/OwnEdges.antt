-- The edges of a cluster, by number: each has its place among them.
use Rattle.std.proofs.Common.{◌≡◌, ◌∙◌, ◌⊎◌, ◌<◌, ◌≤◌, ◌+◌, ◌-◌, ◌++◌, ◌∷◌, [], ℕ, zero, suc, Bool, true, false, List, Option, length, length-append, map, append-nil, refl, sym, ap, subst, inl, inr, arith}
use Rattle.std.proofs.lemmas.Bool.{cases_lt, eq-eqb, eqb-true, false≢true}
use Rattle.std.proofs.lemmas.List.{get_or-append_right, get_or_append_left, length-map, map-id}
use Rattle.std.proofs.lemmas.List.Elements.{filter-append}
use Rattle.std.proofs.lemmas.List.FromFn.{map-range_with_len_more}
use Rattle.std.proofs.lemmas.List.Sums.{length-filter, sum_by-append}
use Rattle.std.specs.List.{count_by, filter, range_with_len}
use Rattle.std.specs.Prelude.{Contains, cond, slice_index, slice_index_or}
use Rattle.tdf_bind_connections.specs.declared.edges.EdgeRow.{EdgeRow}
use Rattle.tdf_bind_tables.specs.FlatTables.{FlatTablesOf}
use Rattle.tdf_cluster_net.specs.Numbers.{AreNumbers, IsAmong}
use Rattle.tdf_cluster_plans.proofs.Api.{in_count}
use Rattle.tdf_cluster_plans.specs.Groups.{AreTableGroups, TableGroupsOf, edge_cluster}
use Rattle.tdf_dynamic_plans.specs.Attributes.{clusters_of}
use Rattle.tdf_exec_parts.proofs.Rows.{index_at}
use Rattle.tdf_exec_parts.specs.States.{place_of_edge}
use Rattle.tdf_places.proofs.Api.{rising_all}
use Rattle.tdf_exec_layout.proofs.Api.{get_inside}
use Rattle.tdf_exec_layout.specs.Below.{is_own, writer_at, writer_of_row}

range_next : (n : ℕ) → range_with_len 0 (n + 1) ≡ range_with_len 0 n ++ n ∷ []
range_next n = sym (map-id (range_with_len 0 (n + 1))) ∙ map-range_with_len_more (λ (k : ℕ). k) 0 n n (omega arith) ∙ ap (λ (l : List ℕ). l ++ n ∷ []) (map-id (range_with_len 0 n))

-- ---- the places of the edges of a cluster

module _ (tables : FlatTablesOf) (cluster : ℕ) where
  abbrev weight : ℕ → ℕ
  weight e = cond {A = ℕ} (is_own tables cluster e) 1 0

  place_next : (e : ℕ) → place_of_edge tables cluster (e + 1) ≡ place_of_edge tables cluster e + weight e
  place_next e =
      let s = sum_by-append weight (range_with_len 0 e) (e ∷ []) in
      let one : place_of_edge tables cluster (e + 1) ≡ count_by (is_own tables cluster) (range_with_len 0 e ++ e ∷ []) = ap (count_by (is_own tables cluster)) (range_next e) in
      omega (arith, s, one)

  pub place_own : (e : ℕ) → is_own tables cluster e ≡ true → place_of_edge tables cluster (e + 1) ≡ place_of_edge tables cluster e + 1
  place_own e own = place_next e ∙ ap (λ (b : Bool). place_of_edge tables cluster e + cond {A = ℕ} b 1 0) own

  pub place_other : (e : ℕ) → is_own tables cluster e ≡ false → place_of_edge tables cluster (e + 1) ≡ place_of_edge tables cluster e
  place_other e other = place_next e ∙ ap (λ (b : Bool). place_of_edge tables cluster e + cond {A = ℕ} b 1 0) other ∙ omega arith

  grown : (e d : ℕ) → place_of_edge tables cluster e ≤ place_of_edge tables cluster (e + d)
  grown e zero = let z : e + 0 ≡ e = omega arith in subst (λ k. place_of_edge tables cluster e ≤ place_of_edge tables cluster k) (sym z) (omega arith)
  grown e (suc d) =
      let z : e + suc d ≡ e + d + 1 = omega arith in
      let r = grown e d in let n = place_next (e + d) in
      subst (λ k. place_of_edge tables cluster e ≤ place_of_edge tables cluster k) (sym z) (omega (arith, r, n))

  pub place_grows : (e n : ℕ) → e ≤ n → place_of_edge tables cluster e ≤ place_of_edge tables cluster n
  place_grows e n le = let z : e + (n - e) ≡ n = omega (arith, le) in subst (λ k. place_of_edge tables cluster e ≤ place_of_edge tables cluster k) z (grown e (n - e))

  pub place_below : (e n : ℕ) → e < n → is_own tables cluster e ≡ true → place_of_edge tables cluster e < place_of_edge tables cluster n
  place_below e n less own = let g = place_grows (e + 1) n (omega (arith, less)) in let o = place_own e own in omega (arith, g, o)

-- the numbers of the cluster's edges below n
abbrev pub own_below : FlatTablesOf → (cluster n : ℕ) → List ℕ
own_below tables cluster n = filter (is_own tables cluster) (range_with_len 0 n)

module _ (tables : FlatTablesOf) (cluster : ℕ) where
  below_many : (n : ℕ) → length (own_below tables cluster n) ≡ place_of_edge tables cluster n
  below_many n = length-filter (is_own tables cluster) (range_with_len 0 n)

  below_next : (n : ℕ) → own_below tables cluster (n + 1) ≡ own_below tables cluster n ++ cond (is_own tables cluster n) (n ∷ []) []
  below_next n = ap (filter (is_own tables cluster)) (range_next n) ∙ filter-append (is_own tables cluster) (range_with_len 0 n) (n ∷ [])

  below_own : (n : ℕ) → is_own tables cluster n ≡ true → own_below tables cluster (n + 1) ≡ own_below tables cluster n ++ n ∷ []
  below_own n own = below_next n ∙ ap (λ (b : Bool). own_below tables cluster n ++ cond b (n ∷ []) []) own

  below_other : (n : ℕ) → is_own tables cluster n ≡ false → own_below tables cluster (n + 1) ≡ own_below tables cluster n
  below_other n other = below_next n ∙ ap (λ (b : Bool). own_below tables cluster n ++ cond b (n ∷ []) []) other ∙ append-nil (own_below tables cluster n)

  -- what stands at a place is such an edge with that place
  record IsAt (n i e : ℕ) : Type 0 where
    less : e < n
    own : is_own tables cluster e ≡ true
    place : place_of_edge tables cluster e ≡ i

  abbrev AreAt : ℕ → List ℕ → Type 0
  AreAt n numbers = (i : ℕ) → i < length numbers → IsAt n i (slice_index numbers i)

  more_at : (n i e : ℕ) → IsAt n i e → IsAt (n + 1) i e
  more_at n i e is = record { less = (let l = is.less in omega (arith, l)); own = is.own; place = is.place }

  at_own : (n : ℕ) → AreAt n (own_below tables cluster n) → is_own tables cluster n ≡ true → AreAt (n + 1) (own_below tables cluster n ++ n ∷ [])
  at_own n before own i less = go (cases_lt i (length (own_below tables cluster n)))
    where
      go : (i < length (own_below tables cluster n)) ⊎ (length (own_below tables cluster n) ≤ i) → IsAt (n + 1) i (slice_index (own_below tables cluster n ++ n ∷ []) i)
      go (inl low) = subst (IsAt (n + 1) i) (sym (get_or_append_left (own_below tables cluster n) (n ∷ []) 0 i low)) (more_at n i (slice_index (own_below tables cluster n) i) (before i low))
      go (inr past) =
          let long = length-append (own_below tables cluster n) (n ∷ []) in
          let same : length (own_below tables cluster n) ≡ i = omega (arith, less, past, long) in
          let last : i - i ≡ 0 = omega arith in
          subst (IsAt (n + 1) i) (sym (get_or-append_right (own_below tables cluster n) (n ∷ []) i i 0 same (omega arith) ∙ ap (λ k. slice_index (n ∷ []) k) last))
          (record { less = omega arith; own = own; place = sym (below_many n) ∙ same })

  at_next : (n : ℕ) → AreAt n (own_below tables cluster n) → (b : Bool) → is_own tables cluster n ≡ b → AreAt (n + 1) (own_below tables cluster (n + 1))
  at_next n before true own = subst (AreAt (n + 1)) (sym (below_own n own)) (at_own n before own)
  at_next n before false other = subst (AreAt (n + 1)) (sym (below_other n other)) (λ i less. more_at n i (slice_index (own_below tables cluster n) i) (before i less))

  all_at_below : (n : ℕ) → AreAt n (own_below tables cluster n)
  all_at_below zero = λ i less. absurd (omega (arith, less))
  all_at_below (suc n) = let s : n + 1 ≡ suc n = omega arith in subst (λ k. AreAt k (own_below tables cluster k)) s (at_next n (all_at_below n) (is_own tables cluster n) refl)

  -- an own edge stands at its place
  abbrev AreFound : ℕ → List ℕ → Type 0
  AreFound n numbers = (e : ℕ) → e < n → is_own tables cluster e ≡ true → slice_index numbers (place_of_edge tables cluster e) ≡ e

  found_own : (n : ℕ) → AreFound n (own_below tables cluster n) → is_own tables cluster n ≡ true → AreFound (n + 1) (own_below tables cluster n ++ n ∷ [])
  found_own n before own e less mine = go (cases_lt e n)
    where
      go : (e < n) ⊎ (n ≤ e) → slice_index (own_below tables cluster n ++ n ∷ []) (place_of_edge tables cluster e) ≡ e
      go (inl low) =
          let p = place_below tables cluster e n low mine in let m = below_many n in
          get_or_append_left (own_below tables cluster n) (n ∷ []) 0 (place_of_edge tables cluster e) (omega (arith, p, m)) ∙ before e low mine
      go (inr past) =
          let same : n ≡ e = omega (arith, less, past) in
          let last : place_of_edge tables cluster n - place_of_edge tables cluster n ≡ 0 = omega arith in
          subst (λ k. slice_index (own_below tables cluster n ++ n ∷ []) (place_of_edge tables cluster k) ≡ k) same
          (get_or-append_right (own_below tables cluster n) (n ∷ []) (place_of_edge tables cluster n) (place_of_edge tables cluster n) 0 (below_many n) (omega arith)
          ∙ ap (λ k. slice_index (n ∷ []) k) last)

  found_other : (n : ℕ) → AreFound n (own_below tables cluster n) → is_own tables cluster n ≡ false → AreFound (n + 1) (own_below tables cluster n)
  found_other n before other e less mine = go (cases_lt e n)
    where
      go : (e < n) ⊎ (n ≤ e) → slice_index (own_below tables cluster n) (place_of_edge tables cluster e) ≡ e
      go (inl low) = before e low mine
      go (inr past) = let same : n ≡ e = omega (arith, less, past) in absurd (false≢true (sym other ∙ ap (is_own tables cluster) same ∙ mine))

  found_next : (n : ℕ) → AreFound n (own_below tables cluster n) → (b : Bool) → is_own tables cluster n ≡ b → AreFound (n + 1) (own_below tables cluster (n + 1))
  found_next n before true own = subst (AreFound (n + 1)) (sym (below_own n own)) (found_own n before own)
  found_next n before false other = subst (AreFound (n + 1)) (sym (below_other n other)) (found_other n before other)

  all_found_below : (n : ℕ) → AreFound n (own_below tables cluster n)
  all_found_below zero = λ e less mine. absurd (omega (arith, less))
  all_found_below (suc n) = let s : n + 1 ≡ suc n = omega arith in subst (λ k. AreFound k (own_below tables cluster k)) s (found_next n (all_found_below n) (is_own tables cluster n) refl)

  -- ---- those of a cluster, by number

  module _ (numbers : List ℕ) (are : numbers ≡ own_below tables cluster (length tables.edges)) where
    -- there are as many as there are places
    pub own_many : length numbers ≡ place_of_edge tables cluster (length tables.edges)
    own_many = ap length are ∙ below_many (length tables.edges)

    at : AreAt (length tables.edges) numbers
    at = subst (AreAt (length tables.edges)) (sym are) (all_at_below (length tables.edges))

    -- what stands at a place
    pub own_at : (i : ℕ) → i < length numbers → (slice_index numbers i < length tables.edges) × (is_own tables cluster (slice_index numbers i) ≡ true) × (place_of_edge tables cluster (slice_index numbers i) ≡ i)
    own_at i less = let a = at i less in (a.less, a.own, a.place)

    -- where an edge stands
    pub own_found : (e : ℕ) → e < length tables.edges → is_own tables cluster e ≡ true → (place_of_edge tables cluster e < length numbers) × (slice_index numbers (place_of_edge tables cluster e) ≡ e)
    own_found e less mine = (
      (let p = place_below tables cluster e (length tables.edges) less mine in let m = own_many in omega (arith, p, m)),
      ap (λ l. slice_index l (place_of_edge tables cluster e)) are ∙ all_found_below (length tables.edges) e less mine,
    )

-- an edge is of the cluster as its row says
writer_cluster : (tables : FlatTablesOf) (e : ℕ) → e < length tables.edges
    → slice_index (map (edge_cluster (clusters_of tables)) tables.edges) e ≡ slice_index (clusters_of tables) (writer_at tables.edges e)
writer_cluster tables e less =
    let row = get_inside tables.edges e less in
    index_at (edge_cluster (clusters_of tables)) tables.edges e row.0 row.1 ∙ sym (ap (λ (o : Option EdgeRow). slice_index (clusters_of tables) (writer_of_row o)) row.1)

-- rising numbers of all edges of a cluster
module _ (tables : FlatTablesOf) (cluster : ℕ) (numbers : List ℕ)
    (are : AreNumbers (length (map (edge_cluster (clusters_of tables)) tables.edges)) (λ m. slice_index (map (edge_cluster (clusters_of tables)) tables.edges) m ≡ cluster) numbers) where
  inside : (m : ℕ) → m < length (map (edge_cluster (clusters_of tables)) tables.edges) → m < length tables.edges
  inside m less = let long = length-map tables.edges (edge_cluster (clusters_of tables)) in omega (arith, less, long)

  outside : (m : ℕ) → m < length tables.edges → m < length (map (edge_cluster (clusters_of tables)) tables.edges)
  outside m less = let long = length-map tables.edges (edge_cluster (clusters_of tables)) in omega (arith, less, long)

  meant_own : (i : ℕ) → i < length numbers → is_own tables cluster (slice_index numbers i) ≡ true
  meant_own i less =
      eq-eqb (slice_index (clusters_of tables) (writer_at tables.edges (slice_index numbers i))) cluster
      (sym (writer_cluster tables (slice_index numbers i) (inside (slice_index numbers i) (are.within i less))) ∙ are.meant i less)

  own_among : (m : ℕ) → m < length tables.edges → is_own tables cluster m ≡ true → IsAmong numbers m
  own_among m less own =
      are.all m (outside m less) (writer_cluster tables m less ∙ eqb-true (slice_index (clusters_of tables) (writer_at tables.edges m)) cluster own)

  own_list : numbers ≡ own_below tables cluster (length tables.edges)
  own_list = rising_all (is_own tables cluster) (length tables.edges) numbers (λ i less. inside (slice_index numbers i) (are.within i less)) are.rising meant_own own_among

-- the numbers of the edges of a cluster by the groups of the model
pub own_numbers : (tables : FlatTablesOf) (groups : TableGroupsOf) (cluster : ℕ) → Contains (clusters_of tables) cluster → AreTableGroups tables groups
    → slice_index_or groups.edges cluster [] ≡ own_below tables cluster (length tables.edges)
own_numbers tables groups cluster has are =
    own_list tables cluster (slice_index_or groups.edges cluster []) (are.edges.each cluster (in_count (clusters_of tables) cluster are.count has are.all))
