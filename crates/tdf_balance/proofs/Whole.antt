-- The counts of a whole cluster.
use Rattle.std.proofs.Common.{◌≡◌, ◌∙◌, ℕ, zero, suc, ◌*◌, ◌<◌, ◌≤◌, Bool, true, false, ◌&&◌, List, [], ◌∷◌, ◌++◌, length, take, refl, sym, ap, subst, arith, inl, inr, ◌⊎◌, nat_eq, nat_lt, cond}
use Rattle.std.proofs.Math.ListN.{get_or}
use Rattle.std.proofs.lemmas.Bool.{cases_eq, cases_lt, eq-eqb, ne_eqb, eqb-true, lt-ltb, le-ltb}
use Rattle.std.proofs.lemmas.List.{ext_get_or, get_or_default, get_or_past, append-nil}
use Rattle.std.proofs.lemmas.List.Elements.{All-contains, All-contains_itself, All-filter, filter_passes, filter_more}
use Rattle.std.specs.Int.{◌∣◌}
use Rattle.std.specs.List.{filter}
use Rattle.std.specs.Prelude.{All, Contains, sum}
use Rattle.tdf_balance.proofs.Solutions.{same_least}
use Rattle.tdf_balance.specs.Balance.{cluster_edges, edges_to, IsFirstBad, IsRatesFault, IsSizeFault, at_edge, in_all, HasCounts}
use Rattle.tdf_balance.proofs.Steps.{joined_within}
use Rattle.tdf_balance.specs.Laws.{AnswersExclude}
use Rattle.tdf_balance.specs.views.Solution.{AreLeast, IsKept, count_at}
use Rattle.tdf_graph.proofs.Api.{along, place_in}
use Rattle.tdf_graph.specs.Clusters.{Joined, stays, goes, comes, AreClusters}
use Rattle.tdf_graph.specs.Counts.{Solves, IsLeast, AreCounts}
use Rattle.tdf_graph.specs.Ranges.{IsEdge}
use Rattle.tdf_graph.specs.declared.actors.Edge.{Edge}

-- what passes a test, and what passed it
contains_later : {A : Type 0} (x : A) (xs : List A) (y : A) → Contains xs y → Contains (x ∷ xs) y
contains_later x xs y found = (suc found.0, (let h = found.1 in omega (arith, h)), found.2)

contains_cases : {A : Type 0} (x : A) (xs : List A) (y : A) → Contains (x ∷ xs) y → (x ≡ y) ⊎ Contains xs y
contains_cases {A} x xs y found = go found.0 found.1 found.2
  where
    go : (k : ℕ) → k < length (x ∷ xs) → get_or (x ∷ xs) k y ≡ y → (x ≡ y) ⊎ Contains xs y
    go zero less is = inl is
    go (suc k) less is = inr (k, omega (arith, less), is)

pub filter_has : {A : Type 0} (p : A → Bool) (xs : List A) (y : A) → Contains xs y → p y ≡ true → Contains (filter p xs) y
filter_has p [] y found passes = absurd (let h = found.1 in omega (arith, h))
filter_has {A} p (x ∷ xs) y found passes = go (contains_cases x xs y found) (λ later. filter_has p xs y later passes)
  where
    go : (x ≡ y) ⊎ Contains xs y → (Contains xs y → Contains (filter p xs) y) → Contains (cond (p x) (x ∷ filter p xs) (filter p xs)) y
    go (inl same) rest = subst (λ b. Contains (cond b (x ∷ filter p xs) (filter p xs)) y) (sym (ap p same ∙ passes)) (0, omega arith, same)
    go (inr later) rest = by_test (p x)
      where
        by_test : (b : Bool) → Contains (cond b (x ∷ filter p xs) (filter p xs)) y
        by_test true = contains_later x (filter p xs) y (rest later)
        by_test false = rest later

pub filter_from : {A : Type 0} (p : A → Bool) (xs : List A) (y : A) → Contains (filter p xs) y → Contains xs y × (p y ≡ true)
filter_from p xs y found = (
  All-contains (Contains xs) (filter p xs) y (All-filter p (Contains xs) xs (All-contains_itself xs)) found,
  All-contains (λ x. p x ≡ true) (filter p xs) y (filter_passes p xs) found,
)

module _ (count : ℕ) (edges : List Edge) (clusters : List ℕ) (cluster : ℕ) (fit : All (IsEdge count) edges) (are : AreClusters count edges clusters) where
  abbrev own : List Edge
  own = cluster_edges clusters cluster edges

  ends : (e : Edge) → Contains edges e → get_or clusters e.writer 0 ≡ get_or clusters e.reader 0
  ends e is = let here = All-contains (IsEdge count) edges e fit is in are.joined e.writer e.reader here.writer here.reader (goes e is (stays e.reader))

  own_has : (e : Edge) → Contains edges e → get_or clusters e.writer 0 ≡ cluster → Contains own e
  own_has e is in_cluster = filter_has (λ (x : Edge). nat_eq (get_or clusters x.writer 0) cluster) edges e is (eq-eqb _ _ in_cluster)

  own_from : (e : Edge) → Contains own e → Contains edges e × (get_or clusters e.writer 0 ≡ cluster)
  own_from e is =
      let found = filter_from (λ (x : Edge). nat_eq (get_or clusters x.writer 0) cluster) edges e is in
      (found.0, eqb-true (get_or clusters e.writer 0) cluster found.1)

  -- within a cluster its own edges join the same actors
  own_joined : {a b : ℕ} → Joined edges a b → get_or clusters a 0 ≡ cluster → Joined own a b
  own_joined (stays a) in_cluster = stays a
  own_joined (goes e is rest) in_cluster = goes e (own_has e is in_cluster) (own_joined rest (sym (ends e is) ∙ in_cluster))
  own_joined (comes e is rest) in_cluster = comes e (own_has e is (ends e is ∙ in_cluster)) (own_joined rest (ends e is ∙ in_cluster))

  -- a list of counts as a function, 1 for all actors of other clusters
  abbrev counted : List ℕ → ℕ → ℕ
  counted counts a = cond (nat_lt a count && nat_eq (get_or clusters a 0) cluster) (get_or counts a 0) 1

  counted_in : (counts : List ℕ) (a : ℕ) → a < count → get_or clusters a 0 ≡ cluster → counted counts a ≡ get_or counts a 0
  counted_in counts a here is = rw (lt-ltb a count here, eq-eqb _ _ is) refl

  pub own_fit : All (IsEdge count) own
  own_fit = All-filter (λ (x : Edge). nat_eq (get_or clusters x.writer 0) cluster) (IsEdge count) edges fit

  counted_some : (counts : List ℕ) → AreCounts edges clusters cluster counts → (a : ℕ) → 0 < counted counts a
  counted_some counts is a = go (cases_lt a count) (cases_eq (get_or clusters a 0) cluster)
    where
      go : (a < count) ⊎ (count ≤ a) → (get_or clusters a 0 ≡ cluster) ⊎ (get_or clusters a 0 ≡ cluster → ⊥) → 0 < counted counts a
      go (inl here) (inl in_cluster) = subst (λ n. 0 < n) (sym (counted_in counts a here in_cluster)) (is.positive a (subst (λ n. a < n) (sym are.long) here) in_cluster)
      go (inl here) (inr other) = rw (lt-ltb a count here, ne_eqb (get_or clusters a 0) cluster other) (omega arith)
      go (inr past) other = rw (le-ltb a count past) (omega arith)

  counted_least : (counts : List ℕ) → AreCounts edges clusters cluster counts → (actor : ℕ) → actor < count → get_or clusters actor 0 ≡ cluster → IsLeast own actor (counted counts)
  counted_least counts is actor actor_in in_cluster = record {
    solves = record {
      positive = counted_some counts is;
      balanced = λ e own_e. balanced e (own_from e own_e).0 (own_from e own_e).1;
    };
    least = λ d each. is.least d (λ a a_in a_is.
        let here = subst (λ n. a < n) are.long a_in in
        subst (λ n. d ∣ n) (counted_in counts a here a_is) (each a (own_joined (are.together actor a actor_in here (in_cluster ∙ sym a_is)) in_cluster)));
  }
    where
      balanced : (e : Edge) → Contains edges e → get_or clusters e.writer 0 ≡ cluster → counted counts e.writer * e.write_rate ≡ counted counts e.reader * e.read_rate
      balanced e e_in e_is =
          let here = All-contains (IsEdge count) edges e fit e_in in
          ap (λ n. n * e.write_rate) (counted_in counts e.writer here.writer e_is) ∙ is.balanced e e_in
          ∙ ap (λ n. n * e.read_rate) (sym (counted_in counts e.reader here.reader (sym (ends e e_in) ∙ e_is)))

  pub same_counts : (one other : List ℕ) → Contains clusters cluster → AreCounts edges clusters cluster one → AreCounts edges clusters cluster other → one ≡ other
  same_counts one other has one_is other_is = ext_get_or 0 one other (one_is.long ∙ sym other_is.long) (λ a here. each a (subst (λ n. a < n) (one_is.long ∙ are.long) here) (cases_eq (get_or clusters a 0) cluster))
    where
      place : (i : ℕ) × (i < length clusters) × (get_or clusters i 0 ≡ cluster)
      place = place_in clusters cluster has

      actor : ℕ
      actor = place.0

      actor_in : actor < count
      actor_in = subst (λ n. actor < n) are.long place.1

      each : (a : ℕ) → a < count → (get_or clusters a 0 ≡ cluster) ⊎ (get_or clusters a 0 ≡ cluster → ⊥) → get_or one a 0 ≡ get_or other a 0
      each a a_in (inl is) =
          sym (counted_in one a a_in is)
          ∙ same_least count own actor (counted one) (counted other) own_fit (counted_least one one_is actor actor_in place.2) (counted_least other other_is actor actor_in place.2)
          a (own_joined (are.together actor a actor_in a_in (place.2 ∙ sym is)) place.2)
          ∙ counted_in other a a_in is
      each a a_in (inr not) = one_is.outside a not ∙ sym (other_is.outside a not)

  -- the least counts of all parts, with 0 for all actors of other clusters
  pub counts_are : (labels counts kept : List ℕ) → AreLeast count own labels counts → IsKept clusters cluster counts kept → Contains clusters cluster → AreCounts edges clusters cluster kept
  counts_are labels counts kept least keeps has = record {
    long = keeps.long ∙ least.long ∙ sym are.long;
    outside = λ a not. none_outside a not (cases_lt a (length counts));
    positive = λ a a_in is. let here = subst (λ n. a < n) are.long a_in in subst (λ n. 0 < n) (sym (kept_is a here is)) (solved.positive a);
    balanced = λ e is. balanced e is (cases_eq (get_or clusters e.writer 0) cluster);
    least = λ d each. (least.least actor actor_in).least d (λ b chain.
        let here = joined_within count own own_fit chain actor_in in
        let is = sym (in_cluster chain) ∙ place.2 in
        subst (λ n. d ∣ n) (kept_is b here is) (each b (subst (λ n. b < n) (sym are.long) here) is));
  }
    where
      place : (i : ℕ) × (i < length clusters) × (get_or clusters i 0 ≡ cluster)
      place = place_in clusters cluster has

      actor : ℕ
      actor = place.0

      actor_in : actor < count
      actor_in = subst (λ n. actor < n) are.long place.1

      solved : Solves own (count_at counts)
      solved = (least.least actor actor_in).solves

      in_cluster : {a b : ℕ} → Joined own a b → get_or clusters a 0 ≡ get_or clusters b 0
      in_cluster chain = along own clusters (λ e own_e. ends e (own_from e own_e).0) chain

      kept_is : (a : ℕ) → a < count → get_or clusters a 0 ≡ cluster → get_or kept a 0 ≡ count_at counts a
      kept_is a here is =
          let within = subst (λ n. a < n) (sym least.long) here in
          keeps.inside a is ∙ get_or_default counts a 0 1 within

      none_outside : (a : ℕ) → (get_or clusters a 0 ≡ cluster → ⊥) → (a < length counts) ⊎ (length counts ≤ a) → get_or kept a 0 ≡ 0
      none_outside a not (inl within) = keeps.outside a within not
      none_outside a not (inr past) = get_or_past kept a 0 (subst (λ n. n ≤ a) (sym keeps.long) past)

      none : (x y : ℕ) → 0 * x ≡ 0 * y
      none x y = omega arith

      balanced : (e : Edge) → Contains edges e → (get_or clusters e.writer 0 ≡ cluster) ⊎ (get_or clusters e.writer 0 ≡ cluster → ⊥)
          → get_or kept e.writer 0 * e.write_rate ≡ get_or kept e.reader 0 * e.read_rate
      balanced e e_in (inl is) =
          let here = All-contains (IsEdge count) edges e fit e_in in
          ap (λ n. n * e.write_rate) (kept_is e.writer here.writer is) ∙ solved.balanced e (own_has e e_in is)
          ∙ ap (λ n. n * e.read_rate) (sym (kept_is e.reader here.reader (sym (ends e e_in) ∙ is)))
      balanced e e_in (inr not) =
          ap (λ n. n * e.write_rate) (none_outside e.writer not (cases_lt e.writer (length counts))) ∙ none e.write_rate e.read_rate
          ∙ sym (ap (λ n. n * e.read_rate) (none_outside e.reader (λ is. not (ends e e_in ∙ is)) (cases_lt e.reader (length counts))))

-- which answers exclude each other
pub one_edge : (edges : List Edge) (clusters : List ℕ) (cluster j k : ℕ) → IsFirstBad edges clusters cluster j → IsFirstBad edges clusters cluster k → j ≡ k
one_edge edges clusters cluster j k first second = go (cases_lt j k) (cases_lt k j)
  where
    go : (j < k) ⊎ (k ≤ j) → (k < j) ⊎ (j ≤ k) → j ≡ k
    go (inl less) other = absurd (second.before j less first.bad)
    go (inr more) (inl less) = absurd (first.before k less second.bad)
    go (inr more) (inr most) = omega (arith, more, most)

pub rates_or_size : (edges : List Edge) (clusters : List ℕ) (cluster k : ℕ) → IsRatesFault edges clusters cluster k → IsSizeFault edges clusters cluster → ⊥
rates_or_size edges clusters cluster k rates (at_edge j first large) =
    rates.unsolvable large.counts (subst (λ i. Solves (edges_to clusters cluster edges i) large.counts) (one_edge edges clusters cluster j k first rates.first) large.least.solves)
rates_or_size edges clusters cluster k rates (in_all counts none are above) = none k rates.first.within rates.first.bad

pub rates_or_counts : (edges : List Edge) (clusters counts : List ℕ) (cluster k : ℕ) → IsRatesFault edges clusters cluster k → HasCounts edges clusters cluster counts → ⊥
rates_or_counts edges clusters counts cluster k rates fine = fine.none_bad k rates.first.within rates.first.bad

pub size_or_counts : (count : ℕ) (edges : List Edge) (clusters counts : List ℕ) (cluster : ℕ) → All (IsEdge count) edges → AreClusters count edges clusters → Contains clusters cluster
    → IsSizeFault edges clusters cluster → HasCounts edges clusters cluster counts → ⊥
size_or_counts count edges clusters counts cluster fit are has (at_edge j first large) fine = fine.none_bad j first.within first.bad
size_or_counts count edges clusters counts cluster fit are has (in_all others none others_are above) fine =
    let same = ap sum (same_counts count edges clusters cluster fit are others counts has others_are fine.counts_are) in
    let few = fine.few in omega (arith, same, few, above)

pub exclude : AnswersExclude
exclude = record {
  one_edge = λ edges clusters cluster j k first second. one_edge edges clusters cluster j k first.first second.first;
  rates_or_size = rates_or_size;
  rates_or_counts = rates_or_counts;
  size_or_counts = size_or_counts;
}

-- the edges of a cluster up to one more
module _ (edges : List Edge) (clusters : List ℕ) (cluster k : ℕ) (d : Edge) (here : k < length edges) where
  pub edges_same : nat_eq (get_or clusters (get_or edges k d).writer 0) cluster ≡ false → edges_to clusters cluster edges k ≡ cluster_edges clusters cluster (take k edges)
  edges_same not = filter_more (λ (x : Edge). nat_eq (get_or clusters x.writer 0) cluster) edges k d here
      ∙ ap (λ b. cluster_edges clusters cluster (take k edges) ++ cond b (get_or edges k d ∷ []) []) not ∙ append-nil (cluster_edges clusters cluster (take k edges))

  pub edges_more : nat_eq (get_or clusters (get_or edges k d).writer 0) cluster ≡ true
      → edges_to clusters cluster edges k ≡ cluster_edges clusters cluster (take k edges) ++ get_or edges k d ∷ []
  edges_more is = filter_more (λ (x : Edge). nat_eq (get_or clusters x.writer 0) cluster) edges k d here
      ∙ ap (λ b. cluster_edges clusters cluster (take k edges) ++ cond b (get_or edges k d ∷ []) []) is
