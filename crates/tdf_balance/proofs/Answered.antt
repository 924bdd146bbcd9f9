-- From step to step, and from the last step to the answer.
use Rattle.std.proofs.Common.{◌≡◌, ℕ, ◌+◌, ◌<◌, List, [], ◌∷◌, ◌++◌, length, take, refl, sym, ap, subst, arith, inl, inr, ◌⊎◌}
use Rattle.std.proofs.Math.ListN.{get_or}
use Rattle.std.proofs.lemmas.Bool.{cases_eq, eq-eqb, ne_eqb}
use Rattle.std.proofs.lemmas.List.{take_all}
use Rattle.std.specs.Global.{Global}
use Rattle.std.specs.Prelude.{All, Contains, Result, Ok, Err, Vec, IsOk, IfOk}
use Rattle.tdf_balance.proofs.Steps.{none_bad}
use Rattle.tdf_balance.proofs.Whole.{edges_same, edges_more, counts_are, one_edge, rates_or_size, rates_or_counts, size_or_counts}
use Rattle.tdf_balance.specs.Balance.{cluster_edges, edges_to, IsBad, IsNoneBad, IsRatesFault, IsSizeFault, at_edge, in_all, HasCounts}
use Rattle.tdf_balance.specs.declared.err.BalanceErr.{BalanceErr}
use Rattle.tdf_balance.specs.declared.err.BalanceErr.TheVariants.{Rates, TooLarge, Memory}
use Rattle.tdf_balance.specs.declared.solution.Solution.{Solution}
use Rattle.tdf_balance.specs.views.Results.{IsNext, IsSolved, IsFinished, IsAnswer}
use Rattle.tdf_balance.specs.views.Solution.{AreLeast, AreFine}
use Rattle.tdf_graph.specs.Clusters.{AreClusters}
use Rattle.tdf_graph.specs.Ranges.{IsEdge}
use Rattle.tdf_graph.specs.declared.actors.Edge.{Edge}

-- an edge of the cluster is added, another one is passed over
module _ (count : ℕ) (edges : List Edge) (clusters : List ℕ) (cluster k : ℕ) (d : Edge) (here : k < length edges) where
  pub passed : (s : Solution) → (get_or clusters (get_or edges k d).writer 0 ≡ cluster → ⊥)
      → AreLeast count (cluster_edges clusters cluster (take k edges)) s.parts s.counts.items → AreLeast count (edges_to clusters cluster edges k) s.parts s.counts.items
  passed s not are = subst (λ es. AreLeast count es s.parts s.counts.items) (sym (edges_same edges clusters cluster k d here (ne_eqb _ _ not))) are

  pub added : (r : Result Solution BalanceErr) → get_or clusters (get_or edges k d).writer 0 ≡ cluster
      → IsNext count k (cluster_edges clusters cluster (take k edges) ++ get_or edges k d ∷ []) r → IsNext count k (edges_to clusters cluster edges k) r
  added r is next = subst (λ es. IsNext count k es r) (sym (edges_more edges clusters cluster k d here (eq-eqb _ _ is))) next

module _ (count : ℕ) (edges : List Edge) (clusters : List ℕ) (cluster : ℕ) where
  pub still_fine : (k : ℕ) (labels counts : List ℕ) → 0 < count → AreFine edges clusters cluster k → AreLeast count (edges_to clusters cluster edges k) labels counts
      → AreFine edges clusters cluster (k + 1)
  still_fine k labels counts some fine are j less bad = go (cases_eq j k)
    where
      go : (j ≡ k) ⊎ (j ≡ k → ⊥) → ⊥
      go (inl same) = none_bad count (edges_to clusters cluster edges k) labels counts are some (subst (λ i. IsBad (edges_to clusters cluster edges i)) same bad)
      go (inr other) = fine j (omega (arith, less, other)) bad

  pub fault_at : (k : ℕ) (why : BalanceErr) → k < length edges → AreFine edges clusters cluster k → IsNext count k (edges_to clusters cluster edges k) (Err why)
      → IsSolved count edges clusters cluster (Err why)
  fault_at k (Rates j) here fine next = subst (IsRatesFault edges clusters cluster) (sym next.0)
      (record { first = record { within = here; bad = inl next.1; before = fine }; unsolvable = next.1 })
  fault_at k TooLarge here fine next = at_edge k (record { within = here; bad = inr next; before = fine }) next
  fault_at k Memory here fine next = tt

  pub solved_all : (labels counts : List ℕ) → AreFine edges clusters cluster (length edges) → AreLeast count (cluster_edges clusters cluster (take (length edges) edges)) labels counts
      → IsNoneBad edges clusters cluster × AreLeast count (cluster_edges clusters cluster edges) labels counts
  solved_all labels counts fine are = (fine, subst (λ es. AreLeast count (cluster_edges clusters cluster es) labels counts) (take_all (length edges) edges (omega arith)) are)

  pub answered : (s : Solution) (r : Result (Vec ℕ Global) BalanceErr) → All (IsEdge count) edges → AreClusters count edges clusters → Contains clusters cluster
      → IsSolved count edges clusters cluster (Ok s) → IsFinished clusters cluster s.counts.items r → IsAnswer edges clusters cluster r
  answered s (Ok kept) fit are has solved finished = record {
    none_bad = solved.0;
    counts_are = counts_are count edges clusters cluster fit are s.parts s.counts.items kept.items solved.1 finished.0 has;
    few = finished.1;
  }
  answered s (Err (Rates j)) fit are has solved finished = absurd finished
  answered s (Err TooLarge) fit are has solved finished = in_all finished.0 solved.0
      (counts_are count edges clusters cluster fit are s.parts s.counts.items finished.0 solved.1 finished.1 has) finished.2
  answered s (Err Memory) fit are has solved finished = tt

  pub fault_kept : (why : BalanceErr) → IsSolved count edges clusters cluster (Err why) → IsAnswer edges clusters cluster (Err why)
  fault_kept (Rates j) solved = solved
  fault_kept TooLarge solved = solved
  fault_kept Memory solved = tt

-- what the answer says, both ways
module _ (edges : List Edge) (clusters : List ℕ) (cluster : ℕ) where
  pub says_counts : (r : Result (Vec ℕ Global) BalanceErr) → IsAnswer edges clusters cluster r → IfOk r (λ q. HasCounts edges clusters cluster q.items)
  says_counts (Ok q) is = is
  says_counts (Err why) is = tt

  pub says_rates : (r : Result (Vec ℕ Global) BalanceErr) → IsAnswer edges clusters cluster r → (k : ℕ) → r ≡ Err (Rates k) → IsRatesFault edges clusters cluster k
  says_rates r is k same = subst (IsAnswer edges clusters cluster) same is

  pub says_size : (r : Result (Vec ℕ Global) BalanceErr) → IsAnswer edges clusters cluster r → r ≡ Err TooLarge → IsSizeFault edges clusters cluster
  says_size r is same = subst (IsAnswer edges clusters cluster) same is

  pub always_rates : (r : Result (Vec ℕ Global) BalanceErr) → IsAnswer edges clusters cluster r → (k : ℕ) → IsRatesFault edges clusters cluster k
      → (r ≡ Err (Rates k)) ⊎ (r ≡ Err Memory)
  always_rates (Ok q) is k fault = absurd (rates_or_counts edges clusters q.items cluster k fault is)
  always_rates (Err (Rates j)) is k fault = inl (ap (λ n. Err (Rates n)) (one_edge edges clusters cluster j k is.first fault.first))
  always_rates (Err TooLarge) is k fault = absurd (rates_or_size edges clusters cluster k fault is)
  always_rates (Err Memory) is k fault = inr refl

  module _ (count : ℕ) (fit : All (IsEdge count) edges) (are : AreClusters count edges clusters) (has : Contains clusters cluster) where
    pub always_size : (r : Result (Vec ℕ Global) BalanceErr) → IsAnswer edges clusters cluster r → IsSizeFault edges clusters cluster → (r ≡ Err TooLarge) ⊎ (r ≡ Err Memory)
    always_size (Ok q) is fault = absurd (size_or_counts count edges clusters q.items cluster fit are has fault is)
    always_size (Err (Rates j)) is fault = absurd (rates_or_size edges clusters cluster j is fault)
    always_size (Err TooLarge) is fault = inl refl
    always_size (Err Memory) is fault = inr refl

    pub always_counts : (r : Result (Vec ℕ Global) BalanceErr) → IsAnswer edges clusters cluster r → (q : List ℕ) → HasCounts edges clusters cluster q → IsOk r ⊎ (r ≡ Err Memory)
    always_counts (Ok v) is q fine = inl refl
    always_counts (Err (Rates j)) is q fine = absurd (rates_or_counts edges clusters q cluster j is fine)
    always_counts (Err TooLarge) is q fine = absurd (size_or_counts count edges clusters q cluster fit are has is fine)
    always_counts (Err Memory) is q fine = inr refl
