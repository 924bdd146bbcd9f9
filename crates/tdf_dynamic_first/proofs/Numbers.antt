-- Each number up to the greatest is that of a cluster.
use Rattle.std.proofs.Common.{◌≡◌, ◌≢◌, ◌∙◌, ℕ, zero, suc, ◌+◌, ◌<◌, ◌≤◌, List, [], ◌∷◌, ◌++◌, length, take, max, sym, ap, subst, arith, inl, inr, ◌⊎◌}
use Rattle.std.proofs.Math.ListN.{get_or}
use Rattle.std.proofs.Math.Seq.{take-suc}
use Rattle.std.proofs.lemmas.Bool.{cases_lt}
use Rattle.std.proofs.lemmas.List.{take_all}
use Rattle.std.specs.Prelude.{Contains}
use Rattle.tdf_bind_tables.specs.FlatTables.{FlatTablesOf}
use Rattle.tdf_dynamic_plans.specs.Attributes.{clusters_of}
use Rattle.tdf_dynamic_plans.specs.Rates.{IsWired}
use Rattle.tdf_graph.proofs.Api.{stands_below}
use Rattle.tdf_graph.specs.Clusters.{greatest, AreClusters}
use Rattle.tdf_graph.specs.declared.actors.Edge.{Edge}
use Rattle.tdf_bind_connections.proofs.Api.{any_default}

greatest_push : (ns : List ℕ) (n : ℕ) → greatest (ns ++ n ∷ []) ≡ max n (greatest ns)
greatest_push [] n = omega arith
greatest_push (m ∷ ns) n = let e = greatest_push ns n in omega (arith, e)

at_most : (xs : List ℕ) (b n : ℕ) → b < n → b < length xs → get_or xs b 0 ≤ greatest (take n xs)
at_most [] b n less within = absurd (omega (arith, within))
at_most (x ∷ xs) b zero less within = absurd (omega (arith, less))
at_most (x ∷ xs) zero (suc n) less within = omega arith
at_most (x ∷ xs) (suc b) (suc n) less within = let h = at_most xs b n (omega (arith, less)) (omega (arith, within)) in omega (arith, h)

module _ (count : ℕ) (edges : List Edge) (numbers : List ℕ) (are : AreClusters count edges numbers) where
  next_at_most : (n : ℕ) → n < count → get_or numbers n 0 ≤ greatest (take n numbers) + 1
  next_at_most n here = go (stands_below numbers (get_or numbers n 0) n)
    where
      go : ((b : ℕ) × (b < n) × (get_or numbers b 0 ≡ get_or numbers n 0)) ⊎ ((b : ℕ) → b < n → get_or numbers b 0 ≢ get_or numbers n 0) → get_or numbers n 0 ≤ greatest (take n numbers) + 1
      go (inl found) =
          let less = found.1 in let long = are.long in
          let h = at_most numbers found.0 n found.1 (omega (arith, less, here, long)) in let e = found.2 in omega (arith, h, e)
      go (inr none) =
          let e = are.first n here (λ b less chain. none b less (are.joined b n (omega (arith, less, here)) here chain)) in omega (arith, e)

  there_to : (n : ℕ) → n ≤ count → (c : ℕ) → 1 ≤ c → c ≤ greatest (take n numbers) → Contains numbers c
  there_to zero few c some low = absurd (omega (arith, some, low))
  there_to (suc n) few c some low = go (there_to n (omega (arith, few)) c some) (cases_lt (greatest (take n numbers)) c)
    where
      here : n < count
      here = omega (arith, few)

      within : n < length numbers
      within = let long = are.long in let h = here in omega (arith, h, long)

      most : greatest (take (suc n) numbers) ≡ max (get_or numbers n 0) (greatest (take n numbers))
      most = ap greatest (take-suc numbers n 0 within) ∙ greatest_push (take n numbers) (get_or numbers n 0)

      go : (c ≤ greatest (take n numbers) → Contains numbers c) → (greatest (take n numbers) < c) ⊎ (c ≤ greatest (take n numbers)) → Contains numbers c
      go before (inr there) = before there
      go before (inl after) =
          let m = most in let h = next_at_most n here in
          let e : get_or numbers n 0 ≡ c = omega (arith, m, h, after, low) in
          (n, within, any_default numbers n c 0 within ∙ e)

  pub numbers_whole : (c : ℕ) → 1 ≤ c → c ≤ greatest numbers → Contains numbers c
  numbers_whole c some low = there_to count (omega arith) c some (subst (λ ns. c ≤ greatest ns) (sym (take_all count numbers (let long = are.long in omega (arith, long)))) low)

pub clusters_whole : (tables : FlatTablesOf) (cluster : ℕ) → IsWired tables → 1 ≤ cluster → cluster ≤ greatest (clusters_of tables) → Contains (clusters_of tables) cluster
clusters_whole tables cluster wired = numbers_whole _ _ (clusters_of tables) wired.actors.clusters cluster
