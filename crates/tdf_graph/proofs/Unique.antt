-- A net has one list of cluster numbers.
use Rattle.std.proofs.Common.{◌≡◌, ◌≢◌, ◌∙◌, ℕ, zero, suc, ◌+◌, ◌<◌, ◌≤◌, List, [], ◌∷◌, ◌++◌, take, refl, sym, ap, subst, arith, inl, inr, ◌⊎◌}
use Rattle.std.proofs.Math.ListN.{get_or}
use Rattle.std.proofs.Math.Seq.{take-suc}
use Rattle.std.proofs.lemmas.Bool.{cases_eq}
use Rattle.std.proofs.lemmas.List.{get_or-take}
use Rattle.tdf_graph.proofs.Numbers.{take_whole}
use Rattle.tdf_graph.specs.Clusters.{Joined, greatest, AreClusters}
use Rattle.tdf_graph.specs.declared.actors.Edge.{Edge}

-- a number stands before a place, or nowhere there
pub stands_below : (xs : List ℕ) (v n : ℕ) → ((b : ℕ) × (b < n) × (get_or xs b 0 ≡ v)) ⊎ ((b : ℕ) → b < n → get_or xs b 0 ≢ v)
stands_below xs v zero = inr (λ b less same. omega (arith, less))
stands_below xs v (suc n) = go (cases_eq (get_or xs n 0) v) (stands_below xs v n)
  where
    go : (get_or xs n 0 ≡ v) ⊎ (get_or xs n 0 ≡ v → ⊥) → ((b : ℕ) × (b < n) × (get_or xs b 0 ≡ v)) ⊎ ((b : ℕ) → b < n → get_or xs b 0 ≢ v)
        → ((b : ℕ) × (b < suc n) × (get_or xs b 0 ≡ v)) ⊎ ((b : ℕ) → b < suc n → get_or xs b 0 ≢ v)
    go (inl here) before = inl (n, omega arith, here)
    go (inr other) (inl found) = inl (found.0, (let h = found.1 in omega (arith, h)), found.2)
    go (inr other) (inr none) = inr (λ b less. last b less (cases_eq b n))
      where
        last : (b : ℕ) → b < suc n → (b ≡ n) ⊎ (b ≡ n → ⊥) → get_or xs b 0 ≢ v
        last b less (inl same) is = other (sym (ap (λ m. get_or xs m 0) same) ∙ is)
        last b less (inr apart) is = none b (omega (arith, less, apart)) is

module _ (count : ℕ) (edges : List Edge) (xs ys : List ℕ) (one : AreClusters count edges xs) (other : AreClusters count edges ys) where
  same_at : (n : ℕ) → n < count → take n xs ≡ take n ys → get_or xs n 0 ≡ get_or ys n 0
  same_at n here same = go (stands_below xs (get_or xs n 0) n)
    where
      at : (b : ℕ) → b < n → get_or xs b 0 ≡ get_or ys b 0
      at b less = sym (get_or-take n xs b 0 less) ∙ ap (λ l. get_or l b 0) same ∙ get_or-take n ys b 0 less

      go : ((b : ℕ) × (b < n) × (get_or xs b 0 ≡ get_or xs n 0)) ⊎ ((b : ℕ) → b < n → get_or xs b 0 ≢ get_or xs n 0) → get_or xs n 0 ≡ get_or ys n 0
      go (inl found) =
          let less = found.1 in
          let b_in : found.0 < count = omega (arith, less, here) in
          sym found.2 ∙ at found.0 less ∙ other.joined found.0 n b_in here (one.together found.0 n b_in here found.2)
      go (inr none) =
          let alone : (b : ℕ) → b < n → Joined edges b n → ⊥ = λ b less chain. none b less (one.joined b n (omega (arith, less, here)) here chain) in
          one.first n here alone ∙ ap (λ l. greatest l + 1) same ∙ sym (other.first n here alone)

  same_to : (n : ℕ) → n ≤ count → take n xs ≡ take n ys
  same_to zero few = refl
  same_to (suc n) few =
      let before = same_to n (omega (arith, few)) in
      let here : n < count = omega (arith, few) in
      take-suc xs n 0 (subst (λ m. n < m) (sym one.long) here) ∙ ap (λ l. l ++ get_or xs n 0 ∷ []) before
      ∙ ap (λ x. take n ys ++ x ∷ []) (same_at n here before) ∙ sym (take-suc ys n 0 (subst (λ m. n < m) (sym other.long) here))

  pub same_clusters : xs ≡ ys
  same_clusters = sym (take_whole xs count one.long) ∙ same_to count (omega arith) ∙ take_whole ys count other.long
