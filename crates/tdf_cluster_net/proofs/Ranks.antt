-- Rising numbers keep the order, and what a list that is spread over them holds.
use Rattle.std.proofs.Common.{◌≡◌, ◌≢◌, ◌∙◌, ℕ, ◌<◌, ◌≤◌, ◌⊎◌, inl, inr, List, length, nat_eq, nat_lt, sym, ap, arith}
use Rattle.std.proofs.Math.ListN.{get_or}
use Rattle.std.proofs.lemmas.Bool.{cases_eq, cases_lt, lt-ltb, le-ltb, eq-eqb, ne_eqb}
use Rattle.tdf_cluster_net.proofs.Edges.{number_once}
use Rattle.tdf_cluster_net.specs.Numbers.{AreNumbers, AreSpread}
use Rattle.tdf_graph.proofs.Api.{stands_below}

module _ (numbers : List ℕ) (count : ℕ) (IsMeant : ℕ → Type 0) (are : AreNumbers count IsMeant numbers) where
  pub number_most : (i j : ℕ) → i < length numbers → j < length numbers → j ≤ i → get_or numbers j 0 ≤ get_or numbers i 0
  number_most i j i_in j_in most = go (cases_eq j i)
    where
      go : (j ≡ i) ⊎ (j ≡ i → ⊥) → get_or numbers j 0 ≤ get_or numbers i 0
      go (inl same) = let e = ap (λ n. get_or numbers n 0) same in omega (arith, e)
      go (inr other) = let r = are.rising j i (omega (arith, most, other)) i_in in omega (arith, r)

  pub number_lt : (i j : ℕ) → i < length numbers → j < length numbers → nat_lt (get_or numbers i 0) (get_or numbers j 0) ≡ nat_lt i j
  number_lt i j i_in j_in = go (cases_lt i j)
    where
      go : (i < j) ⊎ (j ≤ i) → nat_lt (get_or numbers i 0) (get_or numbers j 0) ≡ nat_lt i j
      go (inl less) = lt-ltb (get_or numbers i 0) (get_or numbers j 0) (are.rising i j less j_in) ∙ sym (lt-ltb i j less)
      go (inr most) = le-ltb (get_or numbers i 0) (get_or numbers j 0) (number_most i j i_in j_in most) ∙ sym (le-ltb i j most)

  pub number_eq : (i j : ℕ) → i < length numbers → j < length numbers → nat_eq (get_or numbers i 0) (get_or numbers j 0) ≡ nat_eq i j
  number_eq i j i_in j_in = go (cases_eq i j)
    where
      go : (i ≡ j) ⊎ (i ≡ j → ⊥) → nat_eq (get_or numbers i 0) (get_or numbers j 0) ≡ nat_eq i j
      go (inl same) = eq-eqb (get_or numbers i 0) (get_or numbers j 0) (ap (λ n. get_or numbers n 0) same) ∙ sym (eq-eqb i j same)
      go (inr other) = ne_eqb (get_or numbers i 0) (get_or numbers j 0) (λ e. other (number_once numbers count IsMeant are i j i_in j_in e)) ∙ sym (ne_eqb i j other)

-- what isn't 0 stands at one of the numbers
pub spread_at : (numbers : List ℕ) (count : ℕ) (values all : List ℕ) → AreSpread numbers count values all
    → (m : ℕ) → 0 < get_or all m 0 → (i : ℕ) × (i < length numbers) × (get_or numbers i 0 ≡ m)
spread_at numbers count values all spread m some = go (stands_below numbers m (length numbers))
  where
    go : ((i : ℕ) × (i < length numbers) × (get_or numbers i 0 ≡ m)) ⊎ ((i : ℕ) → i < length numbers → get_or numbers i 0 ≢ m)
        → (i : ℕ) × (i < length numbers) × (get_or numbers i 0 ≡ m)
    go (inl found) = found
    go (inr none) = absurd (let e = spread.elsewhere m none in omega (arith, e, some))
