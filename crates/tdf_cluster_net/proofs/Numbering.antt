-- Rising numbers, one thing more.
use Rattle.std.proofs.Common.{◌≡◌, ◌∙◌, ℕ, ◌+◌, ◌<◌, ◌≤◌, ◌⊎◌, inl, inr, List, [], ◌∷◌, ◌++◌, length, refl, sym, subst, arith}
use Rattle.std.proofs.Math.ListN.{get_or}
use Rattle.std.proofs.lemmas.Bool.{cases_eq, cases_lt}
use Rattle.std.proofs.lemmas.List.{length_push, get_or_push, get_or_append_left}
use Rattle.tdf_cluster_net.specs.Numbers.{AreNumbers, IsAmong}

pub numbers_none : (IsMeant : ℕ → Type 0) → AreNumbers 0 IsMeant []
numbers_none IsMeant = record {
  within = λ i less. absurd (omega (arith, less));
  rising = λ i j less inside. absurd (omega (arith, inside));
  meant = λ i less. absurd (omega (arith, less));
  all = λ m less is. absurd (omega (arith, less));
}

pub numbers_passed : (IsMeant : ℕ → Type 0) (k : ℕ) (numbers : List ℕ) → (IsMeant k → ⊥) → AreNumbers k IsMeant numbers → AreNumbers (k + 1) IsMeant numbers
numbers_passed IsMeant k numbers other are = record {
  within = λ i less. let w = are.within i less in omega (arith, w);
  rising = are.rising;
  meant = are.meant;
  all = λ m less is. go m less is (cases_eq m k);
}
  where
    go : (m : ℕ) → m < k + 1 → IsMeant m → (m ≡ k) ⊎ (m ≡ k → ⊥) → IsAmong numbers m
    go m less is (inl same) = absurd (other (subst IsMeant same is))
    go m less is (inr apart) = are.all m (omega (arith, less, apart)) is

pub numbers_pushed : (IsMeant : ℕ → Type 0) (k : ℕ) (numbers : List ℕ) → IsMeant k → AreNumbers k IsMeant numbers → AreNumbers (k + 1) IsMeant (numbers ++ k ∷ [])
numbers_pushed IsMeant k numbers is are = record {
  within = λ i less. by_end (λ n. n < k + 1) i less (λ inside. let w = are.within i inside in omega (arith, w)) (omega arith);
  rising = λ i j less inside. later i j less inside (cases_lt j (length numbers));
  meant = λ i less. by_end IsMeant i less (λ inside. are.meant i inside) is;
  all = λ m less meant. there m less meant (cases_eq m k);
}
  where
    long : length (numbers ++ k ∷ []) ≡ length numbers + 1
    long = length_push numbers k

    here : (i : ℕ) → i < length numbers → get_or (numbers ++ k ∷ []) i 0 ≡ get_or numbers i 0
    here i inside = get_or_append_left numbers (k ∷ []) 0 i inside

    last : (i : ℕ) → length numbers ≡ i → get_or (numbers ++ k ∷ []) i 0 ≡ k
    last i same = get_or_push numbers k 0 i same

    by_end : (P : ℕ → Type 0) (i : ℕ) → i < length (numbers ++ k ∷ []) → (i < length numbers → P (get_or numbers i 0)) → P k → P (get_or (numbers ++ k ∷ []) i 0)
    by_end P i less before at_end = go (cases_lt i (length numbers))
      where
        go : (i < length numbers) ⊎ (length numbers ≤ i) → P (get_or (numbers ++ k ∷ []) i 0)
        go (inl inside) = subst P (sym (here i inside)) (before inside)
        go (inr past) = subst P (sym (last i (let l = long in omega (arith, less, past, l)))) at_end

    later : (i j : ℕ) → i < j → j < length (numbers ++ k ∷ []) → (j < length numbers) ⊎ (length numbers ≤ j) → get_or (numbers ++ k ∷ []) i 0 < get_or (numbers ++ k ∷ []) j 0
    later i j less inside (inl within) =
        let a = here i (omega (arith, less, within)) in
        let b = here j within in
        let r = are.rising i j less within in
        omega (arith, a, b, r)
    later i j less inside (inr past) =
        let l = long in
        let within : i < length numbers = omega (arith, less, inside, l) in
        let a = here i within in
        let b = last j (omega (arith, inside, past, l)) in
        let w = are.within i within in
        omega (arith, a, b, w)

    there : (m : ℕ) → m < k + 1 → IsMeant m → (m ≡ k) ⊎ (m ≡ k → ⊥) → IsAmong (numbers ++ k ∷ []) m
    there m less meant (inl same) = (length numbers, (let l = long in omega (arith, l)), last (length numbers) refl ∙ sym same)
    there m less meant (inr apart) =
        let t : (i : ℕ) × (i < length numbers) × (get_or numbers i 0 ≡ m) = are.all m (omega (arith, less, apart)) meant in
        let inside = t.1 in
        let l = long in
        (t.0, omega (arith, inside, l), here t.0 inside ∙ t.2)
