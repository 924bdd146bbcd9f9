-- One firing more.
use Rattle.std.proofs.Common.{◌≡◌, ◌≢◌, ◌⊎◌, ◌∙◌, ℕ, zero, suc, ◌+◌, ◌<◌, ◌≤◌, List, [], ◌∷◌, if◌then◌else◌, length, take, replicate, nat_eq, refl, sym, ap, subst, inl, inr, arith}
use Rattle.std.proofs.Math.ListN.{get_or}
use Rattle.std.proofs.lemmas.Bool.{cases_lt, eq-eqb, ne_eqb}
use Rattle.std.proofs.lemmas.List.{get_or-set_other, get_or-set_same, get_or-replicate, length-set, length-replicate}
use Rattle.std.proofs.lemmas.List.Sums.{sum_by_more, count_by-le-length}
use Rattle.std.specs.Prelude.{slice_index, slice_set}
use Rattle.tdf_cluster_net.specs.Numbers.{Rise}
use Rattle.tdf_cluster_plans.specs.Counted.{AreCounted, firings_of}
use Rattle.tdf_cluster_plans.specs.machine.Counting.{HasOneMore}
use Rattle.tdf_schedule.specs.declared.entry.Entry.{Entry}

firings_few : (entries : List Entry) (m : ℕ) → firings_of entries m ≤ length entries
firings_few entries m = count_by-le-length (λ (entry : Entry). nat_eq entry.actor m) entries

-- nothing is counted yet
pub none_counted : (numbers : List ℕ) (entries : List Entry) (counts : List ℕ) → counts ≡ replicate (length numbers) 0 → AreCounted numbers (take 0 entries) counts
none_counted numbers entries counts is = record {
  long = ap length is ∙ length-replicate (length numbers) 0;
  each = λ i within. ap (λ (list : List ℕ). get_or list i 0) is ∙ get_or-replicate (length numbers) i 0 0 within ∙ sym (empty entries (slice_index numbers i));
}
  where
    empty : (list : List Entry) (m : ℕ) → firings_of (take 0 list) m ≡ 0
    empty [] m = refl
    empty (x ∷ list) m = refl

-- a count is at most the number of entries
pub counts_few : (numbers : List ℕ) (entries : List Entry) (counts : List ℕ) (i : ℕ) → AreCounted numbers entries counts → slice_index counts i ≤ length entries
counts_few numbers entries counts i are = elim (cases_lt i (length numbers)) [
  | inl within ↦ (let e = are.each i within in let few = firings_few entries (slice_index numbers i) in omega (arith, e, few))
  | inr past ↦ (let long = are.long in beyond counts i (omega (arith, past, long)))
]
  where
    beyond : (list : List ℕ) (k : ℕ) → length list ≤ k → slice_index list k ≤ length entries
    beyond [] k low = omega arith
    beyond (x ∷ list) zero low = absurd (omega (arith, low))
    beyond (x ∷ list) (suc k) low = beyond list k (omega (arith, low))

pub counts_next : (numbers : List ℕ) (entries : List Entry) (i : ℕ) (d : Entry) (counts new : List ℕ) → i < length entries → AreCounted numbers (take i entries) counts
    → HasOneMore numbers (get_or entries i d).actor counts new → AreCounted numbers (take (i + 1) entries) new
counts_next numbers entries i d counts new within are more = record {
  long = more.long ∙ are.long;
  each = λ k inside. more.each k inside ∙ ap (λ n. n + (if nat_eq (get_or entries i d).actor (slice_index numbers k) then 1 else 0)) (are.each k inside)
      ∙ sym (sum_by_more _ entries i d within);
}

-- the place of a number that rises is the only one that it has
module _ (numbers : List ℕ) (actor : ℕ) (counts new : List ℕ) (rising : Rise numbers) (long : length counts ≡ length numbers) where
  pub one_more : (place : ℕ) → place < length numbers → slice_index numbers place ≡ actor → new ≡ slice_set counts place (slice_index counts place + 1) → HasOneMore numbers actor counts new
  one_more place inside is new_is = subst (HasOneMore numbers actor counts) (sym new_is) (record {
    long = length-set counts place (slice_index counts place + 1);
    each = λ i less. each i less (cases_lt i place) (cases_lt place i);
  })
    where
      set : List ℕ
      set = slice_set counts place (slice_index counts place + 1)

      other : (i : ℕ) → (i ≡ place → ⊥) → (slice_index numbers i ≡ actor → ⊥)
          → slice_index (slice_set counts place (slice_index counts place + 1)) i ≡ slice_index counts i + (if nat_eq actor (slice_index numbers i) then 1 else 0)
      other i away apart =
          get_or-set_other counts place i (slice_index counts place + 1) 0 away ∙ sym (ap (λ b. slice_index counts i + (if b then 1 else 0)) (ne_eqb actor (slice_index numbers i) (λ e. apart (sym e))) ∙ omega arith)

      each : (i : ℕ) → i < length numbers → (i < place) ⊎ (place ≤ i) → (place < i) ⊎ (i ≤ place)
          → slice_index (slice_set counts place (slice_index counts place + 1)) i ≡ slice_index counts i + (if nat_eq actor (slice_index numbers i) then 1 else 0)
      each i less (inl before) q = other i (λ e. absurd (omega (arith, before, e))) (λ e. absurd (let r = rising i place before inside in omega (arith, r, e, is)))
      each i less (inr low) (inl after) = other i (λ e. absurd (omega (arith, after, e))) (λ e. absurd (let r = rising place i after less in omega (arith, r, e, is)))
      each i less (inr low) (inr high) =
          let same : place ≡ i = omega (arith, low, high) in
          subst (λ k. slice_index (slice_set counts place (slice_index counts place + 1)) k ≡ slice_index counts k + (if nat_eq actor (slice_index numbers k) then 1 else 0)) same
          (get_or-set_same counts place (slice_index counts place + 1) 0 (omega (arith, inside, long))
          ∙ ap (λ b. slice_index counts place + (if b then 1 else 0)) (sym (eq-eqb actor (slice_index numbers place) (sym is))))

  pub none_more : ((i : ℕ) → i < length numbers → slice_index numbers i ≢ actor) → new ≡ counts → HasOneMore numbers actor counts new
  none_more none new_is = subst (HasOneMore numbers actor counts) (sym new_is) (record {
    long = refl;
    each = λ i less. sym (ap (λ b. slice_index counts i + (if b then 1 else 0)) (ne_eqb actor (slice_index numbers i) (λ e. none i less (sym e))) ∙ omega arith);
  })
