-- Counts of two parts, multiplied so that an edge between them is balanced.
use Rattle.std.proofs.Common.{◌≡◌, ◌∙◌, ℕ, ◌*◌, ◌<◌, ◌≤◌, List, [], ◌∷◌, ◌++◌, length, zero, suc, refl, sym, ap, subst, arith, inl, inr, ◌⊎◌, nat_eq, cond}
use Rattle.std.proofs.Math.ListN.{get_or}
use Rattle.std.proofs.lemmas.Bool.{cases_eq, cases_lt, eq-eqb, ne_eqb}
use Rattle.std.proofs.lemmas.List.{get_or_default, get_or_past}
use Rattle.std.proofs.lemmas.List.Elements.{All-append}
use Rattle.std.specs.Int.{IsGcd}
use Rattle.tdf_balance.proofs.Steps.{merged_least, unsolvable_inside, balanced_inside}
use Rattle.tdf_balance.specs.Balance.{IsUnsolvable, IsTooLarge}
use Rattle.tdf_balance.specs.views.Scaled.{IsScaled, HasGreat}
use Rattle.tdf_balance.specs.views.Solution.{AreLeast, count_at}
use Rattle.tdf_base.specs.Limits.{most_firings}
use Rattle.tdf_graph.proofs.Api.{labels_next, labels_same}
use Rattle.tdf_graph.specs.Counts.{IsLeast}
use Rattle.tdf_graph.specs.Parts.{Merges}
use Rattle.tdf_graph.specs.Ranges.{IsEdge}
use Rattle.tdf_graph.specs.declared.actors.Edge.{Edge}

module _ (count : ℕ) (edges : List Edge) (labels counts : List ℕ) (e : Edge) (are : AreLeast count edges labels counts) (here : IsEdge count e)
    (first second f g c written read : ℕ) (first_is : first ≡ get_or labels e.writer 0) (second_is : second ≡ get_or labels e.reader 0)
    (apart : get_or labels e.writer 0 ≡ get_or labels e.reader 0 → ⊥)
    (written_is : written ≡ get_or counts e.writer 0 * e.write_rate) (read_is : read ≡ get_or counts e.reader 0 * e.read_rate)
    (is_gcd : IsGcd written read c) (f_is : f * c ≡ read) (g_is : g * c ≡ written) (f_some : 0 < f) (g_some : 0 < g) (c_some : 0 < c) where
  abbrev p : ℕ → ℕ
  p = count_at counts

  p_is : (a : ℕ) → a < count → get_or counts a 0 ≡ p a
  p_is a within = get_or_default counts a 0 1 (subst (λ n. a < n) (sym are.long) within)

  w_is : written ≡ p e.writer * e.write_rate
  w_is = written_is ∙ ap (λ n. n * e.write_rate) (p_is e.writer here.writer)

  r_is : read ≡ p e.reader * e.read_rate
  r_is = read_is ∙ ap (λ n. n * e.read_rate) (p_is e.reader here.reader)

  gcd_is : IsGcd (p e.writer * e.write_rate) (p e.reader * e.read_rate) c
  gcd_is = subst (λ n. IsGcd n (p e.reader * e.read_rate) c) w_is (subst (λ n. IsGcd written n c) r_is is_gcd)

  scaled_least : (q : ℕ → ℕ) → ((a : ℕ) → 0 < q a)
      → ((a : ℕ) → a < count → get_or labels a 0 ≡ get_or labels e.writer 0 → q a ≡ p a * f)
      → ((a : ℕ) → a < count → get_or labels a 0 ≡ get_or labels e.reader 0 → q a ≡ p a * g)
      → ((a : ℕ) → a < count → (get_or labels a 0 ≡ get_or labels e.writer 0 → ⊥) → (get_or labels a 0 ≡ get_or labels e.reader 0 → ⊥) → q a ≡ p a)
      → (a : ℕ) → a < count → IsLeast (edges ++ e ∷ []) a q
  scaled_least q positive at_first at_second at_other = merged_least count edges labels counts e are here f g c f_some g_some c_some gcd_is (f_is ∙ r_is) (g_is ∙ w_is) q positive at_first at_second at_other

  -- the least counts as a function, also where one of them is too great to be kept
  abbrev scaled : ℕ → ℕ
  scaled a = cond (nat_eq (get_or labels a 0) (get_or labels e.writer 0)) (p a * f) (cond (nat_eq (get_or labels a 0) (get_or labels e.reader 0)) (p a * g) (p a))

  scaled_first : (a : ℕ) → get_or labels a 0 ≡ get_or labels e.writer 0 → scaled a ≡ p a * f
  scaled_first a is = rw (eq-eqb _ _ is) refl

  scaled_second : (a : ℕ) → get_or labels a 0 ≡ get_or labels e.reader 0 → scaled a ≡ p a * g
  scaled_second a is = rw (ne_eqb (get_or labels a 0) (get_or labels e.writer 0) (λ h. apart (sym h ∙ is)), eq-eqb _ _ is) refl

  scaled_other : (a : ℕ) → (get_or labels a 0 ≡ get_or labels e.writer 0 → ⊥) → (get_or labels a 0 ≡ get_or labels e.reader 0 → ⊥) → scaled a ≡ p a
  scaled_other a not_first not_second = rw (ne_eqb (get_or labels a 0) (get_or labels e.writer 0) not_first, ne_eqb (get_or labels a 0) (get_or labels e.reader 0) not_second) refl

  p_some : (a : ℕ) → 0 < p a
  p_some = (are.least e.writer here.writer).solves.positive

  times_some : (m n : ℕ) → 0 < m → 0 < n → 0 < m * n
  times_some m n m_some n_some = grind (arith, m_some, n_some)

  scaled_some : (a : ℕ) → 0 < scaled a
  scaled_some a = go (cases_eq (get_or labels a 0) (get_or labels e.writer 0)) (cases_eq (get_or labels a 0) (get_or labels e.reader 0))
    where
      go : (get_or labels a 0 ≡ get_or labels e.writer 0) ⊎ (get_or labels a 0 ≡ get_or labels e.writer 0 → ⊥)
          → (get_or labels a 0 ≡ get_or labels e.reader 0) ⊎ (get_or labels a 0 ≡ get_or labels e.reader 0 → ⊥) → 0 < scaled a
      go (inl is) other = subst (λ n. 0 < n) (sym (scaled_first a is)) (times_some (p a) f (p_some a) f_some)
      go (inr not) (inl is) = subst (λ n. 0 < n) (sym (scaled_second a is)) (times_some (p a) g (p_some a) g_some)
      go (inr not) (inr not_second) = subst (λ n. 0 < n) (sym (scaled_other a not not_second)) (p_some a)

  too_large : (a : ℕ) → a < count → most_firings < scaled a → IsTooLarge (edges ++ e ∷ [])
  too_large a within above = record {
    actor = a;
    counts = scaled;
    least = scaled_least scaled scaled_some (λ b _ is. scaled_first b is) (λ b _ is. scaled_second b is) (λ b _ not not_second. scaled_other b not not_second) a within;
    above = above;
  }

  pub large_first : HasGreat labels first f counts → IsTooLarge (edges ++ e ∷ [])
  large_first great = too_large great.actor within
      (subst (λ n. most_firings < n) (ap (λ n. n * f) (p_is great.actor within) ∙ sym (scaled_first great.actor (great.there ∙ first_is))) great.above)
    where
      within : great.actor < count
      within = subst (λ n. great.actor < n) are.parts.long great.within

  pub large_second : (next : List ℕ) → IsScaled labels first f counts next → HasGreat labels second g next → IsTooLarge (edges ++ e ∷ [])
  large_second next one great = too_large great.actor within
      (subst (λ n. most_firings < n)
      (ap (λ n. n * g) (one.outside great.actor (λ h. apart (sym (h ∙ first_is) ∙ is)) ∙ p_is great.actor within) ∙ sym (scaled_second great.actor is)) great.above)
    where
      within : great.actor < count
      within = subst (λ n. great.actor < n) are.parts.long great.within

      is : get_or labels great.actor 0 ≡ get_or labels e.reader 0
      is = great.there ∙ second_is

  pub merged : (next last new : List ℕ) → IsScaled labels first f counts next → IsScaled labels second g next last → Merges first second labels new
      → AreLeast count (edges ++ e ∷ []) new last
  merged next last new one other merges = record {
    fit = All-append (IsEdge count) edges (e ∷ []) are.fit (λ k d less. only k d less);
    parts = labels_next count edges labels new e first second are.fit here are.parts first_is second_is merges;
    long = long;
    few = other.few;
    least = scaled_least (count_at last) positive at_first at_second at_other;
  }
    where
      only : (k : ℕ) (d : Edge) → k < 1 → IsEdge count (get_or (e ∷ []) k d)
      only zero d less = here
      only (suc k) d less = absurd (omega (arith, less))

      long : length last ≡ count
      long = other.long ∙ one.long ∙ are.long

      at : (a : ℕ) → a < count → count_at last a ≡ get_or last a 0
      at a within = sym (get_or_default last a 0 1 (subst (λ n. a < n) (sym long) within))

      inside : (a : ℕ) → a < count → a < length labels
      inside a within = subst (λ n. a < n) (sym are.parts.long) within

      at_first : (a : ℕ) → a < count → get_or labels a 0 ≡ get_or labels e.writer 0 → count_at last a ≡ p a * f
      at_first a within is =
          at a within ∙ other.outside a (λ h. apart (sym is ∙ h ∙ second_is)) ∙ one.inside a (inside a within) (is ∙ sym first_is) ∙ ap (λ n. n * f) (p_is a within)

      at_second : (a : ℕ) → a < count → get_or labels a 0 ≡ get_or labels e.reader 0 → count_at last a ≡ p a * g
      at_second a within is =
          at a within ∙ other.inside a (inside a within) (is ∙ sym second_is) ∙ ap (λ n. n * g) (one.outside a (λ h. apart (sym (h ∙ first_is) ∙ is)) ∙ p_is a within)

      at_other : (a : ℕ) → a < count → (get_or labels a 0 ≡ get_or labels e.writer 0 → ⊥) → (get_or labels a 0 ≡ get_or labels e.reader 0 → ⊥) → count_at last a ≡ p a
      at_other a within not not_second = at a within ∙ other.outside a (λ h. not_second (h ∙ second_is)) ∙ one.outside a (λ h. not (h ∙ first_is)) ∙ p_is a within

      positive : (a : ℕ) → 0 < count_at last a
      positive a = go (cases_lt a count) (cases_eq (get_or labels a 0) (get_or labels e.writer 0)) (cases_eq (get_or labels a 0) (get_or labels e.reader 0))
        where
          go : (a < count) ⊎ (count ≤ a) → (get_or labels a 0 ≡ get_or labels e.writer 0) ⊎ (get_or labels a 0 ≡ get_or labels e.writer 0 → ⊥)
              → (get_or labels a 0 ≡ get_or labels e.reader 0) ⊎ (get_or labels a 0 ≡ get_or labels e.reader 0 → ⊥) → 0 < count_at last a
          go (inl within) (inl is) third = subst (λ n. 0 < n) (sym (at_first a within is)) (times_some (p a) f (p_some a) f_some)
          go (inl within) (inr not) (inl is) = subst (λ n. 0 < n) (sym (at_second a within is)) (times_some (p a) g (p_some a) g_some)
          go (inl within) (inr not) (inr not_second) = subst (λ n. 0 < n) (sym (at_other a within not not_second)) (p_some a)
          go (inr past) second third = let one_is = get_or_past last a 1 (subst (λ n. n ≤ a) (sym long) past) in omega (arith, one_is)

-- the numbers that the code compares
module _ (count : ℕ) (edges : List Edge) (labels counts : List ℕ) (e : Edge) (are : AreLeast count edges labels counts) (here : IsEdge count e)
    (x y W R : ℕ) (x_is : x ≡ get_or counts e.writer x) (y_is : y ≡ get_or counts e.reader y) (W_is : W ≡ e.write_rate) (R_is : R ≡ e.read_rate) where
  x_count : x ≡ count_at counts e.writer
  x_count = x_is ∙ get_or_default counts e.writer x 1 (subst (λ n. e.writer < n) (sym are.long) here.writer)

  y_count : y ≡ count_at counts e.reader
  y_count = y_is ∙ get_or_default counts e.reader y 1 (subst (λ n. e.reader < n) (sym are.long) here.reader)

  positive : (a : ℕ) → 0 < count_at counts a
  positive = (are.least e.writer here.writer).solves.positive

  product : (m n : ℕ) → 0 < m → 1 ≤ n → 0 < m * n
  product m n m_some n_some = grind (arith, m_some, n_some)

  pub both_some : (0 < x * W) × (0 < y * R)
  both_some = (
    product x W (subst (λ n. 0 < n) (sym x_count) (positive e.writer)) (subst (λ n. 1 ≤ n) (sym W_is) here.writes.some),
    product y R (subst (λ n. 0 < n) (sym y_count) (positive e.reader)) (subst (λ n. 1 ≤ n) (sym R_is) here.reads.some),
  )

  same_sides : (x * W ≡ count_at counts e.writer * e.write_rate) × (y * R ≡ count_at counts e.reader * e.read_rate)
  same_sides = (ap (λ n. n * W) x_count ∙ ap (λ n. count_at counts e.writer * n) W_is, ap (λ n. n * R) y_count ∙ ap (λ n. count_at counts e.reader * n) R_is)

  pub unsolvable_edge : get_or labels e.writer 0 ≡ get_or labels e.reader 0 → (x * W ≡ y * R → ⊥) → IsUnsolvable (edges ++ e ∷ [])
  unsolvable_edge same wrong = unsolvable_inside count edges labels counts e are here same (λ right. wrong (same_sides.0 ∙ right ∙ sym same_sides.1))

  pub balanced_edge : get_or labels e.writer 0 ≡ get_or labels e.reader 0 → x * W ≡ y * R → AreLeast count (edges ++ e ∷ []) labels counts
  balanced_edge same right = balanced_inside count edges labels counts e are here same
      (All-append (IsEdge count) edges (e ∷ []) are.fit (λ k d less. only k d less))
      (labels_same count edges labels e are.parts same) (sym same_sides.0 ∙ right ∙ same_sides.1)
    where
      only : (k : ℕ) (d : Edge) → k < 1 → IsEdge count (get_or (e ∷ []) k d)
      only zero d less = here
      only (suc k) d less = absurd (omega (arith, less))
