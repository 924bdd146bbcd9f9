-- The numbers of parts, actor by actor.
use Rattle.std.proofs.Common.{◌≡◌, ◌≢◌, ◌∙◌, ℕ, ◌+◌, ◌<◌, ◌≤◌, List, [], ◌∷◌, ◌++◌, length, take, set, refl, sym, ap, subst, arith, inl, inr, ◌⊎◌, max}
use Rattle.std.proofs.Math.ListN.{get_or}
use Rattle.std.proofs.lemmas.Bool.{cases_eq}
use Rattle.std.proofs.lemmas.Grind.{get_or-set_at, get_or_default_zero}
use Rattle.std.proofs.lemmas.List.{length-set, length_push, get_or_push, take-append-le, get_or_append_left, get_or-set_other}
use Rattle.tdf_graph.proofs.Labels.{along}
use Rattle.tdf_graph.specs.Clusters.{greatest, AreClusters}
use Rattle.tdf_graph.specs.Parts.{AreLabels}
use Rattle.tdf_graph.specs.declared.actors.Edge.{Edge}
use Rattle.tdf_graph.specs.views.Numbering.{NumberedUpTo, IsNumbered}

greatest_push : (ns : List ℕ) (n : ℕ) → greatest (ns ++ n ∷ []) ≡ max (greatest ns) n
greatest_push [] n = omega arith
greatest_push (m ∷ ns) n = let e = greatest_push ns n in omega (arith, e)

pub take_whole : (ns : List ℕ) (n : ℕ) → length ns ≡ n → take n ns ≡ ns
take_whole ns n is = subst (λ m. take m ns ≡ ns) is (go ns)
  where
    go : (ns : List ℕ) → take (length ns) ns ≡ ns
    go [] = refl
    go (m ∷ ns) = ap (λ l. m ∷ l) (go ns)

module _ (n last : ℕ) (labels table numbers : List ℕ) (fine : NumberedUpTo n last labels table numbers) where
  old : (x a : ℕ) → a < n → get_or (numbers ++ x ∷ []) a 0 ≡ get_or numbers a 0
  old x a here = get_or_append_left numbers (x ∷ []) 0 a (subst (λ m. a < m) (sym fine.long) here)

  new : (x a : ℕ) → a ≡ n → get_or (numbers ++ x ∷ []) a 0 ≡ x
  new x a is = ap (λ m. get_or (numbers ++ x ∷ []) m 0) is ∙ get_or_push numbers x 0 n fine.long

  front : (x a : ℕ) → a ≤ n → take a (numbers ++ x ∷ []) ≡ take a numbers
  front x a here = take-append-le a numbers (x ∷ []) (subst (λ m. a ≤ m) (sym fine.long) here)

  old_first : (x a : ℕ) → a < n → ((b : ℕ) → b < a → get_or labels b 0 ≢ get_or labels a 0)
      → get_or (numbers ++ x ∷ []) a 0 ≡ greatest (take a (numbers ++ x ∷ [])) + 1
  old_first x a here none = old x a here ∙ fine.first a here none ∙ sym (ap (λ l. greatest l + 1) (front x a (omega (arith, here))))

  low : (a : ℕ) → a < n + 1 → (a ≡ n → ⊥) → a < n
  low a here other = omega (arith, here, other)

  -- an actor whose part has its number
  pub old_number : (x : ℕ) → x ≡ get_or table (get_or labels n 0) 0 → (x ≡ 0 → ⊥) → NumberedUpTo (n + 1) last labels table (numbers ++ x ∷ [])
  old_number x is some = record {
    long = length_push numbers x ∙ ap (λ m. m + 1) fine.long;
    same = fine.same;
    few = let f = fine.few in omega (arith, f);
    most = let g = greatest_push numbers x in let h = fine.most in let t = fine.top (get_or labels n 0) in omega (arith, g, h, t, is);
    given = λ a here. given a here (cases_eq a n);
    some = λ a here. positive a here (cases_eq a n);
    source = λ l p. let s = fine.source l p in (s.0, (let h = s.1 in omega (arith, h)), s.2);
    top = fine.top;
    apart = fine.apart;
    first = λ a here none. first a here none (cases_eq a n);
  }
    where
      given : (a : ℕ) → a < n + 1 → (a ≡ n) ⊎ (a ≡ n → ⊥) → get_or table (get_or labels a 0) 0 ≡ get_or (numbers ++ x ∷ []) a 0
      given a here (inl e) = ap (λ m. get_or table (get_or labels m 0) 0) e ∙ sym is ∙ sym (new x a e)
      given a here (inr other) = fine.given a (low a here other) ∙ sym (old x a (low a here other))

      positive : (a : ℕ) → a < n + 1 → (a ≡ n) ⊎ (a ≡ n → ⊥) → 0 < get_or (numbers ++ x ∷ []) a 0
      positive a here (inl e) = let p = new x a e in omega (arith, p, some)
      positive a here (inr other) = let p = old x a (low a here other) in let q = fine.some a (low a here other) in omega (arith, p, q)

      first : (a : ℕ) → a < n + 1 → ((b : ℕ) → b < a → get_or labels b 0 ≢ get_or labels a 0) → (a ≡ n) ⊎ (a ≡ n → ⊥)
          → get_or (numbers ++ x ∷ []) a 0 ≡ greatest (take a (numbers ++ x ∷ [])) + 1
      first a here none (inl e) =
          let s = fine.source (get_or labels n 0) (omega (arith, is, some)) in
          absurd (none s.0 (subst (λ m. s.0 < m) (sym e) s.1) (s.2 ∙ sym (ap (λ m. get_or labels m 0) e)))
      first a here none (inr other) = old_first x a (low a here other) none

  -- the first actor of its part
  pub new_number : get_or labels n 0 < length labels → get_or table (get_or labels n 0) 0 ≡ 0
      → NumberedUpTo (n + 1) (last + 1) labels (set table (get_or labels n 0) (last + 1)) (numbers ++ (last + 1) ∷ [])
  new_number small none_yet = record {
    long = length_push numbers x ∙ ap (λ m. m + 1) fine.long;
    same = length-set table k x ∙ fine.same;
    few = let f = fine.few in omega (arith, f);
    most = let g = greatest_push numbers x in let h = fine.most in omega (arith, g, h);
    given = λ a here. given a here (cases_eq a n);
    some = λ a here. positive a here (cases_eq a n);
    source = λ l p. source l p (cases_eq l k);
    top = λ l. top l (cases_eq l k);
    apart = λ l m p e. apart l m p e (cases_eq l k) (cases_eq m k);
    first = λ a here none. first a here none (cases_eq a n);
  }
    where
      x : ℕ
      x = last + 1

      k : ℕ
      k = get_or labels n 0

      k_in : k < length table
      k_in = subst (λ m. k < m) (sym fine.same) small

      other_at : (l : ℕ) → (l ≡ k → ⊥) → get_or (set table k x) l 0 ≡ get_or table l 0
      other_at l other = get_or-set_other table k l x 0 other

      here_at : (l : ℕ) → l ≡ k → get_or (set table k x) l 0 ≡ x
      here_at l is = get_or-set_at table k l x 0 is k_in

      before : (a : ℕ) → a < n → get_or labels a 0 ≡ k → ⊥
      before a here is =
          let g = fine.given a here in let s = fine.some a here in
          let e = ap (λ m. get_or table m 0) is in omega (arith, g, s, e, none_yet)

      given : (a : ℕ) → a < n + 1 → (a ≡ n) ⊎ (a ≡ n → ⊥) → get_or (set table k x) (get_or labels a 0) 0 ≡ get_or (numbers ++ x ∷ []) a 0
      given a here (inl e) = here_at (get_or labels a 0) (ap (λ m. get_or labels m 0) e) ∙ sym (new x a e)
      given a here (inr other) =
          other_at (get_or labels a 0) (before a (low a here other)) ∙ fine.given a (low a here other) ∙ sym (old x a (low a here other))

      positive : (a : ℕ) → a < n + 1 → (a ≡ n) ⊎ (a ≡ n → ⊥) → 0 < get_or (numbers ++ x ∷ []) a 0
      positive a here (inl e) = let p = new x a e in omega (arith, p)
      positive a here (inr other) = let p = old x a (low a here other) in let q = fine.some a (low a here other) in omega (arith, p, q)

      source : (l : ℕ) → 0 < get_or (set table k x) l 0 → (l ≡ k) ⊎ (l ≡ k → ⊥) → (a : ℕ) × (a < n + 1) × (get_or labels a 0 ≡ l)
      source l p (inl is) = (n, omega arith, sym is)
      source l p (inr other) =
          let s = fine.source l (subst (λ m. 0 < m) (other_at l other) p) in (s.0, (let h = s.1 in omega (arith, h)), s.2)

      top : (l : ℕ) → (l ≡ k) ⊎ (l ≡ k → ⊥) → get_or (set table k x) l 0 ≤ x
      top l (inl is) = let p = here_at l is in omega (arith, p)
      top l (inr other) = let p = other_at l other in let t = fine.top l in omega (arith, p, t)

      apart : (l m : ℕ) → 0 < get_or (set table k x) l 0 → get_or (set table k x) l 0 ≡ get_or (set table k x) m 0
          → (l ≡ k) ⊎ (l ≡ k → ⊥) → (m ≡ k) ⊎ (m ≡ k → ⊥) → l ≡ m
      apart l m p e (inl is) (inl is2) = is ∙ sym is2
      apart l m p e (inr other) (inr other2) =
          fine.apart l m (subst (λ i. 0 < i) (other_at l other) p) (sym (other_at l other) ∙ e ∙ other_at m other2)
      apart l m p e (inl is) (inr other) =
          let a = here_at l is in let b = other_at m other in let t = fine.top m in absurd (omega (arith, a, b, t, e))
      apart l m p e (inr other) (inl is) =
          let a = here_at m is in let b = other_at l other in let t = fine.top l in absurd (omega (arith, a, b, t, e))

      first : (a : ℕ) → a < n + 1 → ((b : ℕ) → b < a → get_or labels b 0 ≢ get_or labels a 0) → (a ≡ n) ⊎ (a ≡ n → ⊥)
          → get_or (numbers ++ x ∷ []) a 0 ≡ greatest (take a (numbers ++ x ∷ [])) + 1
      first a here none (inl e) =
          new x a e ∙ sym (ap (λ m. greatest (take m (numbers ++ x ∷ [])) + 1) e
          ∙ ap (λ l. greatest l + 1) (front x n (omega arith) ∙ take_whole numbers n fine.long) ∙ ap (λ m. m + 1) fine.most)
      first a here none (inr other) = old_first x a (low a here other) none

pub none_numbered : (count : ℕ) (labels table numbers : List ℕ) → length labels ≡ count → length table ≡ count → ((l : ℕ) → get_or table l 0 ≡ 0) → numbers ≡ []
    → NumberedUpTo 0 0 labels table numbers
none_numbered count labels table numbers long same zero none = record {
  long = ap length none;
  same = same ∙ sym long;
  few = omega arith;
  most = ap greatest none;
  given = λ a here. absurd (omega (arith, here));
  some = λ a here. absurd (omega (arith, here));
  source = λ l p. absurd (let z = zero l in omega (arith, p, z));
  top = λ l. let z = zero l in omega (arith, z);
  apart = λ l m p e. absurd (let z = zero l in omega (arith, p, z));
  first = λ a here. absurd (omega (arith, here));
}

pub all_numbered : (n last : ℕ) (labels table numbers : List ℕ) → length labels ≡ n → NumberedUpTo n last labels table numbers → IsNumbered labels numbers
all_numbered n last labels table numbers long fine = record {
  long = fine.long ∙ sym long;
  alike = λ a b a_in b_in same. sym (fine.given a (here a a_in)) ∙ ap (λ l. get_or table l 0) same ∙ fine.given b (here b b_in);
  apart = λ a b a_in b_in same. fine.apart (get_or labels a 0) (get_or labels b 0)
      (subst (λ m. 0 < m) (sym (fine.given a (here a a_in))) (fine.some a (here a a_in)))
      (fine.given a (here a a_in) ∙ same ∙ sym (fine.given b (here b b_in)));
  first = λ a a_in none. fine.first a (here a a_in) none;
}
  where
    here : (a : ℕ) → a < length labels → a < n
    here a a_in = subst (λ m. a < m) long a_in

pub are_clusters : (count : ℕ) (edges : List Edge) (labels numbers : List ℕ) → AreLabels count edges labels → IsNumbered labels numbers → AreClusters count edges numbers
are_clusters count edges labels numbers are is = record {
  long = is.long ∙ are.long;
  together = λ a b a_in b_in same. are.joined a b a_in b_in (is.apart a b (here a a_in) (here b b_in) same);
  joined = λ a b a_in b_in chain. is.alike a b (here a a_in) (here b b_in) (along edges labels are.ends chain);
  first = λ a a_in none. is.first a (here a a_in) (λ b less same. none b less (are.joined b a (omega (arith, less, a_in)) a_in same));
}
  where
    here : (a : ℕ) → a < count → a < length labels
    here a a_in = subst (λ m. a < m) (sym are.long) a_in

-- the same as the code meets it
pub old_next : (n last label number : ℕ) (labels table numbers new : List ℕ) → NumberedUpTo n last labels table numbers
    → label ≡ get_or labels n 0 → label < length labels → number ≡ get_or table label number → (number ≡ 0 → ⊥) → new ≡ numbers ++ number ∷ []
    → NumberedUpTo (n + 1) last labels table new
old_next n last label number labels table numbers new fine label_is small number_is some new_is =
    subst (NumberedUpTo (n + 1) last labels table) (sym new_is)
    (old_number n last labels table numbers fine number
    (number_is ∙ get_or_default_zero table label number (subst (λ m. label < m) (sym fine.same) small) ∙ ap (λ m. get_or table m 0) label_is) some)

pub new_next : (n last label number : ℕ) (labels table numbers new : List ℕ) → NumberedUpTo n last labels table numbers
    → label ≡ get_or labels n 0 → label < length labels → number ≡ get_or table label number → number ≡ 0 → new ≡ numbers ++ (last + 1) ∷ []
    → NumberedUpTo (n + 1) (last + 1) labels (set table label (last + 1)) new
new_next n last label number labels table numbers new fine label_is small number_is none new_is =
    subst (NumberedUpTo (n + 1) (last + 1) labels (set table label (last + 1))) (sym new_is)
    (subst (λ l. NumberedUpTo (n + 1) (last + 1) labels (set table l (last + 1)) (numbers ++ (last + 1) ∷ [])) (sym label_is)
    (new_number n last labels table numbers fine (subst (λ m. m < length labels) label_is small)
    (ap (λ m. get_or table m 0) (sym label_is) ∙ sym (get_or_default_zero table label number (subst (λ m. label < m) (sym fine.same) small)) ∙ sym number_is ∙ none)))
