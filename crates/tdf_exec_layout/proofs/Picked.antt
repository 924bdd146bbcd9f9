-- The things that are picked of a list, with their numbers.
use Rattle.std.proofs.Common.{◌≡◌, ◌∙◌, ℕ, zero, suc, ◌+◌, ◌≤◌, Option, Some, None, List, [], ◌∷◌, refl, ap, sym, arith, slice_get}
use Rattle.std.specs.List.{cons_option, enumerate_from}
use Rattle.std.specs.Prelude.{filter_map}
use Rattle.tdf_streams.proofs.Api.{none_some, some_same}

module _ {A B : Type 0} (f : ℕ → A → Option B) where
  abbrev pub picked : ℕ → List A → List B
  picked k xs = filter_map (λ p. f p.0 p.1) (enumerate_from k xs)

  -- what a thing was picked of
  pub record IsPicked (k : ℕ) (xs : List A) (y : B) : Type 0 where
    pub number : ℕ
    pub thing : A
    pub at : slice_get xs number ≡ Some thing
    pub gives : f (k + number) thing ≡ Some y

  later : (k : ℕ) (x : A) (xs : List A) (y : B) → IsPicked (k + 1) xs y → IsPicked k (x ∷ xs) y
  later k x xs y h = record {
    number = suc h.number;
    thing = h.thing;
    at = h.at;
    gives = let n : k + suc h.number ≡ k + 1 + h.number = omega arith in ap (λ m. f m h.thing) n ∙ h.gives;
  }

  pub sound : (k : ℕ) (xs : List A) (j : ℕ) (y : B) → slice_get (picked k xs) j ≡ Some y → IsPicked k xs y
  sound k [] j y at = none_some y at
  sound k (x ∷ xs) j y at = go (f k x) refl j at (λ i is. later k x xs y (sound (k + 1) xs i y is))
    where
      go : (o : Option B) → f k x ≡ o → (j : ℕ) → slice_get (cons_option o (picked (k + 1) xs)) j ≡ Some y → ((i : ℕ) → slice_get (picked (k + 1) xs) i ≡ Some y → IsPicked k (x ∷ xs) y) → IsPicked k (x ∷ xs) y
      go None is j at rest = rest j at
      go (Some z) is zero at rest = record { number = 0; thing = x; at = refl; gives = (let n : k + 0 ≡ k = omega arith in ap (λ m. f m x) n) ∙ is ∙ at }
      go (Some z) is (suc j) at rest = rest j at

  pub complete : (k : ℕ) (xs : List A) (n : ℕ) (x : A) (y : B) → slice_get xs n ≡ Some x → f (k + n) x ≡ Some y → (j : ℕ) × (slice_get (picked k xs) j ≡ Some y)
  complete k [] n x y at gives = none_some x at
  complete k (z ∷ xs) zero x y at gives = go (f k z) (sym ((let n : k + 0 ≡ k = omega arith in ap (λ m. f m z) n)) ∙ ap (f (k + 0)) (some_same z x at) ∙ gives)
    where
      go : (o : Option B) → o ≡ Some y → (j : ℕ) × (slice_get (cons_option o (picked (k + 1) xs)) j ≡ Some y)
      go None is = none_some y is
      go (Some w) is = (0, is)
  complete k (z ∷ xs) (suc n) x y at gives = go (f k z) (complete (k + 1) xs n x y at ((let m : k + 1 + n ≡ k + suc n = omega arith in ap (λ m. f m x) m) ∙ gives))
    where
      go : (o : Option B) → (j : ℕ) × (slice_get (picked (k + 1) xs) j ≡ Some y) → (j : ℕ) × (slice_get (cons_option o (picked (k + 1) xs)) j ≡ Some y)
      go None rest = rest
      go (Some w) rest = (suc rest.0, rest.1)

  -- where what is picked has the number of what it was picked of
  module _ (key : B → ℕ) (keyed : (n : ℕ) (x : A) (y : B) → f n x ≡ Some y → key y ≡ n) where
    pub at_least : (k : ℕ) (xs : List A) (j : ℕ) (y : B) → slice_get (picked k xs) j ≡ Some y → k ≤ key y
    at_least k xs j y at = let h = sound k xs j y at in let n = keyed (k + h.number) h.thing y h.gives in omega (arith, n)

    pub once : (k : ℕ) (xs : List A) (i j : ℕ) (v w : B) → slice_get (picked k xs) i ≡ Some v → slice_get (picked k xs) j ≡ Some w → key v ≡ key w → i ≡ j
    once k [] i j v w vi wj same = none_some v vi
    once k (x ∷ xs) i j v w vi wj same = go (f k x) refl i j vi wj (λ a b va wb. once (k + 1) xs a b v w va wb same)
      where
        go : (o : Option B) → f k x ≡ o → (i j : ℕ) → slice_get (cons_option o (picked (k + 1) xs)) i ≡ Some v → slice_get (cons_option o (picked (k + 1) xs)) j ≡ Some w
            → ((a b : ℕ) → slice_get (picked (k + 1) xs) a ≡ Some v → slice_get (picked (k + 1) xs) b ≡ Some w → a ≡ b) → i ≡ j
        go None is i j vi wj rest = rest i j vi wj
        go (Some z) is zero zero vi wj rest = refl
        go (Some z) is zero (suc j) vi wj rest = absurd (let a = keyed k x v (is ∙ vi) in let b = at_least (k + 1) xs j w wj in omega (arith, a, b, same))
        go (Some z) is (suc i) zero vi wj rest = absurd (let a = keyed k x w (is ∙ wj) in let b = at_least (k + 1) xs i v vi in omega (arith, a, b, same))
        go (Some z) is (suc i) (suc j) vi wj rest = ap suc (rest i j vi wj)
