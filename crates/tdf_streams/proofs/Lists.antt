-- The items of lists that are cut, joined and made.
use Rattle.std.proofs.Common.{◌≡◌, ◌≢◌, ℕ, zero, suc, ◌+◌, ◌-◌, ◌<◌, ◌≤◌, Some, None, List, [], ◌∷◌, ◌++◌, length, map, drop, set, slice_get, slice_index, refl, ap, sym, ◌∙◌, arith}
use Rattle.std.specs.List.{range_with_len}
use Rattle.tdf_streams.proofs.Steps.{none_some}

pub get_drop : {A : Type 0} (n : ℕ) (xs : List A) (j : ℕ) → slice_get (drop n xs) j ≡ slice_get xs (n + j)
get_drop zero xs j = let z : 0 + j ≡ j = omega arith in ap (slice_get xs) (sym z)
get_drop (suc n) [] j = refl
get_drop (suc n) (x ∷ xs) j = let z : suc n + j ≡ suc (n + j) = omega arith in get_drop n xs j ∙ ap (slice_get (x ∷ xs)) (sym z)

pub get_low : {A : Type 0} (xs ys : List A) (j : ℕ) → j < length xs → slice_get (xs ++ ys) j ≡ slice_get xs j
get_low [] ys j low = absurd (omega (arith, low))
get_low (x ∷ xs) ys zero low = refl
get_low (x ∷ xs) ys (suc j) low = get_low xs ys j (omega (arith, low))

pub get_high : {A : Type 0} (xs ys : List A) (j : ℕ) → length xs ≤ j → slice_get (xs ++ ys) j ≡ slice_get ys (j - length xs)
get_high [] ys j high = let z : j ≡ j - 0 = omega arith in ap (slice_get ys) z
get_high (x ∷ xs) ys zero high = absurd (omega (arith, high))
get_high (x ∷ xs) ys (suc j) high = let z : j - length xs ≡ suc j - suc (length xs) = omega arith in get_high xs ys j (omega (arith, high)) ∙ ap (slice_get ys) z

pub some_same : {A : Type 0} (a b : A) → Some a ≡ Some b → a ≡ b
some_same {A = A} a b h = ap (λ o. elim o as (λ _. A) [ None ↦ a | Some c ↦ c ]) h

pub get_made : {A : Type 0} (f : ℕ → A) (a n j : ℕ) (x : A) → slice_get (map f (range_with_len a n)) j ≡ Some x → (j < n) × (f (a + j) ≡ x)
get_made f a zero j x at = none_some x at
get_made f a (suc n) zero x at = let z : a + 0 ≡ a = omega arith in (omega arith, ap f z ∙ some_same _ _ at)
get_made f a (suc n) (suc j) x at = let r = get_made f (a + 1) n j x at in let z : a + suc j ≡ a + 1 + j = omega arith in (omega (arith, r.0), ap f z ∙ r.1)

pub same_items : {A : Type 0} (xs ys : List A) → length xs ≡ length ys → ((j : ℕ) (x y : A) → slice_get xs j ≡ Some x → slice_get ys j ≡ Some y → x ≡ y) → xs ≡ ys
same_items [] [] long same = refl
same_items [] (y ∷ ys) long same = absurd (omega (arith, long))
same_items (x ∷ xs) [] long same = absurd (omega (arith, long))
same_items (x ∷ xs) (y ∷ ys) long same = rw (same 0 x y refl refl, same_items xs ys (omega (arith, long)) (λ j a b at there. same (suc j) a b at there)) refl

pub get_set_same : {A : Type 0} (xs : List A) (i : ℕ) (x : A) → i < length xs → slice_get (set xs i x) i ≡ Some x
get_set_same [] i x inside = absurd (omega (arith, inside))
get_set_same (y ∷ ys) zero x inside = refl
get_set_same (y ∷ ys) (suc i) x inside = get_set_same ys i x (omega (arith, inside))

pub get_set_other : {A : Type 0} (xs : List A) (i j : ℕ) (x : A) → j ≢ i → slice_get (set xs i x) j ≡ slice_get xs j
get_set_other [] i j x apart = refl
get_set_other (y ∷ ys) zero zero x apart = absurd (apart refl)
get_set_other (y ∷ ys) zero (suc j) x apart = refl
get_set_other (y ∷ ys) (suc i) zero x apart = refl
get_set_other (y ∷ ys) (suc i) (suc j) x apart = get_set_other ys i j x (λ e. apart (ap suc e))

pub get_made_at : {A : Type 0} (f : ℕ → A) (a n j : ℕ) → j < n → slice_get (map f (range_with_len a n)) j ≡ Some (f (a + j))
get_made_at f a zero j inside = absurd (omega (arith, inside))
get_made_at f a (suc n) zero inside = let z : a ≡ a + 0 = omega arith in ap (λ k. Some (f k)) z
get_made_at f a (suc n) (suc j) inside = let z : a + 1 + j ≡ a + suc j = omega arith in get_made_at f (a + 1) n j (omega (arith, inside)) ∙ ap (λ k. Some (f k)) z

pub get_inside : {A : Type 0} (xs : List A) (i : ℕ) → i < length xs → (x : A) × (slice_get xs i ≡ Some x)
get_inside [] i inside = absurd (omega (arith, inside))
get_inside (x ∷ xs) zero inside = (x, refl)
get_inside (x ∷ xs) (suc i) inside = get_inside xs i (omega (arith, inside))

pub index_inside : (xs : List ℕ) (i n : ℕ) → n < slice_index xs i → i < length xs
index_inside [] i n less = absurd (omega (arith, less))
index_inside (x ∷ xs) zero n less = omega arith
index_inside (x ∷ xs) (suc i) n less = let r = index_inside xs i n less in omega (arith, r)

-- as many zeros as a list is long
unfoldable pub zeros : {A : Type 0} → List A → List ℕ
zeros [] = []
zeros (x ∷ xs) = 0 ∷ zeros xs

pub zeros_long : {A : Type 0} (xs : List A) → length (zeros xs) ≡ length xs
unfolding zeros
zeros_long [] = refl
zeros_long (x ∷ xs) = ap suc (zeros_long xs)

pub zeros_at : {A : Type 0} (xs : List A) (i : ℕ) → slice_index (zeros xs) i ≡ 0
unfolding zeros
zeros_at [] i = refl
zeros_at (x ∷ xs) zero = refl
zeros_at (x ∷ xs) (suc i) = zeros_at xs i

-- the list with number x at place i, and with zeros before that where it is too short
unfoldable pub placed : List ℕ → ℕ → ℕ → List ℕ
placed [] zero x = x ∷ []
placed [] (suc i) x = 0 ∷ placed [] i x
placed (y ∷ ys) zero x = x ∷ ys
placed (y ∷ ys) (suc i) x = y ∷ placed ys i x

pub placed_same : (xs : List ℕ) (i x : ℕ) → slice_index (placed xs i x) i ≡ x
unfolding placed
placed_same [] zero x = refl
placed_same [] (suc i) x = placed_same [] i x
placed_same (y ∷ ys) zero x = refl
placed_same (y ∷ ys) (suc i) x = placed_same ys i x

pub placed_other : (xs : List ℕ) (i j x : ℕ) → j ≢ i → slice_index (placed xs i x) j ≡ slice_index xs j
unfolding placed
placed_other [] zero zero x apart = absurd (apart refl)
placed_other [] zero (suc j) x apart = refl
placed_other [] (suc i) zero x apart = refl
placed_other [] (suc i) (suc j) x apart = placed_other [] i j x (λ e. apart (ap suc e))
placed_other (y ∷ ys) zero zero x apart = absurd (apart refl)
placed_other (y ∷ ys) zero (suc j) x apart = refl
placed_other (y ∷ ys) (suc i) zero x apart = refl
placed_other (y ∷ ys) (suc i) (suc j) x apart = placed_other ys i j x (λ e. apart (ap suc e))
