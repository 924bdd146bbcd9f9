-- Rows of lists, by number.
use Rattle.std.proofs.Common.{◌≡◌, ◌∙◌, ℕ, zero, suc, Bool, true, false, Option, Some, None, option_map, List, [], ◌∷◌, length, map, take, cond, refl, ap, sym, subst, arith, slice_get, slice_index}
use Rattle.std.proofs.lemmas.List.Sums.{sum_by-cons}
use Rattle.std.proofs.lemmas.Option.{get_or_from_slice_get, slice_get-get_or, slice_get-map, slice_get_within}
use Rattle.std.specs.List.{count_by}
use Rattle.std.specs.Prelude.{All}
use Rattle.tdf_streams.proofs.Api.{none_some, some_same}

pub all_at : {X : Type 0} (P : X → Type 0) (xs : List X) (j : ℕ) (x : X) → All P xs → slice_get xs j ≡ Some x → P x
all_at P xs j x all is = subst P (get_or_from_slice_get xs j x x is) (all j x (slice_get_within xs j x is))

pub all_of : {X : Type 0} (P : X → Type 0) (xs : List X) → ((j : ℕ) (x : X) → slice_get xs j ≡ Some x → P x) → All P xs
all_of P xs each j d below = each j _ (slice_get-get_or xs j d below)

pub index_map : {X : Type 0} (f : X → ℕ) (xs : List X) (j : ℕ) (x : X) → slice_get xs j ≡ Some x → slice_index (map f xs) j ≡ f x
index_map f xs j x is = get_or_from_slice_get (map f xs) j (f x) 0 (slice_get-map f xs j ∙ ap (option_map f) is)

pub map_some : {X Y : Type 0} (f : X → Y) (xs : List X) (j : ℕ) (y : Y) → slice_get (map f xs) j ≡ Some y → (x : X) × (slice_get xs j ≡ Some x) × (f x ≡ y)
map_some {X} f xs j y at = go (slice_get xs j) refl (sym (slice_get-map f xs j) ∙ at)
  where
    go : (o : Option X) → slice_get xs j ≡ o → option_map f o ≡ Some y → (x : X) × (slice_get xs j ≡ Some x) × (f x ≡ y)
    go None is none = none_some y none
    go (Some x) is some = (x, is, some_same (f x) y some)

pub map_twice : {X Y Z : Type 0} (f : X → Z) (g : Y → Z) (h : X → Y) (xs : List X) → ((j : ℕ) (x : X) → slice_get xs j ≡ Some x → f x ≡ g (h x)) → map f xs ≡ map g (map h xs)
map_twice f g h [] same = refl
map_twice f g h (x ∷ xs) same = rw (same 0 x refl, map_twice f g h xs (λ j y at. same (suc j) y at)) refl

pub false_true : {P : Type 0} → false ≡ true → P
false_true h = absurd (subst (λ b. elim b as (λ _. Type 0) [ true ↦ ⊥ | false ↦ Unit {0} ]) h tt)

-- lists of which the things are counted alike
pub count_alike : {X Y : Type 0} (p : X → Bool) (q : Y → Bool) (xs : List X) (ys : List Y) (n : ℕ) → length xs ≡ length ys
    → ((m : ℕ) (x : X) (y : Y) → slice_get xs m ≡ Some x → slice_get ys m ≡ Some y → p x ≡ q y) → count_by p (take n xs) ≡ count_by q (take n ys)
count_alike p q xs ys zero long same = refl
count_alike p q [] [] (suc n) long same = refl
count_alike p q [] (y ∷ ys) (suc n) long same = absurd (omega (arith, long))
count_alike p q (x ∷ xs) [] (suc n) long same = absurd (omega (arith, long))
count_alike p q (x ∷ xs) (y ∷ ys) (suc n) long same =
    let s = sum_by-cons (λ z. cond {A = ℕ} (p z) 1 0) x (take n xs) in
    let t = sum_by-cons (λ z. cond {A = ℕ} (q z) 1 0) y (take n ys) in
    let h : cond {A = ℕ} (p x) 1 0 ≡ cond {A = ℕ} (q y) 1 0 = ap (λ (b : Bool). cond {A = ℕ} b 1 0) (same 0 x y refl refl) in
    let r = count_alike p q xs ys n (omega (arith, long)) (λ m a b xat yat. same (suc m) a b xat yat) in
    omega (arith, s, t, h, r)
