-- Items of lists by their places.
use Rattle.std.proofs.Common.{◌≡◌, ℕ, zero, suc, ◌<◌, Option, Some, None, List, [], ◌∷◌, ◌++◌, length, map, drop, slice_get, slice_set, option_map, refl, ap, sym, ◌∙◌, inl, inr, arith}
use Rattle.std.proofs.lemmas.Bool.{cases_eq, cases_lt}
use Rattle.std.proofs.lemmas.Option.{slice_get-map, slice_get_within}

pub some_same : {A : Type 0} (a b : A) → Some a ≡ Some b → a ≡ b
some_same a b h = cc

pub get_some : {A : Type 0} (xs : List A) (i : ℕ) → i < length xs → (x : A) × (slice_get xs i ≡ Some x)
get_some [] i less = absurd (omega (arith, less))
get_some (x ∷ xs) zero less = (x, refl)
get_some (x ∷ xs) (suc i) less = get_some xs i (omega (arith, less))

pub get_first : {A : Type 0} (xs ys : List A) (i : ℕ) → i < length xs → slice_get (xs ++ ys) i ≡ slice_get xs i
get_first [] ys i less = absurd (omega (arith, less))
get_first (x ∷ xs) ys zero less = refl
get_first (x ∷ xs) ys (suc i) less = get_first xs ys i (omega (arith, less))

pub get_last : {A : Type 0} (xs : List A) (y : A) → slice_get (xs ++ y ∷ []) (length xs) ≡ Some y
get_last [] y = refl
get_last (x ∷ xs) y = get_last xs y

pub get_beyond : {A : Type 0} (xs : List A) (y : A) (i : ℕ) → length xs < i → slice_get (xs ++ y ∷ []) i ≡ None
get_beyond [] y zero less = absurd (omega (arith, less))
get_beyond [] y (suc i) less = refl
get_beyond (x ∷ xs) y zero less = absurd (omega (arith, less))
get_beyond (x ∷ xs) y (suc i) less = get_beyond xs y i (omega (arith, less))

-- an item of a list with one more is one of the list, or this one
pub data Pushed {A : Type 0} (xs : List A) (y : A) (i : ℕ) (x : A) : Type 0 where
  First : i < length xs → slice_get xs i ≡ Some x → Pushed xs y i x
  Last : i ≡ length xs → x ≡ y → Pushed xs y i x

pub pushed : {A : Type 0} (xs : List A) (y : A) (i : ℕ) (x : A) → slice_get (xs ++ y ∷ []) i ≡ Some x → Pushed xs y i x
pushed xs y i x at = elim (cases_lt i (length xs)) [
  | inl less ↦ First less (sym (get_first xs (y ∷ []) i less) ∙ at)
  | inr past ↦ elim (cases_eq i (length xs)) [
    | inl same ↦ Last same (some_same x y (sym at ∙ ap (slice_get (xs ++ y ∷ [])) same ∙ get_last xs y))
    | inr apart ↦ absurd (none_some x (sym (get_beyond xs y i (omega (arith, past, apart))) ∙ at))
  ]
]
  where
    none_some : {B : Type 0} (b : B) → None ≡ Some b → ⊥
    none_some b e = absurd (grind (arith, e))

pub set_here : {A : Type 0} (xs : List A) (i : ℕ) (x : A) → i < length xs → slice_get (slice_set xs i x) i ≡ Some x
set_here [] i x less = absurd (omega (arith, less))
set_here (y ∷ ys) zero x less = refl
set_here (y ∷ ys) (suc i) x less = set_here ys i x (omega (arith, less))

pub set_other : {A : Type 0} (xs : List A) (i j : ℕ) (x : A) → (j ≡ i → ⊥) → slice_get (slice_set xs i x) j ≡ slice_get xs j
set_other [] i j x apart = refl
set_other (y ∷ ys) zero zero x apart = absurd (apart refl)
set_other (y ∷ ys) zero (suc j) x apart = refl
set_other (y ∷ ys) (suc i) zero x apart = refl
set_other (y ∷ ys) (suc i) (suc j) x apart = set_other ys i j x (λ e. apart (ap suc e))

-- an item of a list in which one was replaced is this one, or as before
pub data Replaced {A : Type 0} (xs : List A) (i : ℕ) (x : A) (j : ℕ) (y : A) : Type 0 where
  Here : j ≡ i → y ≡ x → Replaced xs i x j y
  There : (j ≡ i → ⊥) → slice_get xs j ≡ Some y → Replaced xs i x j y

pub replaced : {A : Type 0} (xs : List A) (i : ℕ) (x o : A) (j : ℕ) (y : A) → slice_get xs i ≡ Some o → slice_get (slice_set xs i x) j ≡ Some y → Replaced xs i x j y
replaced xs i x o j y old at = elim (cases_eq j i) [
  | inl same ↦ Here same (some_same y x (sym at ∙ ap (slice_get (slice_set xs i x)) same ∙ set_here xs i x (slice_get_within xs i o old)))
  | inr apart ↦ There apart (sym (set_other xs i j x apart) ∙ at)
]

pub set_map : {A B : Type 0} (f : A → B) (xs : List A) (i : ℕ) (x o : A) → slice_get xs i ≡ Some o → f x ≡ f o → map f (slice_set xs i x) ≡ map f xs
set_map f [] i x o old same = refl
set_map f (y ∷ ys) zero x o old same = let e : y ≡ o = some_same y o old in ap (λ z. z ∷ map f ys) (same ∙ ap f (sym e))
set_map f (y ∷ ys) (suc i) x o old same = ap (λ zs. f y ∷ zs) (set_map f ys i x o old same)

some_of : {A B : Type 0} (f : A → B) (o : Option A) (y : B) → option_map f o ≡ Some y → (x : A) × (o ≡ Some x) × (f x ≡ y)
some_of f None y h = absurd (grind (arith, h))
some_of f (Some x) y h = (x, refl, some_same (f x) y h)

-- lists that are alike have alike items
pub alike : {A B : Type 0} (f : A → B) (xs ys : List A) (i : ℕ) (x : A) → map f xs ≡ map f ys → slice_get xs i ≡ Some x → (y : A) × (slice_get ys i ≡ Some y) × (f y ≡ f x)
alike f xs ys i x same at = some_of f (slice_get ys i) (f x)
    (sym (slice_get-map f ys i) ∙ ap (λ zs. slice_get zs i) (sym same) ∙ slice_get-map f xs i ∙ ap (option_map f) at)

pub drop_next : {A : Type 0} (n : ℕ) (xs ys : List A) (x : A) → drop n xs ≡ x ∷ ys → (slice_get xs n ≡ Some x) × (drop (suc n) xs ≡ ys)
drop_next zero [] ys x h = absurd (grind (arith, h))
drop_next zero (z ∷ zs) ys x h = let e : z ≡ x = cc in let f : zs ≡ ys = cc in (ap Some e, f)
drop_next (suc n) [] ys x h = absurd (grind (arith, h))
drop_next (suc n) (z ∷ zs) ys x h = drop_next n zs ys x h
