-- Texts of members with their states, and of items, one after the other.
use Rattle.std.proofs.Common.{◌≡◌, ℕ, zero, suc, ◌+◌, ◌<◌, ◌≤◌, List, [], ◌∷◌, ◌++◌, length, map, take, get_or, refl, ◌∙◌, sym, ap, append_assoc, append-nil, arith, take-suc, min, ◌⊎◌, inl, inr, ⊎_elim}
use Rattle.std.proofs.lemmas.Bool.{cases_lt}
use Rattle.std.proofs.lemmas.Grind.{flat_map-append}
use Rattle.std.proofs.lemmas.List.{length-map, take-append-le, take_all}
use Rattle.std.specs.List.{flat_map}
use Rattle.tdf_save.specs.Text.{each_text}
use Rattle.tdf_save.proofs.WordLists.{kept_on}

-- ---- members with their states

-- the text of the first of them
abbrev pub each_before : {A B : Type 0} → (A → B → List ℕ) → List A → List B → ℕ → List ℕ
each_before f xs ys k = each_text f (take k xs) (take k ys)

pub each_none : {A B : Type 0} (f : A → B → List ℕ) (xs : List A) (ys : List B) → each_before f xs ys 0 ≡ []
unfolding each_text
each_none f xs ys = refl

pub each_more : {A B : Type 0} (f : A → B → List ℕ) (xs : List A) (ys : List B) (k : ℕ) (a : A) (b : B) → k < length xs → k < length ys
    → each_before f xs ys (k + 1) ≡ each_before f xs ys k ++ f (get_or xs k a) (get_or ys k b)
unfolding each_text
each_more f [] ys k a b p q = absurd (omega (arith, p))
each_more f (x ∷ xs) [] k a b p q = absurd (omega (arith, q))
each_more f (x ∷ xs) (y ∷ ys) zero a b p q = append-nil (f x y)
each_more f (x ∷ xs) (y ∷ ys) (suc k) a b p q =
    let e : suc k + 1 ≡ suc (k + 1) = omega arith in
    ap (λ n. each_text f (take n (x ∷ xs)) (take n (y ∷ ys))) e
    ∙ ap (λ t. f x y ++ t) (each_more f xs ys k a b (omega arith) (omega arith))
    ∙ sym (append_assoc (f x y) (each_before f xs ys k) (f (get_or xs k a) (get_or ys k b)))

pub each_all : {A B : Type 0} (f : A → B → List ℕ) (xs : List A) (ys : List B) (k : ℕ) → length xs ≤ k → each_before f xs ys k ≡ each_text f xs ys
unfolding each_text
each_all f [] ys zero p = refl
each_all f [] ys (suc k) p = refl
each_all f (x ∷ xs) ys zero p = absurd (omega (arith, p))
each_all f (x ∷ xs) [] (suc k) p = refl
each_all f (x ∷ xs) (y ∷ ys) (suc k) p = ap (λ t. f x y ++ t) (each_all f xs ys k (omega arith))

pub each_end : {A B : Type 0} (f : A → B → List ℕ) (xs : List A) (ys : List B) (k : ℕ) → length ys ≤ k → each_before f xs ys k ≡ each_text f xs ys
unfolding each_text
each_end f [] ys zero p = refl
each_end f [] ys (suc k) p = refl
each_end f (x ∷ xs) [] zero p = refl
each_end f (x ∷ xs) [] (suc k) p = refl
each_end f (x ∷ xs) (y ∷ ys) zero p = absurd (omega (arith, p))
each_end f (x ∷ xs) (y ∷ ys) (suc k) p = ap (λ t. f x y ++ t) (each_end f xs ys k (omega arith))

pub each_begins : {A B : Type 0} (f : A → B → List ℕ) (out : List ℕ) (xs : List A) (ys : List B) → out ≡ out ++ each_before f xs ys 0
each_begins f out xs ys = sym (ap (λ x. out ++ x) (each_none f xs ys) ∙ append-nil out)

-- k is below both lengths
pub record IsBelowBoth {A B : Type 0} (xs : List A) (ys : List B) (k : ℕ) : Type 0 where
  pub first : k < length xs
  pub second : k < length ys

pub below_both : {A B : Type 0} (xs : List A) (ys : List B) (n k : ℕ) → n ≡ min (length xs) (length ys) → k < n → IsBelowBoth xs ys k
below_both xs ys n k is less = record { first = omega (arith, is, less); second = omega (arith, is, less) }

-- the member of a mapped list
pub at_map : {A B : Type 0} (g : A → B) (xs : List A) (k : ℕ) (a : A) → a ≡ get_or xs k a → g a ≡ get_or (map g xs) k (g a)
at_map g [] k a h = refl
at_map g (x ∷ xs) zero a h = ap g h
at_map g (x ∷ xs) (suc k) a h = at_map g xs k a h

pub min_mapped : {A B C D : Type 0} (g : A → C) (h : B → D) (xs : List A) (ys : List B) (n : ℕ) → n ≡ min (length xs) (length ys) → n ≡ min (length (map g xs)) (length (map h ys))
min_mapped g h xs ys n e = rw (length-map xs g, length-map ys h) e

pub min_first : {A B C : Type 0} (g : A → C) (xs : List A) (ys : List B) (n : ℕ) → n ≡ min (length xs) (length ys) → n ≡ min (length (map g xs)) (length ys)
min_first g xs ys n e = rw (length-map xs g) e

pub min_second : {A B D : Type 0} (h : B → D) (xs : List A) (ys : List B) (n : ℕ) → n ≡ min (length xs) (length ys) → n ≡ min (length xs) (length (map h ys))
min_second h xs ys n e = rw (length-map ys h) e

pub each_one_more : {A B : Type 0} (f : A → B → List ℕ) (out mid new : List ℕ) (xs : List A) (ys : List B) (n k : ℕ) (a : A) (b : B)
    → n ≡ min (length xs) (length ys) → k < n
    → a ≡ get_or xs k a → b ≡ get_or ys k b
    → mid ≡ out ++ each_before f xs ys k → new ≡ mid ++ f a b → new ≡ out ++ each_before f xs ys (k + 1)
each_one_more f out mid new xs ys n k a b min less here there is h =
    let both = below_both xs ys n k min less in
    let step = each_more f xs ys k a b both.first both.second in
    let named = ap (λ x. each_before f xs ys k ++ f x (get_or ys k b)) (sym here) ∙ ap (λ y. each_before f xs ys k ++ f a y) (sym there) in
    h ∙ ap (λ x. x ++ f a b) is ∙ append_assoc out (each_before f xs ys k) (f a b)
    ∙ ap (λ x. out ++ x) (sym (step ∙ named))

below_either : (m n k : ℕ) → min m n ≤ k → (m ≤ k) ⊎ (n ≤ k)
below_either m n k h = ⊎_elim
    (λ (p : m < n). inl (omega (arith, h, p)))
    (λ (p : n ≤ m). inr (omega (arith, h, p)))
    (cases_lt m n)

pub each_done : {A B : Type 0} (f : A → B → List ℕ) (out new : List ℕ) (xs : List A) (ys : List B) (n k : ℕ)
    → n ≡ min (length xs) (length ys) → n ≤ k → new ≡ out ++ each_before f xs ys k → new ≡ out ++ each_text f xs ys
each_done f out new xs ys n k is end h =
    let either : (length xs ≤ k) ⊎ (length ys ≤ k) = below_either (length xs) (length ys) k (omega (arith, is, end)) in
    h ∙ ap (λ x. out ++ x) (⊎_elim (λ (p : length xs ≤ k). each_all f xs ys k p) (λ (p : length ys ≤ k). each_end f xs ys k p) either)

pub ruleset each_laws = (each_begins, each_one_more, each_all, each_end, kept_on, take-append-le, append_assoc, append-nil)

-- ---- items

-- the text of the first of them
abbrev pub items_before : {A : Type 0} → (A → List ℕ) → List A → ℕ → List ℕ
items_before f xs k = flat_map f (take k xs)

pub items_more : {A : Type 0} (f : A → List ℕ) (xs : List A) (k : ℕ) (d : A) → k < length xs
    → items_before f xs (k + 1) ≡ items_before f xs k ++ f (get_or xs k d)
items_more f xs k d less =
    let e : k + 1 ≡ suc k = omega arith in
    ap (λ n. flat_map f (take n xs)) e ∙ ap (flat_map f) (take-suc xs k d less)
    ∙ flat_map-append f (take k xs) (get_or xs k d ∷ []) ∙ ap (λ x. items_before f xs k ++ x) (append-nil (f (get_or xs k d)))

pub items_begin : {A : Type 0} (f : A → List ℕ) (out : List ℕ) (xs : List A) → out ≡ out ++ items_before f xs 0
items_begin f out xs = sym (append-nil out)

pub same_there : {A : Type 0} (xs : List A) (k : ℕ) (d : A) → k < length xs → get_or xs k d ≡ get_or xs k (get_or xs k d)
same_there [] k d h = absurd (omega (arith, h))
same_there (x ∷ xs) zero d h = refl
same_there (x ∷ xs) (suc k) d h = same_there xs k d (omega (arith, h))

pub items_one_more : {A : Type 0} (f : A → List ℕ) (out mid new : List ℕ) (xs : List A) (k : ℕ) (a : A) → k < length xs → a ≡ get_or xs k a
    → mid ≡ out ++ items_before f xs k → new ≡ mid ++ f a → new ≡ out ++ items_before f xs (k + 1)
items_one_more f out mid new xs k a less here is h = h ∙ ap (λ x. x ++ f a) is
    ∙ append_assoc out (items_before f xs k) (f a)
    ∙ ap (λ x. out ++ x) (sym (items_more f xs k a less ∙ ap (λ x. items_before f xs k ++ f x) (sym here)))

pub items_all : {A : Type 0} (f : A → List ℕ) (xs : List A) (k : ℕ) → length xs ≤ k → items_before f xs k ≡ flat_map f xs
items_all f xs k all = ap (flat_map f) (take_all k xs all)

pub items_done : {A : Type 0} (f : A → List ℕ) (out new : List ℕ) (xs : List A) (k : ℕ) → length xs ≤ k → new ≡ out ++ items_before f xs k → new ≡ out ++ flat_map f xs
items_done f out new xs k all h = h ∙ ap (λ x. out ++ x) (items_all f xs k all)

pub ruleset item_laws = (items_begin, items_one_more, items_all, kept_on, take-append-le, append_assoc, append-nil)
