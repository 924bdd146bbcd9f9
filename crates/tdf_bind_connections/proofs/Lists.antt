-- Lists that grow by one.
use Rattle.std.proofs.Common.{◌≡◌, ◌∙◌, ℕ, ◌+◌, ◌<◌, zero, suc, List, [], ◌∷◌, ◌++◌, Option, length, take, refl, sym, ap, arith}
use Rattle.std.proofs.Math.ListN.{get_or}
use Rattle.std.proofs.lemmas.List.{take_more, map-append, map_more, append_assoc}
use Rattle.std.proofs.lemmas.List.Elements.{filter_map-append}
use Rattle.std.specs.List.{enumerate_from, cons_option, flat_map}
use Rattle.std.specs.Prelude.{map, filter_map}

pub enumerate_push : {X : Type 0} (n : ℕ) (xs : List X) (x : X) → enumerate_from n (xs ++ x ∷ []) ≡ enumerate_from n xs ++ (n + length xs, x) ∷ []
enumerate_push n [] x = ap (λ m. (m, x) ∷ []) (omega arith)
enumerate_push {X} n (y ∷ xs) x = ap (λ l. (n, y) ∷ l) (enumerate_push (n + 1) xs x ∙ ap (λ m. enumerate_from (n + 1) xs ++ (m, x) ∷ []) (omega arith))

pub length_take : {X : Type 0} (xs : List X) (i : ℕ) → i < length xs → length (take i xs) ≡ i
length_take [] i within = absurd (omega (arith, within))
length_take (x ∷ xs) zero within = refl
length_take (x ∷ xs) (suc i) within = let e = length_take xs i (omega (arith, within)) in omega (arith, e)

-- one element more of a list that is mapped
pub map_next : {A B : Type 0} (f : A → B) (xs : List A) (i : ℕ) (x : A) (y : B) (initial rows next : List B) → i < length xs → rows ≡ initial ++ map f (take i xs)
    → x ≡ get_or xs i x → y ≡ f x → next ≡ rows ++ y ∷ [] → next ≡ initial ++ map f (take (i + 1) xs)
map_next f xs i x y initial rows next within h x_is y_is next_is =
    next_is ∙ ap (λ l. l ++ y ∷ []) h ∙ ap (λ z. (initial ++ map f (take i xs)) ++ z ∷ []) (y_is ∙ ap f x_is)
    ∙ append_assoc initial (map f (take i xs)) (f (get_or xs i x) ∷ [])
    ∙ ap (λ l. initial ++ l) (sym (map_more f xs i x within))

numbered_more : {A B : Type 0} (f : ℕ → A → B) (xs : List A) (i : ℕ) (d : A) → i < length xs
    → map (λ p. f p.0 p.1) (enumerate_from 0 (take (i + 1) xs)) ≡ map (λ p. f p.0 p.1) (enumerate_from 0 (take i xs)) ++ f i (get_or xs i d) ∷ []
numbered_more f xs i d within =
    ap (λ l. map (λ p. f p.0 p.1) (enumerate_from 0 l)) (take_more xs i d within)
    ∙ ap (map (λ p. f p.0 p.1)) (enumerate_push 0 (take i xs) (get_or xs i d))
    ∙ map-append (λ p. f p.0 p.1) (enumerate_from 0 (take i xs)) ((0 + length (take i xs), get_or xs i d) ∷ [])
    ∙ ap (λ n. map (λ p. f p.0 p.1) (enumerate_from 0 (take i xs)) ++ f n (get_or xs i d) ∷ []) (let e = length_take xs i within in omega (arith, e))

-- one element more of a list that is mapped with its places
pub numbered_next : {A B : Type 0} (f : ℕ → A → B) (xs : List A) (i : ℕ) (x : A) (y : B) (initial rows next : List B) → i < length xs → rows ≡ initial ++ map (λ p. f p.0 p.1) (enumerate_from 0 (take i xs))
    → x ≡ get_or xs i x → y ≡ f i x → next ≡ rows ++ y ∷ [] → next ≡ initial ++ map (λ p. f p.0 p.1) (enumerate_from 0 (take (i + 1) xs))
numbered_next f xs i x y initial rows next within h x_is y_is next_is =
    next_is ∙ ap (λ l. l ++ y ∷ []) h ∙ ap (λ z. (initial ++ map (λ p. f p.0 p.1) (enumerate_from 0 (take i xs))) ++ z ∷ []) (y_is ∙ ap (f i) x_is)
    ∙ append_assoc initial (map (λ p. f p.0 p.1) (enumerate_from 0 (take i xs))) (f i (get_or xs i x) ∷ [])
    ∙ ap (λ l. initial ++ l) (sym (numbered_more f xs i x within))

filtered_more : {A B : Type 0} (f : ℕ → A → Option B) (xs : List A) (i : ℕ) (d : A) → i < length xs
    → filter_map (λ p. f p.0 p.1) (enumerate_from 0 (take (i + 1) xs)) ≡ filter_map (λ p. f p.0 p.1) (enumerate_from 0 (take i xs)) ++ cons_option (f i (get_or xs i d)) []
filtered_more f xs i d within =
    ap (λ l. filter_map (λ p. f p.0 p.1) (enumerate_from 0 l)) (take_more xs i d within)
    ∙ ap (filter_map (λ p. f p.0 p.1)) (enumerate_push 0 (take i xs) (get_or xs i d))
    ∙ filter_map-append (λ p. f p.0 p.1) (enumerate_from 0 (take i xs)) ((0 + length (take i xs), get_or xs i d) ∷ [])
    ∙ ap (λ n. filter_map (λ p. f p.0 p.1) (enumerate_from 0 (take i xs)) ++ cons_option (f n (get_or xs i d)) []) (let e = length_take xs i within in omega (arith, e))

-- one element more of a list that is filtered with its places
pub filtered_next : {A B : Type 0} (f : ℕ → A → Option B) (xs : List A) (i : ℕ) (x : A) (initial rows next : List B) → i < length xs → rows ≡ initial ++ filter_map (λ p. f p.0 p.1) (enumerate_from 0 (take i xs))
    → x ≡ get_or xs i x → next ≡ rows ++ cons_option (f i x) [] → next ≡ initial ++ filter_map (λ p. f p.0 p.1) (enumerate_from 0 (take (i + 1) xs))
filtered_next f xs i x initial rows next within h x_is next_is =
    next_is ∙ ap (λ l. l ++ cons_option (f i x) []) h ∙ ap (λ z. (initial ++ filter_map (λ p. f p.0 p.1) (enumerate_from 0 (take i xs))) ++ cons_option (f i z) []) x_is
    ∙ append_assoc initial (filter_map (λ p. f p.0 p.1) (enumerate_from 0 (take i xs))) (cons_option (f i (get_or xs i x)) [])
    ∙ ap (λ l. initial ++ l) (sym (filtered_more f xs i x within))

pub flat_push : {A B : Type 0} (f : A → List B) (xs ys : List A) → flat_map f (xs ++ ys) ≡ flat_map f xs ++ flat_map f ys
flat_push f [] ys = refl
flat_push f (x ∷ xs) ys = ap (λ l. f x ++ l) (flat_push f xs ys) ∙ sym (append_assoc (f x) (flat_map f xs) (flat_map f ys))

-- what stands past the end makes no difference before it
pub any_default : {X : Type 0} (xs : List X) (i : ℕ) (a b : X) → i < length xs → get_or xs i a ≡ get_or xs i b
any_default [] i a b within = absurd (omega (arith, within))
any_default (x ∷ xs) zero a b within = refl
any_default (x ∷ xs) (suc i) a b within = any_default xs i a b (omega (arith, within))
