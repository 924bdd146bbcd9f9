-- Where cells, samples and rates are kept, and their formats and limits.
use Rattle.std.proofs.Common.{◌≡◌, ◌∙◌, ℕ, zero, suc, ◌+◌, ◌<◌, List, [], ◌∷◌, ◌++◌, Option, Some, None, refl, sym, ap, subst, arith}
use Rattle.std.specs.List.{flat_map}
use Rattle.std.specs.Prelude.{slice_get, replicate}
use Rattle.tdf_expr_semantics.specs.Places.{before, limits_of, rates_of}
use Rattle.tdf_expr_symbols.specs.Names.{Thing, RateVar}

pub slice_replicate : {A : Type 0} (count k : ℕ) (x : A) → k < count → slice_get (replicate count x) k ≡ Some x
slice_replicate zero k x h = absurd (omega (arith, h))
slice_replicate (suc count) zero x h = refl
slice_replicate (suc count) (suc k) x h = slice_replicate count k x (omega (arith, h))

pub slice_left : {A : Type 0} (xs ys : List A) (k : ℕ) (x : A) → slice_get xs k ≡ Some x → slice_get (xs ++ ys) k ≡ Some x
slice_left [] ys k x e = absurd cc
slice_left (y ∷ xs) ys zero x e = e
slice_left (y ∷ xs) ys (suc k) x e = slice_left xs ys k x e

pub slice_right : {A : Type 0} (count : ℕ) (a : A) (ys : List A) (k : ℕ) → slice_get (replicate count a ++ ys) (count + k) ≡ slice_get ys k
slice_right zero a ys k = ap (slice_get ys) (omega arith)
slice_right (suc count) a ys k =
    let here : suc count + k ≡ suc (count + k) = omega arith in
    ap (slice_get (a ∷ (replicate count a ++ ys))) here ∙ slice_right count a ys k

-- the format of element k of the n-th name
pub placed : {A : Type 0} (count : Thing → ℕ) (see : Thing → A) (things : List Thing) (n k : ℕ) (t : Thing)
    → slice_get things n ≡ Some t → k < count t
    → slice_get (flat_map (λ x. replicate (count x) (see x)) things) (before count things n + k) ≡ Some (see t)
unfolding before
placed count see [] n k t e h = absurd cc
placed count see (x ∷ things) zero k t e h =
    let same : x ≡ t = some_is e in
    let start : 0 + k ≡ k = omega arith in
    ap (slice_get (replicate (count x) (see x) ++ flat_map (λ y. replicate (count y) (see y)) things)) start
    ∙ slice_left (replicate (count x) (see x)) (flat_map (λ y. replicate (count y) (see y)) things) k (see t)
    (slice_replicate (count x) k (see x) (subst (λ y. k < count y) (sym same) h) ∙ ap (λ y. Some (see y)) same)
  where
    held : Option Thing → Thing
    held None = x
    held (Some y) = y

    some_is : Some x ≡ Some t → x ≡ t
    some_is e = ap held e
placed count see (x ∷ things) (suc n) k t e h =
    let rest = flat_map (λ y. replicate (count y) (see y)) things in
    let here : count x + before count things n + k ≡ count x + (before count things n + k) = omega arith in
    ap (λ i. slice_get (replicate (count x) (see x) ++ rest) i) here
    ∙ slice_right (count x) (see x) rest (before count things n + k)
    ∙ placed count see things n k t e h

-- the limits of the rate variable that is the n-th name
pub limits_placed : (things : List Thing) (n least greatest start : ℕ) → slice_get things n ≡ Some (RateVar least greatest start)
    → slice_get (flat_map limits_of things) (before rates_of things n) ≡ Some (record { least = least; greatest = greatest })
unfolding before
limits_placed [] n least greatest start e = absurd cc
limits_placed (x ∷ things) zero least greatest start e = first x (some_is e)
  where
    held : Option Thing → Thing
    held None = x
    held (Some y) = y

    some_is : Some x ≡ Some (RateVar least greatest start) → x ≡ RateVar least greatest start
    some_is e = ap held e

    first : (y : Thing) → y ≡ RateVar least greatest start
        → slice_get (limits_of y ++ flat_map limits_of things) 0 ≡ Some (record { least = least; greatest = greatest })
    first y is = ap (λ z. slice_get (limits_of z ++ flat_map limits_of things) 0) is
limits_placed (x ∷ things) (suc n) least greatest start e = skip x ∙ limits_placed things n least greatest start e
  where
    skip : (y : Thing) → slice_get (limits_of y ++ flat_map limits_of things) (rates_of y + before rates_of things n)
        ≡ slice_get (flat_map limits_of things) (before rates_of things n)
    skip (RateVar l g s) =
        let next : 1 + before rates_of things n ≡ suc (before rates_of things n) = omega arith in
        ap (slice_get (record { least = l; greatest = g } ∷ flat_map limits_of things)) next
    skip _ =
        let same : 0 + before rates_of things n ≡ before rates_of things n = omega arith in
        ap (slice_get (flat_map limits_of things)) same

-- what a place that is known has
pub some_thing : {A : Type 0} (d x y : A) → Some x ≡ Some y → x ≡ y
some_thing {A} d x y e = ap held e
  where
    held : Option A → A
    held None = d
    held (Some z) = z
