-- A link more.
use Rattle.std.proofs.Common.{◌≡◌, ◌∙◌, ℕ, zero, suc, ◌+◌, ◌<◌, ◌≤◌, Bool, true, false, List, [], ◌∷◌, ◌++◌, Some, length, take, refl, sym, ap, subst, inl, inr, ◌⊎◌, ◌-◌, arith, cond}
use Rattle.std.proofs.lemmas.List.{take-append-le, take_all}
use Rattle.std.proofs.lemmas.List.Sums.{sum_by-cons}
use Rattle.std.proofs.lemmas.Option.{same_Some, slice_get_within}
use Rattle.std.specs.Prelude.{not, slice_get}
use Rattle.std.specs.List.{count_by}
use Rattle.tdf_convert.specs.Links.{AreBefore, AreLinks, samplers_before, samplers_in}
use Rattle.tdf_convert.specs.declared.links.Link.{Link}

-- how many samplers there are, by the last link
count_last : (links : List Link) (j : ℕ) (l : Link) → slice_get links j ≡ Some l → length links ≡ j + 1 → samplers_in links ≡ samplers_before links j + cond l.sampler 1 0
count_last [] j l at long = absurd cc
count_last (v ∷ []) zero l at long =
    let count : Link → ℕ = λ x. cond x.sampler 1 0 in
    let same : count v ≡ count l = ap count (same_Some v l at) in
    omega (arith, same, sum_by-cons (λ (x : Link). cond x.sampler 1 0) v [])
count_last (v ∷ (w ∷ links)) zero l at long = absurd (omega (arith, long))
count_last (v ∷ links) (suc j) l at long =
    let rest = count_last links j l at (omega (arith, long)) in
    omega (arith, rest, sum_by-cons (λ (x : Link). cond x.sampler 1 0) v links, sum_by-cons (λ (x : Link). cond x.sampler 1 0) v (take j links))

pub no_of : (b : Bool) → not b ≡ true → b ≡ false
no_of true e = absurd cc
no_of false e = refl

pub yes_of : (b : Bool) → not b ≡ false → b ≡ true
yes_of true e = refl
yes_of false e = absurd cc

pub last_yes : (links : List Link) (l : Link) → AreLinks links (samplers_in links) → slice_get links (length links - 1) ≡ Some l → l.sampler ≡ true
    → l.place + 1 ≡ samplers_in links
last_yes links l are at is =
    let inside = slice_get_within links (length links - 1) l at in
    let whole = count_last links (length links - 1) l at (omega (arith, inside)) in
    let count : Bool → ℕ = λ b. cond b 1 0 in
    let one : count l.sampler ≡ 1 = ap count is in
    omega (arith, whole, one, are.placed (length links - 1) l at)

pub last_no : (links : List Link) (l : Link) → AreLinks links (samplers_in links) → slice_get links (length links - 1) ≡ Some l → l.sampler ≡ false
    → l.place ≡ samplers_in links
last_no links l are at is =
    let inside = slice_get_within links (length links - 1) l at in
    let whole = count_last links (length links - 1) l at (omega (arith, inside)) in
    let count : Bool → ℕ = λ b. cond b 1 0 in
    let none : count l.sampler ≡ 0 = ap count is in
    omega (arith, whole, none, are.placed (length links - 1) l at)

-- what a list with one thing more has
pushed : {A : Type 0} (xs : List A) (y : A) (j : ℕ) (x : A) → slice_get (xs ++ y ∷ []) j ≡ Some x → (slice_get xs j ≡ Some x) ⊎ ((j ≡ length xs) × (y ≡ x))
pushed [] y zero x at = inr (refl, same_Some y x at)
pushed [] y (suc j) x at = absurd cc
pushed (z ∷ xs) y zero x at = inl at
pushed {A} (z ∷ xs) y (suc j) x at = choose (pushed xs y j x at)
  where
    choose : (slice_get xs j ≡ Some x) ⊎ ((j ≡ length xs) × (y ≡ x)) → (slice_get xs j ≡ Some x) ⊎ ((suc j ≡ suc (length xs)) × (y ≡ x))
    choose (inl before) = inl before
    choose (inr (last, same)) = inr (ap suc last, same)

pub links_more : (links : List Link) (l : Link) → AreLinks links (samplers_in links) → AreBefore l.actor links → l.place ≡ samplers_in links
    → AreLinks (links ++ l ∷ []) (samplers_in (links ++ l ∷ []))
links_more links l are before place = record {
  order = record { rising = λ i j k m less first second. rising i j k m less (pushed links l i k first) (pushed links l j m second) };
  placed = λ j m at. placed j m (pushed links l j m at);
  count = refl;
}
  where
    rising : (i j : ℕ) (k m : Link) → i < j → (slice_get links i ≡ Some k) ⊎ ((i ≡ length links) × (l ≡ k)) → (slice_get links j ≡ Some m) ⊎ ((j ≡ length links) × (l ≡ m))
        → k.actor < m.actor
    rising i j k m less (inl first) (inl second) = are.order.rising i j k m less first second
    rising i j k m less (inl first) (inr (last, same)) = subst (λ (x : Link). k.actor < x.actor) same (before.before i k first)
    rising i j k m less (inr (last, same)) (inl second) = absurd (omega (arith, less, last, slice_get_within links j m second))
    rising i j k m less (inr (last, same)) (inr (end, other)) = absurd (omega (arith, less, last, end))

    front : (j : ℕ) → j ≤ length links → samplers_before (links ++ l ∷ []) j ≡ samplers_before links j
    front j few = ap (λ (t : List Link). count_by (λ x. x.sampler) t) (take-append-le j links (l ∷ []) few)

    placed : (j : ℕ) (m : Link) → (slice_get links j ≡ Some m) ⊎ ((j ≡ length links) × (l ≡ m)) → m.place ≡ samplers_before (links ++ l ∷ []) j
    placed j m (inl at) = are.placed j m at ∙ sym (front j (omega (arith, slice_get_within links j m at)))
    placed j m (inr (last, same)) =
        ap (λ (x : Link). x.place) (sym same) ∙ place ∙ ap (λ (t : List Link). count_by (λ x. x.sampler) t) (sym (take_all (length links) links (omega arith)))
        ∙ ap (samplers_before links) (sym last) ∙ sym (front j (omega (arith, last)))
