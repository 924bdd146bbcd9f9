-- What stands in a list with one thing more.
use Rattle.std.proofs.Common.{◌≡◌, ◌∙◌, ℕ, zero, suc, ◌<◌, ◌≤◌, ◌⊎◌, inl, inr, List, [], ◌∷◌, ◌++◌, Some, length, refl, sym, ap, subst, arith}
use Rattle.std.proofs.lemmas.Bool.{cases_lt}
use Rattle.std.proofs.lemmas.List.{length_push}
use Rattle.std.proofs.lemmas.Option.{same_Some, slice_get_within}
use Rattle.std.specs.Prelude.{slice_get}

pub in_front : {X : Type 0} (xs : List X) (y : X) (j : ℕ) → j < length xs → slice_get (xs ++ y ∷ []) j ≡ slice_get xs j
in_front [] y j less = absurd (omega (arith, less))
in_front (x ∷ xs) y zero less = refl
in_front (x ∷ xs) y (suc j) less = in_front xs y j (omega (arith, less))

pub at_end : {X : Type 0} (xs : List X) (y : X) → slice_get (xs ++ y ∷ []) (length xs) ≡ Some y
at_end [] y = refl
at_end (x ∷ xs) y = at_end xs y

-- what stands at a place of a list with one thing more: one of those before it, or that one
pub pushed : {X : Type 0} (P : ℕ → X → Type 0) (xs : List X) (y : X) → ((j : ℕ) (x : X) → slice_get xs j ≡ Some x → P j x) → P (length xs) y → (j : ℕ) (x : X) → slice_get (xs ++ y ∷ []) j ≡ Some x → P j x
pushed {X} P xs y before last j x at = go (cases_lt j (length xs))
  where
    go : (j < length xs) ⊎ (length xs ≤ j) → P j x
    go (inl less) = before j x (sym (in_front xs y j less) ∙ at)
    go (inr past) =
        let within = slice_get_within (xs ++ y ∷ []) j x at in
        let l = length_push xs y in
        let here : length xs ≡ j = omega (arith, past, within, l) in
        let same : y ≡ x = same_Some y x (sym (at_end xs y) ∙ ap (slice_get (xs ++ y ∷ [])) here ∙ at) in
        subst (λ k. P k x) here (subst (P (length xs)) same last)
