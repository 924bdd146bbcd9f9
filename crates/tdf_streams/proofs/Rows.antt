-- Rows of lists, by number.
use Rattle.std.proofs.Common.{◌≡◌, ◌∙◌, ℕ, Bool, true, false, ◌||◌, not, Some, option_map, List, length, map, slice_get, slice_index, refl, ap, sym, subst}
use Rattle.std.proofs.lemmas.Option.{get_or_from_slice_get, slice_get-map, slice_get_read, slice_get_within}
use Rattle.std.specs.Prelude.{All, Contains}

pub all_at : {X : Type 0} (P : X → Type 0) (xs : List X) (j : ℕ) (x : X) → All P xs → slice_get xs j ≡ Some x → P x
all_at P xs j x all is = subst P (get_or_from_slice_get xs j x x is) (all j x (slice_get_within xs j x is))

pub contains_at : {X : Type 0} (xs : List X) (x : X) → Contains xs x → (j : ℕ) × (slice_get xs j ≡ Some x)
contains_at xs x found = (found.0, slice_get_read xs (length xs) found.0 x refl found.1 (sym found.2))

pub at_contains : {X : Type 0} (xs : List X) (j : ℕ) (x : X) → slice_get xs j ≡ Some x → Contains xs x
at_contains xs j x is = (j, slice_get_within xs j x is, get_or_from_slice_get xs j x x is)

-- a field of the rows at a number
pub index_map : {X : Type 0} (f : X → ℕ) (xs : List X) (j : ℕ) (x : X) → slice_get xs j ≡ Some x → slice_index (map f xs) j ≡ f x
index_map f xs j x is = get_or_from_slice_get (map f xs) j (f x) 0 (slice_get-map f xs j ∙ ap (option_map f) is)

pub or_right : (a b : Bool) → (a || b) ≡ false → b ≡ false
or_right true b h = absurd (subst (λ c. elim c as (λ _. Type 0) [ true ↦ Unit {0} | false ↦ ⊥ ]) h tt)
or_right false b h = h

pub not_true : (b : Bool) → not b ≡ false → b ≡ true
not_true true h = refl
not_true false h = absurd (subst (λ c. elim c as (λ _. Type 0) [ true ↦ Unit {0} | false ↦ ⊥ ]) h tt)
