-- Rows of lists, by number.
use Rattle.std.proofs.Common.{◌≡◌, ◌∙◌, ℕ, Some, option_map, List, map, ap, subst}
use Rattle.std.proofs.lemmas.Option.{get_or_from_slice_get, slice_get-map, slice_get_within}
use Rattle.std.specs.Prelude.{All, slice_get, slice_index}

pub all_at : {X : Type 0} (P : X → Type 0) (xs : List X) (j : ℕ) (x : X) → All P xs → slice_get xs j ≡ Some x → P x
all_at P xs j x all is = subst P (get_or_from_slice_get xs j x x is) (all j x (slice_get_within xs j x is))

-- a field of the row at a number
pub index_at : {X : Type 0} (f : X → ℕ) (xs : List X) (j : ℕ) (x : X) → slice_get xs j ≡ Some x → slice_index (map f xs) j ≡ f x
index_at f xs j x is = get_or_from_slice_get (map f xs) j (f x) 0 (slice_get-map f xs j ∙ ap (option_map f) is)
