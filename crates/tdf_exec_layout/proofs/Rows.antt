-- Rows of lists, by number.
use Rattle.std.proofs.Common.{◌≡◌, ◌∙◌, ℕ, Option, Some, None, option_map, List, map, slice_get, slice_index, refl, ap, sym, subst}
use Rattle.std.proofs.lemmas.Option.{get_or_from_slice_get, slice_get-map, slice_get_within}
use Rattle.std.specs.Prelude.{All}
use Rattle.tdf_streams.proofs.Api.{none_some, some_same}

pub all_at : {X : Type 0} (P : X → Type 0) (xs : List X) (j : ℕ) (x : X) → All P xs → slice_get xs j ≡ Some x → P x
all_at P xs j x all is = subst P (get_or_from_slice_get xs j x x is) (all j x (slice_get_within xs j x is))

-- a field of the rows at a number
pub index_map : {X : Type 0} (f : X → ℕ) (xs : List X) (j : ℕ) (x : X) → slice_get xs j ≡ Some x → slice_index (map f xs) j ≡ f x
index_map f xs j x is = get_or_from_slice_get (map f xs) j (f x) 0 (slice_get-map f xs j ∙ ap (option_map f) is)

pub map_some : {X Y : Type 0} (f : X → Y) (xs : List X) (j : ℕ) (y : Y) → slice_get (map f xs) j ≡ Some y → (x : X) × (slice_get xs j ≡ Some x) × (f x ≡ y)
map_some {X} f xs j y at = go (slice_get xs j) refl (sym (slice_get-map f xs j) ∙ at)
  where
    go : (o : Option X) → slice_get xs j ≡ o → option_map f o ≡ Some y → (x : X) × (slice_get xs j ≡ Some x) × (f x ≡ y)
    go None is none = none_some y none
    go (Some x) is some = (x, is, some_same (f x) y some)
