-- What some things of a model have, by the numbers of the model.
-- Source: own.
use Rattle.std.specs.Prelude.{ℕ, List, [], ◌∷◌, replicate, slice_set}
use Rattle.tdf_places.specs.Places.{PlacesOf}

-- a list of `count` values: the next value at each of the numbers, and `other` elsewhere
unfoldable pub spread_by : {A : Type 0} → (count : ℕ) → (other : A) → (numbers : List ℕ)
    → (values : List A) → List A
spread_by count other [] values = replicate count other
spread_by count other (n ∷ numbers) [] = replicate count other
spread_by count other (n ∷ numbers) (v ∷ values) =
    slice_set (spread_by count other numbers values) n v

abbrev pub spread : {A : Type 0} → (other : A) → PlacesOf → (values : List A) → List A
spread other places values = spread_by places.count other places.numbers values
