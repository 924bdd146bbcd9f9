-- What is known stays known through what is looked up in it.
use Rattle.std.proofs.Common.{◌≡◌, ◌∙◌, Option, Some, None, option_map, refl, ap}
use Rattle.std.specs.Option.{option_and_then}
use Rattle.tdf_streams.proofs.Api.{none_some}

pub and_then_more : {A B : Type 0} (f g : A → Option B) (o o2 : Option A) (r : B) → ((a : A) → o ≡ Some a → o2 ≡ Some a) → ((a : A) → f a ≡ Some r → g a ≡ Some r)
    → option_and_then f o ≡ Some r → option_and_then g o2 ≡ Some r
and_then_more f g None o2 r keeps more h = none_some r h
and_then_more f g (Some a) o2 r keeps more h = ap (option_and_then g) (keeps a refl) ∙ more a h

pub map_more : {A B : Type 0} (f : A → B) (o o2 : Option A) (r : B) → ((a : A) → o ≡ Some a → o2 ≡ Some a) → option_map f o ≡ Some r → option_map f o2 ≡ Some r
map_more f None o2 r keeps h = none_some r h
map_more f (Some a) o2 r keeps h = ap (option_map f) (keeps a refl) ∙ h
