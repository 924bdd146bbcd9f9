-- One step of an Option or an `if`, monotone.
use Rattle.std.proofs.Common.{◌≡◌, Bool, true, false, Option, Some, None, option_map, if◌then◌else◌, refl, ap, ◌∙◌, subst}
use Rattle.std.specs.Option.{option_and_then}

pub none_some : {A : Type 0} {P : Type 0} (a : A) → None ≡ Some a → P
none_some a h = absurd (subst (λ o. elim o as (λ _. Type 0) [ None ↦ Unit {0} | Some x ↦ ⊥ ]) h tt)

pub if_more : {A : Type 0} (b : Bool) (x y u v : Option A) (r : A) → (x ≡ Some r → u ≡ Some r) → (y ≡ Some r → v ≡ Some r) → (if b then x else y) ≡ Some r → (if b then u else v) ≡ Some r
if_more true x y u v r f g h = f h
if_more false x y u v r f g h = g h

pub and_then_more : {A B : Type 0} (f g : A → Option B) (o o2 : Option A) (r : B) → ((a : A) → o ≡ Some a → o2 ≡ Some a) → ((a : A) → f a ≡ Some r → g a ≡ Some r)
    → option_and_then f o ≡ Some r → option_and_then g o2 ≡ Some r
and_then_more f g None o2 r keeps more h = none_some r h
and_then_more f g (Some a) o2 r keeps more h = ap (option_and_then g) (keeps a refl) ∙ more a h

pub map_more : {A B : Type 0} (f : A → B) (o o2 : Option A) (r : B) → ((a : A) → o ≡ Some a → o2 ≡ Some a) → option_map f o ≡ Some r → option_map f o2 ≡ Some r
map_more f None o2 r keeps h = none_some r h
map_more f (Some a) o2 r keeps h = ap (option_map f) (keeps a refl) ∙ h
