-- The first of faults, piece by piece.
use Rattle.std.proofs.Common.{◌≡◌, ◌∙◌, ℕ, ◌+◌, ◌<◌, ◌≤◌, Bool, true, false, List, [], ◌∷◌, ◌++◌, Option, Some, None, length, drop, refl, sym, ap, subst}
use Rattle.std.proofs.Math.ListN.{get_or}
use Rattle.std.proofs.lemmas.List.{drop_more, drop_all}
use Rattle.std.specs.List.{flat_map}
use Rattle.std.specs.Prelude.{map, if◌then◌else◌}
use Rattle.tdf_base.specs.declared.codes.Code.{Code}
use Rattle.tdf_base.specs.First.{lesser, least_with, noted, fault_if}
use Rattle.tdf_base.specs.declared.first.LineFault.{LineFault}

pub least_none : (best : Option LineFault) → least_with best [] ≡ best
unfolding least_with
least_none best = refl

pub least_append : (best : Option LineFault) (xs ys : List LineFault) → least_with best (xs ++ ys) ≡ least_with (least_with best xs) ys
unfolding least_with
least_append best [] ys = refl
least_append best (x ∷ xs) ys = least_append (lesser best x) xs ys

pub least_if : (is : Bool) (code : Code) (line : ℕ) (best : Option LineFault) → least_with best (fault_if is code line) ≡ noted is code line best
unfolding least_with noted fault_if
least_if true code line best = refl
least_if false code line best = refl

-- a list of lines that are seen through `see`, from a place on
pub least_more : {A B : Type 0} (see : A → B) (f : B → List LineFault) (list : List A) (i : ℕ) (d : A) (best : Option LineFault) → i < length list
    → least_with best (flat_map f (map see (drop i list)))
    ≡ least_with (least_with best (f (see (get_or list i d)))) (flat_map f (map see (drop (i + 1) list)))
least_more {A} see f list i d best within =
    ap (λ (l : List A). least_with best (flat_map f (map see l))) (drop_more list i d within) ∙ least_append best _ _

pub least_all : {A B : Type 0} (see : A → B) (f : B → List LineFault) (list : List A) (i : ℕ) (best : Option LineFault) → length list ≤ i
    → least_with best (flat_map f (map see (drop i list))) ≡ best
least_all {A} see f list i best past = ap (λ (l : List A). least_with best (flat_map f (map see l))) (drop_all i list past) ∙ least_none best

-- a list of lines, from a place on
pub least_more_plain : {A : Type 0} (f : A → List LineFault) (list : List A) (i : ℕ) (d : A) (best : Option LineFault) → i < length list
    → least_with best (flat_map f (drop i list)) ≡ least_with (least_with best (f (get_or list i d))) (flat_map f (drop (i + 1) list))
least_more_plain {A} f list i d best within = ap (λ (l : List A). least_with best (flat_map f l)) (drop_more list i d within) ∙ least_append best _ _

pub least_all_plain : {A : Type 0} (f : A → List LineFault) (list : List A) (i : ℕ) (best : Option LineFault) → length list ≤ i
    → least_with best (flat_map f (drop i list)) ≡ best
least_all_plain {A} f list i best past = ap (λ (l : List A). least_with best (flat_map f l)) (drop_all i list past) ∙ least_none best

-- no fault where something is so: it isn't
pub if_none : (is : Bool) (code : Code) (line : ℕ) → fault_if is code line ≡ [] → is ≡ false
unfolding fault_if
if_none false code line e = refl
if_none true code line e = absurd (subst is_some e tt)
  where
    is_some : List LineFault → Type 0
    is_some [] = ⊥
    is_some (x ∷ xs) = Unit {0}

-- no fault in two lists: none in the first, none in the second
pub none_first : (xs ys : List LineFault) → xs ++ ys ≡ [] → xs ≡ []
none_first [] ys e = refl
none_first (x ∷ xs) ys e = absurd (subst is_none e tt)
  where
    is_none : List LineFault → Type 0
    is_none [] = ⊥
    is_none (x ∷ xs) = Unit {0}

pub none_second : (xs ys : List LineFault) → xs ++ ys ≡ [] → ys ≡ []
none_second xs ys e = subst (λ (l : List LineFault). l ++ ys ≡ []) (none_first xs ys e) e

pub ruleset least_laws = (least_none, least_append, least_if)
