-- Lists of lines, of any kind, from a place on.
use Rattle.std.proofs.Common.{◌≡◌, ◌∙◌, ℕ, ◌+◌, ◌<◌, ◌≤◌, List, [], ◌∷◌, ◌++◌, Option, length, drop, refl, ap}
use Rattle.std.proofs.Math.ListN.{get_or}
use Rattle.std.proofs.lemmas.List.{drop_more, drop_all}
use Rattle.std.specs.List.{flat_map}
use Rattle.std.specs.Prelude.{map}
use Rattle.tdf_base.proofs.Api.{least_none, least_append}
use Rattle.tdf_base.specs.First.{least_with}
use Rattle.tdf_base.specs.declared.first.LineFault.{LineFault}
use Rattle.tdf_expr_names.specs.Names.{Name, with_declared, with_names, in_order}

pub names_append : (names some more : List Name) → with_names names (some ++ more) ≡ with_names (with_names names some) more
names_append names [] more = refl
names_append names (name ∷ some) more = names_append (with_declared names name) some more

-- lines as they are
pub order_more : {L : Type 0} (faults : List Name → L → List LineFault) (declared : L → List Name) (names : List Name) (list : List L) (i : ℕ) (d : L) (first : Option LineFault) → i < length list
    → least_with first (in_order faults declared names (drop i list))
    ≡ least_with (least_with first (faults names (get_or list i d))) (in_order faults declared (with_names names (declared (get_or list i d))) (drop (i + 1) list))
order_more {L} faults declared names list i d first within =
    ap (λ (l : List L). least_with first (in_order faults declared names l)) (drop_more list i d within) ∙ least_append first _ _

pub order_all : {L : Type 0} (faults : List Name → L → List LineFault) (declared : L → List Name) (names : List Name) (list : List L) (i : ℕ) (first : Option LineFault) → length list ≤ i
    → least_with first (in_order faults declared names (drop i list)) ≡ first
order_all {L} faults declared names list i first past = ap (λ (l : List L). least_with first (in_order faults declared names l)) (drop_all i list past) ∙ least_none first

-- lines that are seen through `see`
pub seen_more : {A L : Type 0} (see : A → L) (faults : List Name → L → List LineFault) (declared : L → List Name) (names : List Name) (list : List A) (i : ℕ) (d : A) (first : Option LineFault) → i < length list
    → least_with first (in_order faults declared names (map see (drop i list)))
    ≡ least_with (least_with first (faults names (see (get_or list i d)))) (in_order faults declared (with_names names (declared (see (get_or list i d)))) (map see (drop (i + 1) list)))
seen_more {A} see faults declared names list i d first within =
    ap (λ (l : List A). least_with first (in_order faults declared names (map see l))) (drop_more list i d within) ∙ least_append first _ _

pub seen_all : {A L : Type 0} (see : A → L) (faults : List Name → L → List LineFault) (declared : L → List Name) (names : List Name) (list : List A) (i : ℕ) (first : Option LineFault) → length list ≤ i
    → least_with first (in_order faults declared names (map see (drop i list))) ≡ first
seen_all {A} see faults declared names list i first past = ap (λ (l : List A). least_with first (in_order faults declared names (map see l))) (drop_all i list past) ∙ least_none first

pub names_more : {A L : Type 0} (see : A → L) (declared : L → List Name) (names : List Name) (list : List A) (i : ℕ) (d : A) → i < length list
    → with_names names (flat_map declared (map see (drop i list))) ≡ with_names (with_names names (declared (see (get_or list i d)))) (flat_map declared (map see (drop (i + 1) list)))
names_more {A} see declared names list i d within =
    ap (λ (l : List A). with_names names (flat_map declared (map see l))) (drop_more list i d within)
    ∙ names_append names (declared (see (get_or list i d))) (flat_map declared (map see (drop (i + 1) list)))

pub names_all : {A L : Type 0} (see : A → L) (declared : L → List Name) (names : List Name) (list : List A) (i : ℕ) → length list ≤ i
    → with_names names (flat_map declared (map see (drop i list))) ≡ names
names_all {A} see declared names list i past = ap (λ (l : List A). with_names names (flat_map declared (map see l))) (drop_all i list past)
