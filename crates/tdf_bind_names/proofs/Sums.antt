-- Sums that stop at the greatest number.
use Rattle.std.proofs.Common.{◌≡◌, ◌∙◌, ℕ, ◌+◌, ◌<◌, ◌≤◌, List, [], ◌∷◌, ◌++◌, length, take, drop, refl, sym, ap, arith, append_assoc}
use Rattle.std.proofs.Math.ListN.{get_or}
use Rattle.std.proofs.lemmas.List.{drop_more, drop_all, take_more, take_all, map-append, append-nil}
use Rattle.std.proofs.lemmas.List.Sums.{sum_by_push}
use Rattle.std.specs.List.{flat_map, sum_by}
use Rattle.std.specs.Prelude.{map}
use Rattle.tdf_bind_names.proofs.Lists.{flat_append}
use Rattle.tdf_bind_names.specs.Counts.{de_line_weight, instance_weight, tdf_line_weight, weight_of, weights_of}
use Rattle.tdf_bind_names.specs.declared.measures.Measure.{Measure}
use Rattle.tdf_bind_names.specs.declared.measures.Measure.TheVariants as measure
use Rattle.tdf_bind_names.specs.machine.Counts.{capped}
use Rattle.tdf_lang_tree.specs.Pure.{GNet}
use Rattle.tdf_lang_tree.specs.Views.{pure_de_line, pure_global, pure_tdf_line, pure_tree}
use Rattle.tdf_lang_tree.specs.declared.blocks.DeLine.{DeLine}
use Rattle.tdf_lang_tree.specs.declared.blocks.TdfLine.{TdfLine}
use Rattle.tdf_lang_tree.specs.declared.tree.Global1.{Global1}
use Rattle.tdf_lang_tree.specs.declared.tree.Tree.{Tree}

pub cap_zero : capped 0 ≡ 0
unfolding capped
cap_zero = refl

pub cap_left : (a b : ℕ) → capped (capped a + b) ≡ capped (a + b)
unfolding capped
cap_left a b = omega arith

pub cap_right : (a b : ℕ) → capped (a + capped b) ≡ capped (a + b)
unfolding capped
cap_right a b = omega arith

pub cap_twice : (a : ℕ) → capped (capped a) ≡ capped a
unfolding capped
cap_twice a = omega arith

pub cap_instance : (m : Measure) → capped (instance_weight m) ≡ instance_weight m
unfolding capped
cap_instance measure.Instances = refl
cap_instance measure.Ports = refl
cap_instance measure.Signals = refl
cap_instance measure.Cells = refl
cap_instance measure.Processes = refl
cap_instance measure.Events = refl

pub ruleset cap_laws = (cap_zero, cap_left, cap_right, cap_instance)

-- one line more
sum_more : {A B : Type 0} (see : A → B) (f : B → ℕ) (list : List A) (i : ℕ) (d : A) → i < length list
    → capped (capped (sum_by f (map see (take i list))) + f (see (get_or list i d))) ≡ capped (sum_by f (map see (take (i + 1) list)))
sum_more {A} {B} see f list i d within =
    cap_left (sum_by f (map see (take i list))) (f (see (get_or list i d)))
    ∙ ap capped (sym (sum_by_push f (map see (take i list)) (see (get_or list i d))))
    ∙ ap (λ (l : List B). capped (sum_by f l)) (sym (map-append see (take i list) (get_or list i d ∷ [])))
    ∙ ap (λ (l : List A). capped (sum_by f (map see l))) (sym (take_more list i d within))

sum_all : {A B : Type 0} (see : A → B) (f : B → ℕ) (list : List A) (i : ℕ) → length list ≤ i → capped (sum_by f (map see (take i list))) ≡ capped (sum_by f (map see list))
sum_all {A} see f list i past = ap (λ (l : List A). capped (sum_by f (map see l))) (take_all i list past)

pub tdf_more : (m : Measure) (list : List TdfLine) (i : ℕ) (d : TdfLine) → i < length list
    → capped (capped (sum_by (tdf_line_weight m) (map pure_tdf_line (take i list))) + tdf_line_weight m (pure_tdf_line (get_or list i d)))
    ≡ capped (sum_by (tdf_line_weight m) (map pure_tdf_line (take (i + 1) list)))
tdf_more m = sum_more pure_tdf_line (tdf_line_weight m)

pub tdf_all : (m : Measure) (list : List TdfLine) (i : ℕ) → length list ≤ i
    → capped (sum_by (tdf_line_weight m) (map pure_tdf_line (take i list))) ≡ capped (sum_by (tdf_line_weight m) (map pure_tdf_line list))
tdf_all m = sum_all pure_tdf_line (tdf_line_weight m)

pub ruleset tdf_laws = (cap_zero, tdf_more, tdf_all)

pub de_more : (m : Measure) (list : List DeLine) (i : ℕ) (d : DeLine) → i < length list
    → capped (capped (sum_by (de_line_weight m) (map pure_de_line (take i list))) + de_line_weight m (pure_de_line (get_or list i d)))
    ≡ capped (sum_by (de_line_weight m) (map pure_de_line (take (i + 1) list)))
de_more m = sum_more pure_de_line (de_line_weight m)

pub de_all : (m : Measure) (list : List DeLine) (i : ℕ) → length list ≤ i
    → capped (sum_by (de_line_weight m) (map pure_de_line (take i list))) ≡ capped (sum_by (de_line_weight m) (map pure_de_line list))
de_all m = sum_all pure_de_line (de_line_weight m)

pub ruleset de_laws = (cap_zero, de_more, de_all)

-- the weights of blocks, from a place on
pub weights_more : (m : Measure) (list : List Global1) (i : ℕ) (d : Global1) (out : List ℕ) → i < length list
    → out ++ map capped (flat_map (weight_of m) (map pure_global (drop i list)))
    ≡ (out ++ map capped (weight_of m (pure_global (get_or list i d)))) ++ map capped (flat_map (weight_of m) (map pure_global (drop (i + 1) list)))
weights_more m list i d out within =
    ap (λ (l : List Global1). out ++ map capped (flat_map (weight_of m) (map pure_global l))) (drop_more list i d within)
    ∙ ap (λ (l : List ℕ). out ++ l) (map-append capped (weight_of m (pure_global (get_or list i d))) (flat_map (weight_of m) (map pure_global (drop (i + 1) list))))
    ∙ sym (append_assoc out _ _)

pub weights_all : (m : Measure) (list : List Global1) (i : ℕ) (out : List ℕ) → length list ≤ i
    → out ++ map capped (flat_map (weight_of m) (map pure_global (drop i list))) ≡ out
weights_all m list i out past =
    ap (λ (l : List Global1). out ++ map capped (flat_map (weight_of m) (map pure_global l))) (drop_all i list past) ∙ append-nil out

pub ruleset weight_laws = (weights_more, weights_all)

pub whole_weights : (m : Measure) (tree : Tree) → map capped (weights_of m (pure_tree tree)) ≡ map capped (flat_map (weight_of m) (map pure_global tree.globals.items)) ++ instance_weight m ∷ []
whole_weights m tree =
    ap (map capped) (flat_append (weight_of m) (map pure_global tree.globals.items) (GNet (pure_tree tree).top ∷ []))
    ∙ map-append capped (flat_map (weight_of m) (map pure_global tree.globals.items)) (instance_weight m ∷ [])
    ∙ ap (λ (w : ℕ). map capped (flat_map (weight_of m) (map pure_global tree.globals.items)) ++ w ∷ []) (cap_instance m)

pub ruleset whole_laws = (whole_weights)
