-- Loops over declarations, lines and labels: one more of them.
use Rattle.std.proofs.Common.{◌≡◌, ◌∙◌, ℕ, ◌+◌, ◌<◌, Bool, not, ◌||◌, List, [], ◌∷◌, ◌++◌, Option, Some, None, map, length, take, get_or, append_assoc, append-nil, refl, sym, ap}
use Rattle.std.proofs.lemmas.List.{get_or-map, map_more, take_more}
use Rattle.std.specs.Cmp.Lexicographic.{pointwise}
use Rattle.std.specs.List.{flat_map}
use Rattle.std.specs.Option.{option_map, option_or}
use Rattle.std.specs.Prelude.{filter, if◌then◌else◌, is_some, nat_eq}
use Rattle.tdf_lang_tree.specs.Views.{pure_global}
use Rattle.tdf_lang_tree.specs.declared.blocks.Member.{Member}
use Rattle.tdf_lang_tree.specs.declared.shapes.Shape.{Shape}
use Rattle.tdf_lang_tree.specs.declared.tree.Global1.{Global1}
use Rattle.tdf_stim.proofs.Maps.{in_flat_push, in_push, source_push, type_push}
use Rattle.tdf_stim.specs.Driven.{is_listed, name_of_global, member_names}
use Rattle.tdf_stim.specs.Signals.{SourceOf, type_named}
use Rattle.tdf_stim.specs.declared.signals.Source.{Source}
use Rattle.tdf_stim.specs.machine.Maps.{seen, source_by, source_of_member, type_of}

pub types_more : (old new : List ℕ → Option Shape) (globals : List Global1) (i : ℕ) (g : Global1) → i < length globals → g ≡ get_or globals i g
    → ((name : List ℕ) → old name ≡ type_named (map pure_global (take i globals)) name)
    → ((name : List ℕ) → new name ≡ option_or (old name) (type_of name (pure_global g)))
    → (name : List ℕ) → new name ≡ type_named (map pure_global (take (i + 1) globals)) name
types_more old new globals i g within here done step name =
    step name ∙ ap (λ o. option_or o (type_of name (pure_global g))) (done name)
    ∙ sym (type_push (map pure_global (take i globals)) (pure_global g) name)
    ∙ ap (λ gs. type_named gs name) (sym (map_more pure_global globals i g within ∙ ap (λ x. map pure_global (take i globals) ++ pure_global x ∷ []) (sym here)))

pub signals_more : (type : List ℕ → Option Shape) (old new : List ℕ → Option SourceOf) (members : List Member) (i : ℕ) (m : Member) → i < length members → m ≡ get_or members i m
    → ((label : List ℕ) → old label ≡ source_by type (take i members) label)
    → ((label : List ℕ) → new label ≡ option_or (old label) (source_of_member type label m))
    → (label : List ℕ) → new label ≡ source_by type (take (i + 1) members) label
signals_more type old new members i m within here done step label =
    step label ∙ ap (λ o. option_or o (source_of_member type label m)) (done label)
    ∙ sym (source_push type (take i members) m label)
    ∙ ap (λ ms. source_by type ms label) (sym (take_more members i m within ∙ ap (λ x. take i members ++ x ∷ []) (sym here)))

pub globals_more : (held old new : List ℕ → Bool) (globals : List Global1) (i : ℕ) (g : Global1) → i < length globals → g ≡ get_or globals i g
    → ((name : List ℕ) → old name ≡ (held name || is_listed (map name_of_global (map pure_global (take i globals))) name))
    → ((name : List ℕ) → new name ≡ (old name || pointwise nat_eq name (name_of_global (pure_global g))))
    → (name : List ℕ) → new name ≡ (held name || is_listed (map name_of_global (map pure_global (take (i + 1) globals))) name)
globals_more held old new globals i g within here done step name =
    step name ∙ ap (λ b. b || pointwise nat_eq name (name_of_global (pure_global g))) (done name)
    ∙ in_push name_of_global (map pure_global (take i globals)) (pure_global g) name (held name)
    ∙ ap (λ gs. held name || is_listed (map name_of_global gs) name) (sym (map_more pure_global globals i g within ∙ ap (λ x. map pure_global (take i globals) ++ pure_global x ∷ []) (sym here)))

pub members_more : (held old new : List ℕ → Bool) (members : List Member) (i : ℕ) (m : Member) → i < length members → m ≡ get_or members i m
    → ((name : List ℕ) → old name ≡ (held name || is_listed (flat_map member_names (take i members)) name))
    → ((name : List ℕ) → new name ≡ (old name || is_listed (member_names m) name))
    → (name : List ℕ) → new name ≡ (held name || is_listed (flat_map member_names (take (i + 1) members)) name)
members_more held old new members i m within here done step name =
    step name ∙ ap (λ b. b || is_listed (member_names m) name) (done name)
    ∙ in_flat_push member_names (take i members) m name (held name)
    ∙ ap (λ ms. held name || is_listed (flat_map member_names ms) name) (sym (take_more members i m within ∙ ap (λ x. take i members ++ x ∷ []) (sym here)))

-- ---- labels

-- the labels that were looked at, and those that are left
pub record AreSeen (found : List ℕ → Option SourceOf) (drive : List (Option SourceOf)) (others : List (List ℕ)) (left labels : List (List ℕ)) : Type 0 where
  pub sources : drive ++ map found left ≡ map found labels
  pub ignored : others ++ filter (λ label. not (is_some (found label))) left ≡ filter (λ label. not (is_some (found label))) labels

pub seen_none : (found : List ℕ → Option SourceOf) (sources : List (Option SourceOf)) (ignored labels : List (List ℕ)) → sources ≡ [] → ignored ≡ [] → AreSeen found sources ignored labels labels
seen_none found sources ignored labels none no_others = record {
  sources = ap (λ l. l ++ map found labels) none;
  ignored = ap (λ l. l ++ filter (λ label. not (is_some (found label))) labels) no_others;
}

pub still_some : {A B : Type 0} (f : A → B) (o : Option A) → is_some o ≡ is_some (option_map f o)
still_some f None = refl
still_some f (Some x) = refl

left_out : (found : List ℕ → Option SourceOf) (label : List ℕ) (left : List (List ℕ)) (o : Option SourceOf) → found label ≡ o
    → filter (λ label. not (is_some (found label))) (label ∷ left) ≡ (if is_some o then [] else label ∷ []) ++ filter (λ label. not (is_some (found label))) left
left_out found label left None is = rw is refl
left_out found label left (Some s) is = rw is refl

pub seen_more : (found : List ℕ → Option SourceOf) (sources more_sources : List (Option SourceOf)) (ignored more_ignored : List (List ℕ)) (words left labels : List (List ℕ)) (label : List ℕ) (o : Option SourceOf)
    → AreSeen found sources ignored words labels → words ≡ label ∷ left → found label ≡ o → more_sources ≡ sources ++ o ∷ []
    → more_ignored ≡ ignored ++ (if is_some o then [] else label ∷ []) → AreSeen found more_sources more_ignored left labels
seen_more found sources more_sources ignored more_ignored words left labels label o h words_are is more_is others_are = record {
  sources = ap (λ l. l ++ map found left) more_is ∙ append_assoc sources (o ∷ []) (map found left)
      ∙ ap (λ x. sources ++ x ∷ map found left) (sym is) ∙ ap (λ ws. sources ++ map found ws) (sym words_are) ∙ h.sources;
  ignored = ap (λ l. l ++ filter (λ label. not (is_some (found label))) left) others_are
      ∙ append_assoc ignored (if is_some o then [] else label ∷ []) (filter (λ label. not (is_some (found label))) left)
      ∙ ap (λ l. ignored ++ l) (sym (left_out found label left o is)) ∙ ap (λ ws. ignored ++ filter (λ label. not (is_some (found label))) ws) (sym words_are) ∙ h.ignored;
}

pub seen_all : (found : List ℕ → Option SourceOf) (sources : List (Option SourceOf)) (ignored : List (List ℕ)) (words labels : List (List ℕ)) → AreSeen found sources ignored words labels → words ≡ []
    → (sources ≡ map found labels) × (ignored ≡ filter (λ label. not (is_some (found label))) labels)
seen_all found sources ignored words labels h none = (
  sym (append-nil sources) ∙ ap (λ ws. sources ++ map found ws) (sym none) ∙ h.sources,
  sym (append-nil ignored) ∙ ap (λ ws. ignored ++ filter (λ label. not (is_some (found label))) ws) (sym none) ∙ h.ignored,
)

-- the same labels, found by another function that agrees
pub map_same : {B : Type 0} (f g : List ℕ → B) → ((x : List ℕ) → f x ≡ g x) → (xs : List (List ℕ)) → map f xs ≡ map g xs
map_same f g same [] = refl
map_same f g same (x ∷ xs) = ap (λ y. y ∷ map f xs) (same x) ∙ ap (λ ys. g x ∷ ys) (map_same f g same xs)

-- the source at a place, seen
pub seen_at : (sources : List (Option Source)) (i : ℕ) (s : Option Source) → i < length sources → s ≡ get_or sources i s → seen s ≡ get_or (map seen sources) i (seen s)
seen_at sources i s within here = ap seen here ∙ sym (get_or-map seen sources i s (seen s) within)
