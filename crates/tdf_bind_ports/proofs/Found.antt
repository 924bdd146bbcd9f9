-- Names found by a map; pairs of names.
use Rattle.std.proofs.Common.{◌≡◌, ◌∙◌, ℕ, ◌+◌, ◌≤◌, Bool, true, false, List, [], ◌∷◌, ◌++◌, Bor, Option, Some, None, refl, sym, ap, length, arith}
use Rattle.std.proofs.lemmas.Bool.Decides.{nat_tests}
use Rattle.std.proofs.lemmas.List.{map-append, length_push}
use Rattle.std.proofs.lemmas.List.Folds.{prefix_len-append}
use Rattle.std.proofs.lemmas.List.Sums.{prefix_len-le-length}
use Rattle.std.specs.Cmp.Lexicographic.{pointwise, same_text}
use Rattle.std.specs.List.{list_any, prefix_len}
use Rattle.std.specs.Prelude.{map, nat_eq, nat_lt, not, cond, ◌||◌, ◌&&◌, if◌then◌else◌}
use Rattle.indexmap.specs.IndexMap.{IndexMap, get_by}
use Rattle.tdf_expr_symbols.specs.Names.{place_in}
use Rattle.tdf_expr_symbols.specs.Scope.{first_some}
use Rattle.tdf_bind_ports.specs.machine.Index.{Finds}
use Rattle.tdf_bind_ports.specs.machine.Pairs.{has_pair, with_pair}

pub map_push : {A B : Type 0} (f : A → B) (xs : List A) (x : A) → map f (xs ++ x ∷ []) ≡ map f xs ++ f x ∷ []
map_push f xs x = map-append f xs (x ∷ [])

-- a place in a list and one more, by the place in the list
abbrev placed : ℕ → ℕ → Option ℕ
placed n len = cond (nat_lt n len) (Some n) None

placed_more : (n len : ℕ) (b : Bool) → n ≤ len → placed (cond (nat_eq n len) (len + cond (not b) 1 0) n) (len + 1) ≡ first_some (placed n len) (if b then Some len else None)
placed_more n len true within = grind (arith, nat_tests)
placed_more n len false within = grind (arith, nat_tests)

pub place_push : (names : List (List ℕ)) (k name : List ℕ) → place_in (names ++ k ∷ []) name ≡ first_some (place_in names name) (if pointwise nat_eq name k then Some (length names) else None)
place_push names k name =
    let p = λ (x : List ℕ). pointwise nat_eq name x in
    ap (λ n. placed n (length (names ++ k ∷ []))) (prefix_len-append (λ x. not (p x)) names (k ∷ []))
    ∙ ap (placed _) (length_push names k)
    ∙ placed_more (prefix_len (λ x. not (p x)) names) (length names) (p k) (prefix_len-le-length (λ x. not (p x)) names)

there : (names : List (List ℕ)) (k name : List ℕ) (n : ℕ) (b : Bool) → pointwise nat_eq name k ≡ b → place_in names k ≡ Some n
    → (o : Option ℕ) → place_in names name ≡ o → first_some o (if b then Some (length names) else None) ≡ o
there names k name n b is at (Some m) e = refl
there names k name n false is at None e = refl
there names k name n true is at None e = let f : Some n ≡ None = sym at ∙ ap (place_in names) (sym (same_text name k (sym is))) ∙ e in cc

-- a name that is there already
pub finds_stays : {S : Type 0} (m : IndexMap (Bor (List ℕ)) ℕ S) (names : List (List ℕ)) (k : List ℕ) (n : ℕ) → Finds m names → place_in names k ≡ Some n → Finds m (names ++ k ∷ [])
finds_stays m names k n finds at = record {
  each = λ name. finds.each name ∙ sym (place_push names k name ∙ there names k name n (pointwise nat_eq name k) refl at (place_in names name) refl);
}

turned : (a b : List ℕ) (s t : Bool) → pointwise nat_eq a b ≡ s → pointwise nat_eq b a ≡ t → s ≡ t
turned a b true true e f = refl
turned a b false false e f = refl
turned a b true false e f = let same = same_text a b (sym e) in sym e ∙ ap (λ x. pointwise nat_eq x b) same ∙ ap (pointwise nat_eq b) (sym same) ∙ f
turned a b false true e f = let same = same_text b a (sym f) in sym e ∙ ap (λ x. pointwise nat_eq x b) (sym same) ∙ ap (pointwise nat_eq b) same ∙ f

new_or_there : (names : List (List ℕ)) (k name : List ℕ) (b : Bool) → pointwise nat_eq name k ≡ b → place_in names k ≡ None
    → cond b (Some (length names)) (place_in names name) ≡ first_some (place_in names name) (if b then Some (length names) else None)
new_or_there names k name true is new = sym (ap (λ o. first_some o (Some (length names))) (ap (place_in names) (same_text name k (sym is)) ∙ new))
new_or_there names k name false is new = none (place_in names name)
  where
    none : (o : Option ℕ) → o ≡ first_some o None
    none None = refl
    none (Some n) = refl

-- a name that is new
pub finds_more : {S : Type 0} (m n : IndexMap (Bor (List ℕ)) ℕ S) (names : List (List ℕ)) (k : List ℕ) (place : ℕ) → Finds m names → place_in names k ≡ None → place ≡ length names
    → ((name : List ℕ) → get_by (λ x. pointwise nat_eq name x.now) n ≡ cond (pointwise nat_eq k name) (Some place) (get_by (λ x. pointwise nat_eq name x.now) m)) → Finds n (names ++ k ∷ [])
finds_more m n names k place finds new is step = record {
  each = λ name.
      step name
      ∙ ap (λ o. cond (pointwise nat_eq k name) (Some place) o) (finds.each name)
      ∙ ap (λ b. cond b (Some place) (place_in names name)) (turned k name _ _ refl refl)
      ∙ ap (λ p. cond (pointwise nat_eq name k) (Some p) (place_in names name)) is
      ∙ new_or_there names k name (pointwise nat_eq name k) refl new
      ∙ sym (place_push names k name);
}

any_map : {A B : Type 0} (f : A → B) (p : B → Bool) (xs : List A) → list_any (λ x. p (f x)) xs ≡ list_any p (map f xs)
any_map f p [] = refl
any_map f p (x ∷ xs) = ap (λ b. p (f x) || b) (any_map f p xs)

abbrev seen_pair : (Bor (List ℕ) × Bor (List ℕ)) → (List ℕ × List ℕ)
seen_pair k = (k.0.now, k.1.now)

pub has_pairs : (keys : List (Bor (List ℕ) × Bor (List ℕ))) (instance port : List ℕ)
    → list_any (λ k. pointwise nat_eq instance k.0.now && pointwise nat_eq port k.1.now) keys ≡ has_pair (map (λ k. (k.0.now, k.1.now)) keys) instance port
has_pairs keys instance port = any_map seen_pair (λ p. pointwise nat_eq instance p.0 && pointwise nat_eq port p.1) keys

map_if : (b : Bool) (keys : List (Bor (List ℕ) × Bor (List ℕ))) (k : Bor (List ℕ) × Bor (List ℕ))
    → map seen_pair (if b then keys else keys ++ k ∷ []) ≡ (if b then map seen_pair keys else map seen_pair keys ++ seen_pair k ∷ [])
map_if true keys k = refl
map_if false keys k = map-append seen_pair keys (k ∷ [])

pub added_pair : (keys : List (Bor (List ℕ) × Bor (List ℕ))) (instance port : Bor (List ℕ))
    → map (λ k. (k.0.now, k.1.now)) (if list_any (λ k. pointwise nat_eq instance.now k.0.now && pointwise nat_eq port.now k.1.now) keys then keys else keys ++ (instance, port) ∷ [])
    ≡ with_pair instance.now port.now (map (λ k. (k.0.now, k.1.now)) keys)
added_pair keys instance port = map_if _ keys (instance, port)
    ∙ ap (λ b. if b then map seen_pair keys else map seen_pair keys ++ (instance.now, port.now) ∷ []) (has_pairs keys instance.now port.now)
