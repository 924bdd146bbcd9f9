-- Names seen as their bytes.
use Rattle.std.proofs.Common.{◌≡◌, ◌++◌, [], ◌∷◌, ◌∙◌, List, Bor, Bool, true, false, refl, ap, sym, ℕ}
use Rattle.std.specs.Prelude.{map, nat_eq, ◌||◌, if◌then◌else◌}
use Rattle.std.specs.Cmp.Lexicographic.{pointwise}
use Rattle.std.specs.List.{list_any}
use Rattle.std.proofs.lemmas.List.{map-append}
use Rattle.std.proofs.lemmas.List.Folds.{list_any-append}
use Rattle.tdf_expr_names.specs.Names.{has, with_declared}

pub any_map : {A B : Type 0} (f : A → B) (p : B → Bool) (xs : List A) → list_any (λ x. p (f x)) xs ≡ list_any p (map f xs)
any_map f p [] = refl
any_map f p (x ∷ xs) = ap (λ b. p (f x) || b) (any_map f p xs)

pub has_bytes : (names : List (Bor (List ℕ))) (name : List ℕ) → list_any (λ n. pointwise nat_eq name n.now) names ≡ has (map (λ k. k.now) names) name
has_bytes names name = any_map (λ k. k.now) (pointwise nat_eq name) names

map_if : (b : Bool) (names : List (Bor (List ℕ))) (k : Bor (List ℕ))
    → map (λ k. k.now) (if b then names else names ++ k ∷ []) ≡ (if b then map (λ k. k.now) names else map (λ k. k.now) names ++ k.now ∷ [])
map_if true names k = refl
map_if false names k = map-append (λ k. k.now) names (k ∷ [])

pub added_bytes : (names : List (Bor (List ℕ))) (k : Bor (List ℕ))
    → map (λ k. k.now) (if list_any (λ n. pointwise nat_eq k.now n.now) names then names else names ++ k ∷ []) ≡ with_declared (map (λ k. k.now) names) k.now
added_bytes names k = map_if (list_any (λ n. pointwise nat_eq k.now n.now) names) names k
    ∙ ap (λ b. if b then map (λ k. k.now) names else map (λ k. k.now) names ++ k.now ∷ []) (has_bytes names k.now)

pub has_both : (own loops : List (List ℕ)) (name : List ℕ) → has (own ++ loops) name ≡ (has own name || has loops name)
has_both own loops name = list_any-append (pointwise nat_eq name) own loops

pub has_loop : (own loops : List (List ℕ)) (name : List ℕ) → has own name ≡ false → has loops name ≡ has (own ++ loops) name
has_loop own loops name other = sym (has_both own loops name ∙ ap (λ b. b || has loops name) other)

pub has_own : (own loops : List (List ℕ)) (name : List ℕ) → has own name ≡ true → has (own ++ loops) name ≡ true
has_own own loops name is = has_both own loops name ∙ ap (λ b. b || has loops name) is

pub ruleset scope_laws = (has_bytes, has_both)
