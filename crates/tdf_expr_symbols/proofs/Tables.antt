-- Name spaces.
use Rattle.std.proofs.Common.{◌≡◌, ◌++◌, [], ◌∷◌, List, Bor, Bool, true, false, refl, sym, ap, ◌∙◌, ℕ, ◌+◌, Some, length}
use Rattle.std.specs.Prelude.{map, nat_eq, not, ◌||◌, if◌then◌else◌, slice_get, slice_set, cond, position}
use Rattle.std.specs.Cmp.Lexicographic.{pointwise}
use Rattle.std.specs.List.{list_any, prefix_len}
use Rattle.std.specs.Option.{option_map}
use Rattle.std.proofs.lemmas.List.{map-append, length-map, map-set}
use Rattle.std.proofs.lemmas.Option.{slice_get-map}
use Rattle.tdf_expr_symbols.specs.Names.{Thing, with_name, place_in, names_changed}
use Rattle.tdf_expr_symbols.specs.Seen.{seen}
use Rattle.tdf_expr_symbols.specs.declared.things.Thing.{Thing as Held}

any_map : {A B : Type 0} (f : A → B) (p : B → Bool) (xs : List A) → list_any (λ x. p (f x)) xs ≡ list_any p (map f xs)
any_map f p [] = refl
any_map f p (x ∷ xs) = ap (λ b. p (f x) || b) (any_map f p xs)

prefix_map : {A B : Type 0} (f : A → B) (p : B → Bool) (xs : List A) → prefix_len (λ x. not (p (f x))) xs ≡ prefix_len (λ y. not (p y)) (map f xs)
prefix_map f p [] = refl
prefix_map f p (x ∷ xs) = ap (λ n. cond (not (p (f x))) (1 + n) 0) (prefix_map f p xs)

pub position_map : {A B : Type 0} (f : A → B) (p : B → Bool) (xs : List A) → position (λ x. p (f x)) xs ≡ position p (map f xs)
position_map f p xs = rw (prefix_map f p xs, length-map xs f) refl

pub any_bytes : (names : List (Bor (List ℕ))) (name : List ℕ)
    → list_any (λ n. pointwise nat_eq name n.now) names ≡ list_any (pointwise nat_eq name) (map (λ k. k.now) names)
any_bytes names name = any_map (λ k. k.now) (pointwise nat_eq name) names

pub place_bytes : (names : List (Bor (List ℕ))) (name : List ℕ)
    → position (λ n. pointwise nat_eq name n.now) names ≡ place_in (map (λ k. k.now) names) name
place_bytes names name = position_map (λ k. k.now) (pointwise nat_eq name) names

pub map_push : {A B : Type 0} (f : A → B) (xs : List A) (x : A) → map f (xs ++ x ∷ []) ≡ map f xs ++ f x ∷ []
map_push f xs x = map-append f xs (x ∷ [])

not_true : (b : Bool) → not b ≡ true → b ≡ false
not_true false e = refl
not_true true e = sym e

not_false : (b : Bool) → not b ≡ false → b ≡ true
not_false true e = refl
not_false false e = sym e

-- a name that is new, and one that is there
pub added : (keys new : List (Bor (List ℕ))) (name : Bor (List ℕ)) (things : List Thing) (thing : Thing)
    → not (list_any (λ n. pointwise nat_eq name.now n.now) keys) ≡ true
    → new ≡ (if list_any (λ n. pointwise nat_eq name.now n.now) keys then keys else keys ++ name ∷ [])
    → record { names = map (λ k. k.now) new; things = things ++ thing ∷ [] }
    ≡ with_name name.now thing (record { names = map (λ k. k.now) keys; things = things })
unfolding with_name
added keys new name things thing fresh is =
    let absent = not_true _ fresh in
    rw (is, absent, sym (any_bytes keys name.now) ∙ absent, map_push (λ k. k.now) keys name) refl

pub stayed : (keys new : List (Bor (List ℕ))) (name : Bor (List ℕ)) (things : List Thing) (thing : Thing)
    → not (list_any (λ n. pointwise nat_eq name.now n.now) keys) ≡ false
    → new ≡ (if list_any (λ n. pointwise nat_eq name.now n.now) keys then keys else keys ++ name ∷ [])
    → record { names = map (λ k. k.now) new; things = things }
    ≡ with_name name.now thing (record { names = map (λ k. k.now) keys; things = things })
unfolding with_name
stayed keys new name things thing old is =
    let there = not_false _ old in
    rw (is, there, sym (any_bytes keys name.now) ∙ there) refl

pub ruleset table_laws = (any_bytes, map_push)

pub length_seen : (things : List Held) → length (map seen things) ≡ length things
length_seen things = length-map things seen

-- what stands at a place, changed
pub changed_is : (f : Thing → Thing) (names : List (List ℕ)) (name : List ℕ) (things : List Held) (n : ℕ) (held new : Held)
    → place_in names name ≡ Some n → slice_get things n ≡ Some held → seen new ≡ f (seen held)
    → record { names = names; things = map seen (slice_set things n new) } ≡ names_changed f name (record { names = names; things = map seen things })
unfolding names_changed
changed_is f names name things n held new at is same =
    rw (at, slice_get-map seen things n ∙ ap (option_map seen) is, map-set seen things n new ∙ ap (slice_set (map seen things) n) same) refl

pub ruleset change_laws = (length_seen)
