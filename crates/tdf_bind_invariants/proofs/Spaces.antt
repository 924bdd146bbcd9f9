-- Name spaces whose names differ: what stands at the place of a name.
use Rattle.std.proofs.Common.{◌≡◌, ◌≢◌, ◌∙◌, ℕ, zero, suc, ◌+◌, Bool, true, false, not, cond, List, [], ◌∷◌, ◌++◌, Option, Some, None, length, map, refl, sym, ap, subst, true≢false, arith}
use Rattle.std.proofs.lemmas.Bool.Decides.{nat_tests}
use Rattle.std.proofs.lemmas.Cmp.{nat_list_eq_equiv}
use Rattle.std.proofs.lemmas.Option.{same_Some, none-some}
use Rattle.std.specs.Cmp.Lexicographic.{pointwise, same_text}
use Rattle.std.specs.List.{AllByRecursion, list_any, prefix_len}
use Rattle.std.specs.Option.{option_map}
use Rattle.std.specs.Prelude.{◌||◌, if◌then◌else◌, nat_eq, nat_lt, slice_get}
use Rattle.tdf_expr_symbols.specs.Names.{Names, Thing, no_names, place_in, thing_of, with_name}

-- each item differs from those after it
abbrev pub Differ : {A : Type 0} → List A → Type 0
Differ [] = Unit {0}
Differ (x ∷ xs) = AllByRecursion (λ y. x ≢ y) xs × Differ xs

same_name : (a b : List ℕ) → pointwise nat_eq a b ≡ true → a ≡ b
same_name a b e = same_text a b (sym e)

is_itself : (a : List ℕ) → pointwise nat_eq a a ≡ true
is_itself a = nat_list_eq_equiv.refl a

-- places in lists of names
either : (n : ℕ) (b : Bool) → cond b (Some (1 + n)) None ≡ option_map suc (cond b (Some n) None)
either n true = let one : 1 + n ≡ suc n = omega arith in ap Some one
either n false = refl

some_there : (len : ℕ) → nat_lt 0 (suc len) ≡ true
some_there len = grind (arith, nat_tests)

less_same : (n len : ℕ) → nat_lt (1 + n) (suc len) ≡ nat_lt n len
less_same n len = grind (arith, nat_tests)

moved_on : (n len : ℕ) → cond (nat_lt (1 + n) (suc len)) (Some (1 + n)) None ≡ option_map suc (cond (nat_lt n len) (Some n) None)
moved_on n len = ap (λ (b : Bool). cond b (Some (1 + n)) None) (less_same n len) ∙ either n (nat_lt n len)

pub place_next : (x : List ℕ) (xs : List (List ℕ)) (name : List ℕ) → place_in (x ∷ xs) name ≡ (if pointwise nat_eq name x then Some 0 else option_map suc (place_in xs name))
place_next x xs name = go (pointwise nat_eq name x)
  where
    p : List ℕ → Bool
    p y = not (pointwise nat_eq name y)

    go : (b : Bool) → cond (nat_lt (cond (not b) (1 + prefix_len p xs) 0) (suc (length xs))) (Some (cond (not b) (1 + prefix_len p xs) 0)) None
        ≡ (if b then Some 0 else option_map suc (place_in xs name))
    go true = ap (λ (c : Bool). cond c (Some 0) None) (some_there (length xs))
    go false = moved_on (prefix_len p xs) (length xs)

pub found_at : (names : List (List ℕ)) (name : List ℕ) (n : ℕ) → place_in names name ≡ Some n → slice_get names n ≡ Some name
found_at [] name n at = absurd cc
found_at (x ∷ xs) name n at = go (λ k e. found_at xs name k e) (pointwise nat_eq name x) refl (place_in xs name) refl n (sym (place_next x xs name) ∙ at)
  where
    go : ((k : ℕ) → place_in xs name ≡ Some k → slice_get xs k ≡ Some name) → (b : Bool) → pointwise nat_eq name x ≡ b → (o : Option ℕ) → place_in xs name ≡ o → (n : ℕ) → (if b then Some 0 else option_map suc o) ≡ Some n → slice_get (x ∷ xs) n ≡ Some name
    go later true same o is n e = subst (λ k. slice_get (x ∷ xs) k ≡ Some name) (same_Some 0 n e) (ap Some (sym (same_name name x same)))
    go later false same None is n e = absurd (none-some n e)
    go later false same (Some k) is n e = subst (λ j. slice_get (x ∷ xs) j ≡ Some name) (same_Some (suc k) n e) (later k is)

-- a name that is there has a place
pub not_missing : (names : List (List ℕ)) (name : List ℕ) (n : ℕ) → slice_get names n ≡ Some name → place_in names name ≡ None → ⊥
not_missing [] name n at none = none-some name at
not_missing (x ∷ xs) name zero at none =
    let same : pointwise nat_eq name x ≡ true = ap (pointwise nat_eq name) (same_Some x name at) ∙ is_itself name in
    none-some 0 (sym none ∙ place_next x xs name ∙ ap (λ (b : Bool). if b then Some 0 else option_map suc (place_in xs name)) same)
not_missing (x ∷ xs) name (suc n) at none = go (λ e. not_missing xs name n at e) (pointwise nat_eq name x) (place_in xs name) refl (sym (place_next x xs name) ∙ none)
  where
    go : (place_in xs name ≡ None → ⊥) → (b : Bool) (o : Option ℕ) → place_in xs name ≡ o → (if b then Some 0 else option_map suc o) ≡ None → ⊥
    go later true o is e = none-some 0 (sym e)
    go later false (Some k) is e = none-some (suc k) (sym e)
    go later false None is e = later is

item_at : {A : Type 0} (P : A → Type 0) (xs : List A) → AllByRecursion P xs → (n : ℕ) (x : A) → slice_get xs n ≡ Some x → P x
item_at P [] all n x at = absurd (none-some x at)
item_at P (y ∷ ys) all zero x at = subst P (same_Some y x at) all.0
item_at P (y ∷ ys) all (suc n) x at = item_at P ys all.1 n x at

-- the place of a name is the only one where it is
pub place_is : (names : List (List ℕ)) → Differ names → (name : List ℕ) (n : ℕ) → slice_get names n ≡ Some name → place_in names name ≡ Some n
place_is [] differ name n at = absurd (none-some name at)
place_is (x ∷ xs) differ name zero at =
    let same : pointwise nat_eq name x ≡ true = ap (pointwise nat_eq name) (same_Some x name at) ∙ is_itself name in
    place_next x xs name ∙ ap (λ (b : Bool). if b then Some 0 else option_map suc (place_in xs name)) same
place_is (x ∷ xs) differ name (suc n) at = place_next x xs name ∙ go (place_is xs differ.1 name n at) (pointwise nat_eq name x) refl
  where
    go : place_in xs name ≡ Some n → (b : Bool) → pointwise nat_eq name x ≡ b → (if b then Some 0 else option_map suc (place_in xs name)) ≡ Some (suc n)
    go later true same = absurd (item_at (λ y. x ≢ y) xs differ.0 n name at (sym (same_name name x same)))
    go later false same = ap (option_map suc) later

-- declarations one after the other
pub record Pair : Type 0 where
  pub name : List ℕ
  pub thing : Thing

abbrev pub pair : List ℕ → Thing → Pair
pair name thing = record { name = name; thing = thing }

abbrev pub name_in : Pair → List ℕ
name_in p = p.name

abbrev pub thing_in : Pair → Thing
thing_in p = p.thing

abbrev pub with_pairs : List Pair → Names → Names
with_pairs [] s = s
with_pairs (p ∷ ps) s = with_pairs ps (with_name p.name p.thing s)

or_false : (a b : Bool) → a ≡ false → b ≡ false → a || b ≡ false
or_false false b e f = f
or_false true b e f = absurd (true≢false e)

fresh : (xs : List (List ℕ)) (name : List ℕ) (ys : List (List ℕ)) → Differ (xs ++ name ∷ ys) → list_any (pointwise nat_eq name) xs ≡ false
fresh [] name ys differ = refl
fresh (x ∷ xs) name ys differ = or_false (pointwise nat_eq name x) (list_any (pointwise nat_eq name) xs) (go (pointwise nat_eq name x) refl) (fresh xs name ys differ.1)
  where
    among : (zs : List (List ℕ)) → AllByRecursion (λ y. x ≢ y) (zs ++ name ∷ ys) → x ≢ name
    among [] all = all.0
    among (z ∷ zs) all = among zs all.1

    go : (b : Bool) → pointwise nat_eq name x ≡ b → b ≡ false
    go false e = refl
    go true e = absurd (among xs differ.0 (sym (same_name name x e)))

plain_step : (name : List ℕ) (thing : Thing) (s : Names) → list_any (pointwise nat_eq name) s.names ≡ false
    → with_name name thing s ≡ record { names = s.names ++ name ∷ []; things = s.things ++ thing ∷ [] }
unfolding with_name
plain_step name thing s new = rw new refl

pub pairs_plain : (ps : List Pair) (s : Names) → Differ (s.names ++ map name_in ps)
    → with_pairs ps s ≡ record { names = s.names ++ map name_in ps; things = s.things ++ map thing_in ps }
pairs_plain [] s differ = rw (append_nil s.names, append_nil s.things) refl
  where
    append_nil : {A : Type 0} (xs : List A) → xs ++ [] ≡ xs
    append_nil [] = refl
    append_nil (x ∷ xs) = ap (λ l. x ∷ l) (append_nil xs)
pairs_plain (p ∷ ps) s differ =
    let next : Names = record { names = s.names ++ p.name ∷ []; things = s.things ++ p.thing ∷ [] } in
    ap (with_pairs ps) (plain_step p.name p.thing s (fresh s.names p.name (map name_in ps) differ))
    ∙ pairs_plain ps next (subst Differ (sym (append_one s.names p.name (map name_in ps))) differ)
    ∙ (λ i. record { names = append_one s.names p.name (map name_in ps) i; things = append_one s.things p.thing (map thing_in ps) i })
  where
    append_one : {A : Type 0} (xs : List A) (x : A) (ys : List A) → (xs ++ x ∷ []) ++ ys ≡ xs ++ x ∷ ys
    append_one [] x ys = refl
    append_one (z ∷ xs) x ys = ap (λ l. z ∷ l) (append_one xs x ys)

-- what the name at a place stands for
pub pair_found : (ps : List Pair) → Differ (map name_in ps) → (n : ℕ) (p : Pair) → slice_get ps n ≡ Some p → thing_of (with_pairs ps no_names) p.name ≡ Some p.thing
pair_found ps differ n p at =
    ap (λ (s : Names). thing_of s p.name) (pairs_plain ps no_names differ)
    ∙ ap (at_pair (map thing_in ps)) (place_is (map name_in ps) differ p.name n (mapped name_in ps n p at))
    ∙ mapped thing_in ps n p at
  where
    at_pair : List Thing → Option ℕ → Option Thing
    at_pair things None = None
    at_pair things (Some k) = slice_get things k

    mapped : {B : Type 0} (f : Pair → B) (qs : List Pair) (k : ℕ) (q : Pair) → slice_get qs k ≡ Some q → slice_get (map f qs) k ≡ Some (f q)
    mapped f [] k q e = absurd (none-some q e)
    mapped f (r ∷ qs) zero q e = ap (λ (o : Option Pair). option_map f o) e
    mapped f (r ∷ qs) (suc k) q e = mapped f qs k q e

-- and where a name that stands for something is
pub pair_at : (ps : List Pair) → Differ (map name_in ps) → (name : List ℕ) (thing : Thing) → thing_of (with_pairs ps no_names) name ≡ Some thing
    → (n : ℕ) × (slice_get ps n ≡ Some (pair name thing))
pair_at ps differ name thing is = go (place_in (map name_in ps) name) refl (ap (λ (s : Names). thing_of s name) (sym (pairs_plain ps no_names differ)) ∙ is)
  where
    at_pair : List Thing → Option ℕ → Option Thing
    at_pair things None = None
    at_pair things (Some k) = slice_get things k

    both : (qs : List Pair) (k : ℕ) → slice_get (map name_in qs) k ≡ Some name → slice_get (map thing_in qs) k ≡ Some thing → slice_get qs k ≡ Some (pair name thing)
    both [] k e f = absurd (none-some name e)
    both (q ∷ qs) zero e f = ap Some (λ i. record { name = same_Some q.name name e i; thing = same_Some q.thing thing f i })
    both (q ∷ qs) (suc k) e f = both qs k e f

    go : (o : Option ℕ) → place_in (map name_in ps) name ≡ o → at_pair (map thing_in ps) (place_in (map name_in ps) name) ≡ Some thing → (n : ℕ) × (slice_get ps n ≡ Some (pair name thing))
    go None at e = absurd (none-some thing (ap (at_pair (map thing_in ps)) (sym at) ∙ e))
    go (Some n) at e = (n, both ps n (found_at (map name_in ps) name n at) (ap (at_pair (map thing_in ps)) (sym at) ∙ e))
