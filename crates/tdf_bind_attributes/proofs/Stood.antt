-- What stands after lines.
use Rattle.std.proofs.Common.{◌≡◌, ℕ, Bool, zero, suc, ◌+◌, ◌<◌, ◌≤◌, List, [], ◌∷◌, ◌++◌, Option, Some, length, refl, sym, ap, arith, drop}
use Rattle.std.proofs.Math.ListN.{get_or}
use Rattle.std.proofs.lemmas.Grind.{replicate_next}
use Rattle.std.proofs.lemmas.List.{drop_more, drop_all}
use Rattle.std.specs.Prelude.{slice_get, slice_index_or, slice_set, replicate, map}
use Rattle.tdf_bind_attributes.specs.Standing.{or_else, last_of, module_step, accepting}
use Rattle.tdf_bind_attributes.specs.machine.Standing.{stepped, stepped_all, initial_put, initials_put}
use Rattle.tdf_fixed.specs.Cast.{IsLegal}
use Rattle.tdf_fixed.specs.declared.raw.Raw.{Raw}
use Rattle.tdf_expr_symbols.specs.Names.{Names, Port}
use Rattle.tdf_expr_symbols.specs.Scope.{Scope}
use Rattle.tdf_expr_symbols.specs.Sound.{IsSound}
use Rattle.tdf_lang_tree.specs.Kept.{Each, KeepsInitial, KeepsLit}
use Rattle.tdf_lang_tree.specs.declared.blocks.PortKind.{PortKind}
use Rattle.tdf_lang_tree.specs.declared.shapes.Shape.{Shape}
use Rattle.tdf_lang_tree.specs.declared.stmt.Limit.{Limit}
use Rattle.tdf_lang_tree.specs.declared.blocks.Attr.{Attr}
use Rattle.tdf_lang_tree.specs.declared.blocks.Initial.{Initial}

-- the rest of some lines
pub last_next : {A B : Type 0} (said : A → Option B) (before : B) (xs : List A) (i : ℕ) (d : A) → i < length xs
    → last_of said (or_else (said (get_or xs i d)) before) (drop (i + 1) xs) ≡ last_of said before (drop i xs)
unfolding last_of
last_next said before xs i d within = ap (last_of said before) (sym (drop_more xs i d within))

pub last_none : {A B : Type 0} (said : A → Option B) (before : B) (xs : List A) (i : ℕ) → length xs ≤ i → last_of said before (drop i xs) ≡ before
unfolding last_of
last_none said before xs i past = ap (last_of said before) (drop_all i xs past)

pub module_next : (before : ℕ) (xs : List Attr) (i : ℕ) (d : Attr) → i < length xs
    → last_of module_step (or_else (module_step (get_or xs i d)) before) (drop (i + 1) xs) ≡ last_of module_step before (drop i xs)
module_next before xs i d within = last_next module_step before xs i d within

pub module_none : (before : ℕ) (xs : List Attr) (i : ℕ) → length xs ≤ i → last_of module_step before (drop i xs) ≡ before
module_none before xs i past = last_none module_step before xs i past

pub ruleset module_laws = (module_next, module_none)

pub accept_next : (before : Bool) (xs : List Attr) (i : ℕ) (d : Attr) → i < length xs
    → last_of accepting (or_else (accepting (get_or xs i d)) before) (drop (i + 1) xs) ≡ last_of accepting before (drop i xs)
accept_next before xs i d within = last_next accepting before xs i d within

pub accept_none : (before : Bool) (xs : List Attr) (i : ℕ) → length xs ≤ i → last_of accepting before (drop i xs) ≡ before
accept_none before xs i past = last_none accepting before xs i past

pub ruleset accept_laws = (accept_next, accept_none)

pub step_next : (own : Names) (xs : List Attr) (i : ℕ) (d : Attr) (steps : List ℕ) → i < length xs
    → stepped_all own (drop (i + 1) xs) (stepped own (get_or xs i d) steps) ≡ stepped_all own (drop i xs) steps
unfolding stepped_all
step_next own xs i d steps within = ap (λ (l : List Attr). stepped_all own l steps) (sym (drop_more xs i d within))

pub step_none : (own : Names) (xs : List Attr) (i : ℕ) (steps : List ℕ) → length xs ≤ i → stepped_all own (drop i xs) steps ≡ steps
unfolding stepped_all
step_none own xs i steps past = ap (λ (l : List Attr). stepped_all own l steps) (drop_all i xs past)

pub ruleset step_laws = (step_next, step_none)

pub initial_next : (own : Names) (xs : List Initial) (i : ℕ) (d : Initial) (maps : List (List (ℕ × Raw))) → i < length xs
    → initials_put own (drop (i + 1) xs) (initial_put own (get_or xs i d) maps) ≡ initials_put own (drop i xs) maps
unfolding initials_put
initial_next own xs i d maps within = ap (λ (l : List Initial). initials_put own l maps) (sym (drop_more xs i d within))

pub initial_none : (own : Names) (xs : List Initial) (i : ℕ) (maps : List (List (ℕ × Raw))) → length xs ≤ i → initials_put own (drop i xs) maps ≡ maps
unfolding initials_put
initial_none own xs i maps past = ap (λ (l : List Initial). initials_put own l maps) (drop_all i xs past)

pub each_kept : (xs : List Initial) (i : ℕ) (d : Initial) → Each KeepsInitial xs → i < length xs → KeepsLit (get_or xs i d).value
each_kept [] i d each within = absurd (omega (arith, within))
each_kept (x ∷ xs) zero d each within = each.0.2
each_kept (x ∷ xs) (suc i) d each within = each_kept xs i d each.1 (omega (arith, within))

pub ruleset initials_laws = (initial_next, initial_none, each_kept)

-- a port's format is legal
pub port_legal : (scope : Scope) (n : ℕ) (word : PortKind) (shape : Shape) (rate : Limit) (delay : ℕ) → IsSound scope
    → slice_get scope.own.things n ≡ Some (Port word (Some shape) rate delay) → IsLegal shape.wl shape.iwl
port_legal scope n word shape rate delay sound at = (sound.own n (Port word (Some shape) rate delay) at).0

pub ruleset initial_laws = (port_legal)

-- a map that is set, seen by its entries
pub entries_set : {A B : Type 0} (f : A → B) (xs : List A) (n : ℕ) (x : A) → map f (slice_set xs n x) ≡ slice_set (map f xs) n (f x)
entries_set f [] n x = refl
entries_set f (y ∷ xs) zero x = refl
entries_set f (y ∷ xs) (suc n) x = ap (λ l. f y ∷ l) (entries_set f xs n x)

pub entries_at : {A B : Type 0} (f : A → B) (xs : List A) (n : ℕ) (d : A) (e : B) → n < length xs → slice_index_or (map f xs) n e ≡ f (get_or xs n d)
entries_at f [] n d e within = absurd (omega (arith, within))
entries_at f (y ∷ xs) zero d e within = refl
entries_at f (y ∷ xs) (suc n) d e within = entries_at f xs n d e (omega (arith, within))

pub maps_next : {A : Type 0} (n : ℕ) (x : A) → replicate n x ++ x ∷ [] ≡ replicate (n + 1) x
maps_next n x = sym (replicate_next n x)

pub ruleset empty_laws = (maps_next)

pub ruleset entry_laws = (step_none)
