-- What a block's values look like, name by name.
use Rattle.std.proofs.Common.{◌≡◌, ◌∙◌, ℕ, zero, suc, ◌+◌, ◌<◌, ◌≤◌, List, [], ◌∷◌, ◌++◌, Option, Some, None, length, drop, refl, sym, ap, arith, append_assoc, append-nil}
use Rattle.std.proofs.lemmas.List.{drop_all}
use Rattle.std.specs.List.{flat_map}
use Rattle.std.specs.Prelude.{slice_get}
use Rattle.tdf_expr.specs.machine.Cells.{AreStartsKept, IsRateKept, IsPortKept}
use Rattle.tdf_expr_symbols.specs.Names.{Names, Thing, Var, Array, Port, RateVar}
use Rattle.tdf_expr_symbols.specs.Scope.{Scope}
use Rattle.tdf_expr_symbols.specs.Sound.{IsSound, IsThingSound}

-- what is at a place, and what comes after it
pub drop_at : (things : List Thing) (n : ℕ) (t : Thing) → slice_get things n ≡ Some t → drop n things ≡ t ∷ drop (n + 1) things
drop_at [] n t e = absurd cc
drop_at (x ∷ things) zero t e = ap (λ y. y ∷ things) (held_is e)
  where
    held : Option Thing → Thing
    held None = x
    held (Some y) = y

    held_is : Some x ≡ Some t → x ≡ t
    held_is e = ap held e
drop_at (x ∷ things) (suc n) t e =
    let next : suc n + 1 ≡ suc (n + 1) = omega arith in
    drop_at things n t e ∙ ap (λ k. t ∷ drop k (x ∷ things)) (sym next)

-- one name more
pub plan_more : {A : Type 0} (f : Thing → List A) (things : List Thing) (xs : List A) (n : ℕ) (t : Thing) → slice_get things n ≡ Some t
    → (xs ++ f t) ++ flat_map f (drop (n + 1) things) ≡ xs ++ flat_map f (drop n things)
plan_more f things xs n t e =
    append_assoc xs (f t) (flat_map f (drop (n + 1) things)) ∙ ap (λ (l : List Thing). xs ++ flat_map f l) (sym (drop_at things n t e))

pub plan_all : {A : Type 0} (f : Thing → List A) (things : List Thing) (xs : List A) (n : ℕ) → length things ≤ n → xs ++ flat_map f (drop n things) ≡ xs
plan_all f things xs n past = ap (λ (l : List Thing). xs ++ flat_map f l) (drop_all n things past) ∙ append-nil xs

kept_of : (own : Names) (t : Thing) → IsThingSound own t → AreStartsKept t
kept_of own (Var a b) holds = holds
kept_of own (Array a b c) holds = (holds.0, holds.1)
kept_of own _ holds = tt

pub starts_kept : (scope : Scope) (n : ℕ) (t : Thing) → IsSound scope → slice_get scope.own.things n ≡ Some t → AreStartsKept t
starts_kept scope n t sound e = kept_of scope.own t (sound.own n t e)

pub ruleset cell_plan_laws = (starts_kept, plan_all)

rate_of : (own : Names) (t : Thing) → IsThingSound own t → IsRateKept t
rate_of own (RateVar a b c) holds = (holds.1, holds.2, holds.3)
rate_of own _ holds = tt

pub rate_kept : (scope : Scope) (n : ℕ) (t : Thing) → IsSound scope → slice_get scope.own.things n ≡ Some t → IsRateKept t
rate_kept scope n t sound e = rate_of scope.own t (sound.own n t e)

pub ruleset rate_plan_laws = (rate_kept)

port_of : (own : Names) (t : Thing) → IsThingSound own t → IsPortKept t
port_of own (Port a b c d) holds = holds.0
port_of own _ holds = tt

pub port_kept : (scope : Scope) (n : ℕ) (t : Thing) → IsSound scope → slice_get scope.own.things n ≡ Some t → IsPortKept t
port_kept scope n t sound e = port_of scope.own t (sound.own n t e)

pub ruleset port_plan_laws = (port_kept)

-- what a place below the length has
pub has_at : {A : Type 0} (xs : List A) (n : ℕ) → n < length xs → (x : A) × (slice_get xs n ≡ Some x)
has_at [] n h = absurd (omega (arith, h))
has_at (x ∷ xs) zero h = (x, refl)
has_at (x ∷ xs) (suc n) h = has_at xs n (omega (arith, h))

pub plan_step : {A : Type 0} (f : Thing → List A) (things : List Thing) (old new whole : List A) (n : ℕ) → n < length things
    → ((t : Thing) → slice_get things n ≡ Some t → new ≡ old ++ f t) → old ++ flat_map f (drop n things) ≡ whole → new ++ flat_map f (drop (n + 1) things) ≡ whole
plan_step f things old new whole n within step before =
    let t = has_at things n within in
    ap (λ xs. xs ++ flat_map f (drop (n + 1) things)) (step t.0 t.1) ∙ plan_more f things old n t.0 t.1 ∙ before

pub ruleset plan_laws = (plan_all)
