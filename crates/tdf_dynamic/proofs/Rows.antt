-- The rows of two lists, place by place.
use Rattle.std.proofs.Common.{◌≡◌, ◌∙◌, ℕ, zero, suc, ◌+◌, ◌-◌, ◌<◌, ◌≤◌, ◌⊎◌, Bool, true, false, List, [], ◌∷◌, ◌++◌, Some, length, refl, sym, ap, subst, inl, inr, arith}
use Rattle.std.proofs.lemmas.Bool.{cases_lt}
use Rattle.std.proofs.lemmas.List.{length-append, length-set}
use Rattle.std.proofs.lemmas.Option.{same_Some}
use Rattle.std.specs.Prelude.{slice_get, slice_index_or, slice_set}
use Rattle.tdf_dynamic.specs.Asked.{attrs_after}
use Rattle.tdf_dynamic.specs.declared.frames.ModuleFrame.{ModuleFrame}
use Rattle.tdf_dynamic.specs.machine.Asking.{HasAsked, HaveAsked, told}
use Rattle.tdf_dynamic.specs.machine.Rows.{AreWritten, HoldsBelow}
use Rattle.tdf_dynamic_plans.specs.Attributes.{AttrsOf}
use Rattle.tdf_bind.specs.declared.model.Flat.{Flat}
use Rattle.tdf_streams.proofs.Api.{get_high, get_low}
use Rattle.tdf_bind_connections.specs.declared.modules.ModuleRow.{ModuleRow}

pub not_both : (b : Bool) → b ≡ false → b ≡ true → ⊥
not_both true unset set = absurd cc
not_both false unset set = absurd cc

-- what was read at a place
pub get_read : {A : Type 0} (xs : List A) (n : ℕ) (x : A) → n < length xs → x ≡ slice_index_or xs n x → slice_get xs n ≡ Some x
get_read [] n x below is = absurd (omega (arith, below))
get_read (y ∷ xs) zero x below is = ap Some (sym is)
get_read (y ∷ xs) (suc n) x below is = get_read xs n x (omega (arith, below)) is

-- the row of a module, in a model that is seen another way
pub row_at : (f flat : Flat) (same : f ≡ flat) (m n : ℕ) (row : ModuleRow) → m ≡ n → n < length flat.tables.modules → row ≡ slice_index_or f.tables.modules m row
    → slice_get flat.tables.modules n ≡ Some row
row_at f flat same m n row place below is =
    get_read flat.tables.modules n row below (subst (λ (x : Flat). row ≡ slice_index_or x.tables.modules n row) same (subst (λ k. row ≡ slice_index_or f.tables.modules k row) place is))

set_same : {A : Type 0} (xs : List A) (n : ℕ) (x : A) → n < length xs → slice_get (slice_set xs n x) n ≡ Some x
set_same [] n x below = absurd (omega (arith, below))
set_same (y ∷ xs) zero x below = refl
set_same (y ∷ xs) (suc n) x below = set_same xs n x (omega (arith, below))

set_other : {A : Type 0} (xs : List A) (n m : ℕ) (x : A) → (m ≡ n → ⊥) → slice_get (slice_set xs n x) m ≡ slice_get xs m
set_other [] n m x other = refl
set_other (y ∷ xs) zero zero x other = absurd (other refl)
set_other (y ∷ xs) zero (suc m) x other = refl
set_other (y ∷ xs) (suc n) zero x other = refl
set_other (y ∷ xs) (suc n) (suc m) x other = set_other xs n m x (λ same. other (ap suc same))

pub below_more : {A B : Type 0} (P : A → B → Type 0) (xs : List A) (ys : List B) (n : ℕ) (x : A) (y : B) → slice_get xs n ≡ Some x → slice_get ys n ≡ Some y → P x y
    → HoldsBelow P xs ys n → HoldsBelow P xs ys (n + 1)
below_more {A} {B} P xs ys n x y at other_at holds before = λ j u v below here there. go j u v below here there (cases_lt j n)
  where
    go : (j : ℕ) (u : A) (v : B) → j < n + 1 → slice_get xs j ≡ Some u → slice_get ys j ≡ Some v → (j < n) ⊎ (n ≤ j) → P u v
    go j u v below here there (inl less) = before j u v less here there
    go j u v below here there (inr most) =
        let same : j ≡ n = omega (arith, below, most) in
        let one : x ≡ u = same_Some x u (sym at ∙ ap (slice_get xs) (sym same) ∙ here) in
        let other : y ≡ v = same_Some y v (sym other_at ∙ ap (slice_get ys) (sym same) ∙ there) in
        subst (λ (a : A). P a v) one (subst (λ (b : B). P x b) other holds)

-- one module more has asked
pub asked_more : (flat : Flat) (table : List AttrsOf) (n : ℕ) (old cur : List ModuleFrame) (attrs : AttrsOf) (f g : ModuleFrame) → HaveAsked flat table n old cur
    → slice_get table n ≡ Some attrs → n < length cur → slice_get cur n ≡ Some f → HasAsked flat attrs f.frame.state.cells g → HaveAsked flat table (n + 1) old (slice_set cur n g)
asked_more flat table n old cur attrs f g before at inside f_at asks = record {
  long = length-set cur n g ∙ before.long;
  done = λ i a h k below here there now. go i a h k below here there now (cases_lt i n);
  left = λ i past. set_other cur n i g (λ same. absurd (omega (arith, past, same))) ∙ before.left i (omega (arith, past));
}
  where
    go : (i : ℕ) (a : AttrsOf) (h k : ModuleFrame) → i < n + 1 → slice_get table i ≡ Some a → slice_get old i ≡ Some h → slice_get (slice_set cur n g) i ≡ Some k → (i < n) ⊎ (n ≤ i)
        → HasAsked flat a h.frame.state.cells k
    go i a h k below here there now (inl less) = before.done i a h k less here there (sym (set_other cur n i g (λ same. absurd (omega (arith, less, same)))) ∙ now)
    go i a h k below here there now (inr most) =
        let same : i ≡ n = omega (arith, below, most) in
        let one : attrs ≡ a = same_Some attrs a (sym at ∙ ap (slice_get table) (sym same) ∙ here) in
        let start : f ≡ h = same_Some f h (sym f_at ∙ before.left n (omega arith) ∙ ap (slice_get old) (sym same) ∙ there) in
        let end : g ≡ k = same_Some g k (sym (set_same cur n g inside) ∙ ap (slice_get (slice_set cur n g)) (sym same) ∙ now) in
        subst (λ (x : ModuleFrame). HasAsked flat a h.frame.state.cells x) end
        (subst (λ (x : ModuleFrame). HasAsked flat a x.frame.state.cells g) start (subst (λ (x : AttrsOf). HasAsked flat x f.frame.state.cells g) one asks))

-- one row more
pub after_more : (table : List AttrsOf) (frames : List ModuleFrame) (n : ℕ) (after : List AttrsOf) (attrs row : AttrsOf) (f : ModuleFrame) → AreWritten table frames n after
    → n < length after → slice_get table n ≡ Some attrs → slice_get frames n ≡ Some f → row ≡ attrs_after attrs (told f) → AreWritten table frames (n + 1) (slice_set after n row)
after_more table frames n after attrs row f before inside at f_at is = record {
  long = length-set after n row ∙ before.long;
  each = λ j a g below here there. go j a g below here there (cases_lt j n);
}
  where
    go : (j : ℕ) (a : AttrsOf) (g : ModuleFrame) → j < n + 1 → slice_get table j ≡ Some a → slice_get frames j ≡ Some g → (j < n) ⊎ (n ≤ j)
        → slice_get (slice_set after n row) j ≡ Some (attrs_after a (told g))
    go j a g below here there (inl less) = set_other after n j row (λ same. absurd (omega (arith, less, same))) ∙ before.each j a g less here there
    go j a g below here there (inr most) =
        let same : j ≡ n = omega (arith, below, most) in
        let one : attrs ≡ a = same_Some attrs a (sym at ∙ ap (slice_get table) (sym same) ∙ here) in
        let other : f ≡ g = same_Some f g (sym f_at ∙ ap (slice_get frames) (sym same) ∙ there) in
        ap (slice_get (slice_set after n row)) same ∙ set_same after n row inside ∙ ap Some (is ∙ ap (λ (x : AttrsOf). attrs_after x (told f)) one ∙ ap (λ (x : ModuleFrame). attrs_after a (told x)) other)
