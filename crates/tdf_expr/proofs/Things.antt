-- A fact of each thing of a name space, and formats that are legal.
use Rattle.std.proofs.Common.{◌≡◌, ◌∙◌, ℕ, zero, suc, Bool, true, false, List, [], ◌∷◌, ◌++◌, Option, Some, None, refl, sym, ap, subst, arith}
use Rattle.std.proofs.lemmas.Bool.Decides.{nat_tests}
use Rattle.std.specs.Cmp.Lexicographic.{pointwise}
use Rattle.std.specs.List.{list_any}
use Rattle.std.specs.Prelude.{not, nat_eq, if◌then◌else◌, slice_get, slice_set}
use Rattle.tdf_base.proofs.Api.{if_none}
use Rattle.tdf_base.specs.declared.codes.Code.TheVariants as code
use Rattle.tdf_expr_blocks.specs.Lines.{is_format, shape_faults}
use Rattle.tdf_expr_symbols.specs.Names.{Names, Thing, found_at, names_changed, changed_at, place_of, thing_of, with_name}
use Rattle.tdf_fixed.specs.Cast.{IsLegal}
use Rattle.tdf_lang_tree.specs.declared.shapes.Shape.{Shape}

-- a fact of each thing of a name space
abbrev pub AllThings : (Thing → Type 0) → Names → Type 0
AllThings P s = (n : ℕ) (t : Thing) → slice_get s.things n ≡ Some t → P t

pub all_push : (P : Thing → Type 0) (things : List Thing) (x : Thing) → ((n : ℕ) (t : Thing) → slice_get things n ≡ Some t → P t) → P x
    → (n : ℕ) (t : Thing) → slice_get (things ++ x ∷ []) n ≡ Some t → P t
all_push P [] x all holds zero t is = subst P (ap held is) holds
  where
    held : Option Thing → Thing
    held None = x
    held (Some y) = y
all_push P [] x all holds (suc n) t is = absurd cc
all_push P (y ∷ things) x all holds zero t is = all zero t is
all_push P (y ∷ things) x all holds (suc n) t is = all_push P things x (λ m u at. all (suc m) u at) holds n t is

pub all_named : (P : Thing → Type 0) (s : Names) (name : List ℕ) (x : Thing) → AllThings P s → P x → AllThings P (with_name name x s)
unfolding with_name
all_named P s name x all holds = go (list_any (pointwise nat_eq name) s.names)
  where
    go : (b : Bool) → AllThings P (if b then s else record { names = s.names ++ name ∷ []; things = s.things ++ x ∷ [] })
    go true = all
    go false = all_push P s.things x all holds

pub all_set : (P : Thing → Type 0) (things : List Thing) (k : ℕ) (x : Thing) → ((n : ℕ) (t : Thing) → slice_get things n ≡ Some t → P t) → P x
    → (n : ℕ) (t : Thing) → slice_get (slice_set things k x) n ≡ Some t → P t
all_set P [] k x all holds n t is = absurd cc
all_set P (y ∷ things) zero x all holds zero t is = subst P (ap held is) holds
  where
    held : Option Thing → Thing
    held None = x
    held (Some z) = z
all_set P (y ∷ things) zero x all holds (suc n) t is = all (suc n) t is
all_set P (y ∷ things) (suc k) x all holds zero t is = all zero t is
all_set P (y ∷ things) (suc k) x all holds (suc n) t is = all_set P things k x (λ m u at. all (suc m) u at) holds n t is

pub all_changed : (P : Thing → Type 0) (s : Names) (f : Thing → Thing) (name : List ℕ) → AllThings P s → ((t : Thing) → P t → P (f t)) → AllThings P (names_changed f name s)
unfolding names_changed
all_changed P s f name all keeps = go (place_of s name) refl (thing_of s name) refl
  where
    go : (o : Option ℕ) → place_of s name ≡ o → (x : Option Thing) → thing_of s name ≡ x
        → (n : ℕ) (t : Thing) → slice_get (changed_at f s.things o x) n ≡ Some t → P t
    go None at x is n t here = all n t here
    go (Some k) at None is n t here = all n t here
    go (Some k) at (Some thing) is n t here = all_set P s.things k (f thing) all (keeps thing (all k thing (place_is k thing at is))) n t here
      where
        place_is : (k : ℕ) (thing : Thing) → place_of s name ≡ Some k → thing_of s name ≡ Some thing → slice_get s.things k ≡ Some thing
        place_is k thing at is = ap (found_at s.things) (sym at) ∙ is

-- formats
pub legal : (s : Shape) → is_format s ≡ true → IsLegal s.wl s.iwl
legal s e = record {
  some_bits = grind (arith, nat_tests);
  few_bits = grind (arith, nat_tests);
  whole_bits = grind (arith, nat_tests);
  fraction_bits = grind (arith, nat_tests);
}

pub not_false : (b : Bool) → not b ≡ false → b ≡ true
not_false true e = refl
not_false false e = absurd cc

pub shape_legal : (line : ℕ) (s : Shape) → shape_faults line s ≡ [] → IsLegal s.wl s.iwl
shape_legal line s none = legal s (not_false (is_format s) (if_none (not (is_format s)) code.Format line none))
