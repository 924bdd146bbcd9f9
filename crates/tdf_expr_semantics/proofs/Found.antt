-- What names stand for, and what holds of it.
use Rattle.std.proofs.Common.{◌≡◌, ◌∙◌, ℕ, ◌≤◌, Bool, true, false, List, [], Option, Some, None, refl, sym, ap, subst, arith}
use Rattle.std.proofs.Math.Nat.{mul-le-mul_left}
use Rattle.std.specs.Option.{option_map}
use Rattle.std.specs.Prelude.{not, slice_get}
use Rattle.tdf_base.specs.declared.codes.Code.TheVariants as code
use Rattle.tdf_base.proofs.Api.{if_none}
use Rattle.tdf_expr_symbols.specs.Index.{kind_faults}
use Rattle.tdf_expr_symbols.specs.Kinds.{is_allowed}
use Rattle.tdf_expr_symbols.specs.Names.{Thing, Const, Var, Array, Port, RateVar, Event, Signal, DeSignal, Instance, Loop, TypeName, Tdf, De, Composite, found_at, place_of, thing_of, kind_of}
use Rattle.tdf_expr_symbols.specs.Scope.{Scope, OpenLoop, named, loop_place, as_thing, first_some, least_rate, greatest_rate_of, least_of, greatest_of}
use Rattle.tdf_expr_symbols.specs.Sound.{IsSound, IsThingSound}
use Rattle.tdf_expr_symbols.specs.declared.kinds.Place.{Place}
use Rattle.tdf_expr_symbols.specs.declared.kinds.Place.TheVariants as place
use Rattle.tdf_lang_tree.specs.declared.blocks.PortKind.TheVariants.{In, Out, DeIn, DeOut}
use Rattle.tdf_lang_tree.specs.declared.stmt.Limit.{Limit}
use Rattle.tdf_lang_tree.specs.declared.stmt.Limit.TheVariants as limit

-- what a place that was found has
pub found : {A : Type 0} (xs : List A) (o : Option ℕ) (x : A) → found_at xs o ≡ Some x → (n : ℕ) × (o ≡ Some n) × (slice_get xs n ≡ Some x)
found xs None x e = absurd cc
found xs (Some n) x e = (n, refl, e)

-- what a name of a block stands for is sound
pub thing_sound : (scope : Scope) → IsSound scope → (name : List ℕ) (t : Thing) → thing_of scope.own name ≡ Some t → IsThingSound scope.own t
thing_sound scope sound name t e =
    let at = found scope.own.things (place_of scope.own name) t e in
    sound.own at.0 t at.2

pub global_sound : (scope : Scope) → IsSound scope → (name : List ℕ) (t : Thing) → thing_of scope.globals name ≡ Some t → IsThingSound scope.globals t
global_sound scope sound name t e =
    let at = found scope.globals.things (place_of scope.globals name) t e in
    sound.globals at.0 t at.2

-- the least value of a rate is at most its greatest
rates_ordered : (scope : Scope) → IsSound scope → (name : List ℕ) (o : Option Thing) → thing_of scope.own name ≡ o → least_rate o ≤ greatest_rate_of o
rates_ordered scope sound name None e = omega arith
rates_ordered scope sound name (Some (RateVar least greatest start)) e =
    let holds = thing_sound scope sound name (RateVar least greatest start) e in
    omega (arith, holds.1, holds.2)
rates_ordered scope sound name (Some (Const a b)) e = omega arith
rates_ordered scope sound name (Some (Var a b)) e = omega arith
rates_ordered scope sound name (Some (Array a b c)) e = omega arith
rates_ordered scope sound name (Some (Port a b c d)) e = omega arith
rates_ordered scope sound name (Some Event) e = omega arith
rates_ordered scope sound name (Some (Signal a)) e = omega arith
rates_ordered scope sound name (Some (DeSignal a b)) e = omega arith
rates_ordered scope sound name (Some Instance) e = omega arith
rates_ordered scope sound name (Some (Loop a b)) e = omega arith
rates_ordered scope sound name (Some (TypeName a)) e = omega arith
rates_ordered scope sound name (Some Tdf) e = omega arith
rates_ordered scope sound name (Some De) e = omega arith
rates_ordered scope sound name (Some Composite) e = omega arith

pub least_greatest : (scope : Scope) → IsSound scope → (l : Limit) → least_of scope.own l ≤ greatest_of scope.own l
unfolding least_of greatest_of
least_greatest scope sound (limit.Int n) = omega arith
least_greatest scope sound (limit.Var r) = rates_ordered scope sound r (thing_of scope.own r) refl
least_greatest scope sound (limit.Times c r) = mul-le-mul_left c (rates_ordered scope sound r (thing_of scope.own r) refl)

-- a loop variable that is open
pub record IsOpen (scope : Scope) (loops : List OpenLoop) (name : List ℕ) (from : ℕ) (end : Limit) : Type 0 where
  pub depth : ℕ
  pub l : OpenLoop
  pub at : loop_place loops name ≡ Some depth
  pub is : slice_get loops depth ≡ Some l
  pub from_is : l.from ≡ from
  pub end_is : l.end ≡ end

pub open_loop : (scope : Scope) → IsSound scope → (loops : List OpenLoop) (name : List ℕ) (from : ℕ) (end : Limit)
    → named scope loops name ≡ Some (Loop from end) → IsOpen scope loops name from end
unfolding named
open_loop scope sound loops name from end e = go (loop_place loops name) refl (found_at loops (loop_place loops name)) refl e
  where
    from_of : Option Thing → ℕ
    from_of (Some (Loop a b)) = a
    from_of _ = from

    end_of : Option Thing → Limit
    end_of (Some (Loop a b)) = b
    end_of _ = end

    go : (o : Option ℕ) → loop_place loops name ≡ o → (x : Option OpenLoop) → found_at loops (loop_place loops name) ≡ x
        → first_some (option_map as_thing x) (thing_of scope.own name) ≡ Some (Loop from end) → IsOpen scope loops name from end
    go o at None is e = absurd (thing_sound scope sound name (Loop from end) e)
    go None at (Some l) is e = absurd (subst none_is (ap (found_at loops) (sym at) ∙ is) tt)
      where
        none_is : Option OpenLoop → Type 0
        none_is None = Unit {0}
        none_is (Some x) = ⊥
    go (Some d) at (Some l) is e = record {
      depth = d;
      l = l;
      at = at;
      is = ap (found_at loops) (sym at) ∙ is;
      from_is = ap from_of e;
      end_is = ap end_of e;
    }

not_not : (b : Bool) → not b ≡ false → b ≡ true
not_not true e = refl
not_not false e = absurd cc

-- a name without a KIND fault stands for something of a kind that its place allows
pub record IsOfKind (place : Place) (o : Option Thing) : Type 0 where
  pub thing : Thing
  pub is : o ≡ Some thing
  pub allowed : is_allowed place (Some (kind_of thing)) ≡ true

pub of_kind : (place : Place) (o : Option Thing) (line : ℕ) → kind_faults place o line ≡ [] → IsOfKind place o
unfolding kind_faults is_allowed
of_kind place None line e = absurd (impossible (if_none _ code.Kind line e))
  where
    impossible : true ≡ false → ⊥
    impossible h = absurd cc
of_kind place (Some t) line e = record { thing = t; is = refl; allowed = not_not _ (if_none _ code.Kind line e) }

-- a name in an index is a loop variable
pub is_loop : (t : Thing) → is_allowed place.Index (Some (kind_of t)) ≡ true → (from : ℕ) × (end : Limit) × (t ≡ Loop from end)
unfolding is_allowed
is_loop (Loop from end) e = (from, end, refl)
is_loop (Port In a b c) e = absurd cc
is_loop (Port Out a b c) e = absurd cc
is_loop (Port DeIn a b c) e = absurd cc
is_loop (Port DeOut a b c) e = absurd cc
is_loop _ e = absurd cc
