-- Every expression without a fault lies within its width.
use Rattle.std.proofs.Common.{◌≡◌, ◌∙◌, ℕ, zero, suc, ◌+◌, ◌-◌, ◌≤◌, ◌<◌, true, List, [], ◌∷◌, Option, Some, None, length, refl, sym, ap, subst, arith, ℤ, pos}
use Rattle.std.proofs.lemmas.List.Quantifiers.{position-Some}
use Rattle.std.specs.Cmp.Lexicographic.{pointwise}
use Rattle.std.specs.Option.{option_map}
use Rattle.std.specs.Prelude.{nat_eq, slice_get, slice_index}
use Rattle.tdf_base.specs.Number.{Numeral, numeral_of}
use Rattle.tdf_base.proofs.Api.{none_first, none_second}
use Rattle.tdf_fixed.proofs.Api.{in_range}
use Rattle.tdf_fixed.specs.Cast.{IsLegal}
use Rattle.tdf_fixed.specs.declared.raw.Raw.{Raw}
use Rattle.tdf_expr_semantics.proofs.Bounds.{within_sum, within_difference, within_product, within_chosen, within_truth, within_negative, within_shift, within_cast, within_format}
use Rattle.tdf_expr_semantics.proofs.Found.{found, thing_sound, global_sound, of_kind, IsOfKind, least_greatest}
use Rattle.tdf_expr_semantics.proofs.Indices.{inside}
use Rattle.tdf_expr_semantics.proofs.Numbers.{within_number}
use Rattle.tdf_expr_semantics.proofs.Placed.{placed, limits_placed}
use Rattle.tdf_expr_semantics.specs.Fits.{StateFits, LoopsFit}
use Rattle.tdf_expr_semantics.specs.Laws.{IsWithinWidth, LiesWithinWidth}
use Rattle.tdf_expr_semantics.specs.Places.{HasElement, cells_of, samples_of, first_cell, first_sample, rate_number}
use Rattle.tdf_expr_semantics.specs.Value.{value, element, element_at, own_value, turn_of, turn_or, combined, cast_in, literal_in, literal_number, whole_number, index_value}
use Rattle.tdf_expr_symbols.specs.Faults.{expr_faults, own_faults, cast_shape}
use Rattle.tdf_expr_symbols.specs.Index.{size_of, kind_faults, index_faults}
use Rattle.tdf_expr_symbols.specs.Kinds.{is_allowed}
use Rattle.tdf_expr_symbols.specs.Names.{Thing, Const, Var, Array, Port, RateVar, Event, Signal, DeSignal, Instance, Loop, TypeName, Tdf, De, Composite, found_at, place_of, thing_of, type_shape, kind_of, shape_of}
use Rattle.tdf_expr_symbols.specs.Scope.{Scope, OpenLoop, named, loop_place, as_thing, first_some, greatest_of}
use Rattle.tdf_expr_symbols.specs.Sound.{IsSound, IsThingSound}
use Rattle.tdf_expr_symbols.specs.Width.{Width, width, of_thing, of_binary, width_of_shape}
use Rattle.tdf_expr_symbols.specs.declared.kinds.Part.{Part}
use Rattle.tdf_expr_symbols.specs.declared.kinds.Part.TheVariants as part
use Rattle.tdf_expr_symbols.specs.declared.kinds.Place.TheVariants as place
use Rattle.tdf_expr_state.specs.State.{State, cell_at}
use Rattle.tdf_lang_tree.specs.Pure.{ENumber, EName, EAt, ECast, ESelect, ENot, ENeg, EShift, EBinary}
use Rattle.tdf_lang_tree.specs.declared.expr.Index.{Index}
use Rattle.tdf_lang_tree.specs.declared.expr.Op.{Op}
use Rattle.tdf_lang_tree.specs.declared.expr.Op.TheVariants as op
use Rattle.tdf_lang_tree.specs.declared.names.Lit.{Lit}
use Rattle.tdf_lang_tree.specs.declared.shapes.Shape.{Shape}
use Rattle.tdf_lang_tree.specs.declared.stmt.Limit.{Limit}
use Rattle.tdf_lang_tree.specs.declared.stmt.Limit.TheVariants as limit

-- what the names of a format would be that no body can name
abbrev IsValueThing : Thing → Type 0
IsValueThing (Signal shape) = ⊥
IsValueThing (DeSignal shape start) = ⊥
IsValueThing (TypeName shape) = ⊥
IsValueThing _ = Unit {0}

within_literal : (s : Shape) (v : Lit) → IsLegal s.wl s.iwl → IsWithinWidth (width_of_shape (Some s)) (literal_in (Some s) v)
within_literal s v legal = go (numeral_of v.digits)
  where
    go : (o : Option Numeral) → IsWithinWidth (width_of_shape (Some s)) (record { num = literal_number s v.minus o; frac = s.wl - s.iwl })
    go None = record { frac = refl; within = omega arith }
    go (Some n) = within_format s (literal_number s v.minus (Some n)) legal (in_range s.over s.signed s.wl _ legal.some_bits)

module _ (scope : Scope) (s : State) (sound : IsSound scope) (fits : StateFits scope.own s) where
  within_cell : (n k : ℕ) (t : Thing) (shape : Shape) → slice_get scope.own.things n ≡ Some t → k < cells_of t → Some shape ≡ shape_of t → IsLegal shape.wl shape.iwl
      → IsWithinWidth (width_of_shape (Some shape)) (record { num = cell_at s.frame.cells (first_cell scope.own n + k); frac = shape.wl - shape.iwl })
  within_cell n k t shape is below has legal =
      let at = placed cells_of shape_of scope.own.things n k t is below in
      within_format shape (cell_at s.frame.cells (first_cell scope.own n + k)) legal
      (fits.frame.cells.each (first_cell scope.own n + k) shape (at ∙ ap (λ o. Some o) (sym has)))

  within_sample : (n k : ℕ) (t : Thing) (shape : Shape) → slice_get scope.own.things n ≡ Some t → k < samples_of scope.own t → Some shape ≡ shape_of t → IsLegal shape.wl shape.iwl
      → IsWithinWidth (width_of_shape (Some shape)) (record { num = cell_at s.ports.samples (first_sample scope.own n + k); frac = shape.wl - shape.iwl })
  within_sample n k t shape is below has legal =
      let at = placed (samples_of scope.own) shape_of scope.own.things n k t is below in
      within_format shape (cell_at s.ports.samples (first_sample scope.own n + k)) legal
      (fits.ports.samples.each (first_sample scope.own n + k) shape (at ∙ ap (λ o. Some o) (sym has)))

  within_rate : (n least greatest start : ℕ) → slice_get scope.own.things n ≡ Some (RateVar least greatest start) → greatest ≤ 4096
      → IsWithinWidth (of_thing (Some (RateVar least greatest start))) (whole_number (pos (slice_index s.frame.rates (rate_number scope.own n))))
  within_rate n least greatest start is most =
      let bounds = fits.frame.rates.each (rate_number scope.own n) (record { least = least; greatest = greatest }) (limits_placed scope.own.things n least greatest start is) in
      record { frac = refl; within = omega (arith, bounds.1, most) }

  within_element : (n k : ℕ) (t : Thing) → slice_get scope.own.things n ≡ Some t → IsThingSound scope.own t → IsValueThing t → HasElement scope.own t k
      → IsWithinWidth (of_thing (Some t)) (element scope.own s n t k)
  within_element n k (Const None v) is holds kind below = absurd (holds.0)
  within_element n k (Const (Some shape) v) is holds kind below = within_literal shape v holds.0
  within_element n k (Var None v) is holds kind below = absurd (holds.0)
  within_element n k (Var (Some shape) v) is holds kind below = within_cell n k (Var (Some shape) v) shape is below refl holds.0
  within_element n k (Array None size vs) is holds kind below = absurd (holds.0)
  within_element n k (Array (Some shape) size vs) is holds kind below = within_cell n k (Array (Some shape) size vs) shape is below refl holds.0
  within_element n k (Port word None rate delay) is holds kind below = absurd (holds.0)
  within_element n k (Port word (Some shape) rate delay) is holds kind below = within_sample n k (Port word (Some shape) rate delay) shape is below refl holds.0
  within_element n k (RateVar least greatest start) is holds kind below = within_rate n least greatest start is holds.3
  within_element n k (Loop from end) is holds kind below = absurd holds
  within_element n k (Signal shape) is holds kind below = absurd kind
  within_element n k (DeSignal shape v) is holds kind below = absurd kind
  within_element n k (TypeName shape) is holds kind below = absurd kind
  within_element n k Event is holds kind below = record { frac = refl; within = omega arith }
  within_element n k Instance is holds kind below = record { frac = refl; within = omega arith }
  within_element n k Tdf is holds kind below = record { frac = refl; within = omega arith }
  within_element n k De is holds kind below = record { frac = refl; within = omega arith }
  within_element n k Composite is holds kind below = record { frac = refl; within = omega arith }

-- a bare name that an expression may use stands for a number
value_kind : (body : Part) (t : Thing) → is_allowed (place.Value body) (Some (kind_of t)) ≡ true → IsValueThing t
unfolding is_allowed
value_kind part.Initialize (Signal a) e = absurd cc
value_kind part.Processing (Signal a) e = absurd cc
value_kind part.Change (Signal a) e = absurd cc
value_kind part.Reinitialize (Signal a) e = absurd cc
value_kind part.Process (Signal a) e = absurd cc
value_kind part.Initialize (DeSignal a b) e = absurd cc
value_kind part.Processing (DeSignal a b) e = absurd cc
value_kind part.Change (DeSignal a b) e = absurd cc
value_kind part.Reinitialize (DeSignal a b) e = absurd cc
value_kind part.Process (DeSignal a b) e = absurd cc
value_kind part.Initialize (TypeName a) e = absurd cc
value_kind part.Processing (TypeName a) e = absurd cc
value_kind part.Change (TypeName a) e = absurd cc
value_kind part.Reinitialize (TypeName a) e = absurd cc
value_kind part.Process (TypeName a) e = absurd cc
value_kind body _ e = tt

-- a name with an index is an array or a port
pub element_kind : (body : Part) (t : Thing) → is_allowed (place.Element body) (Some (kind_of t)) ≡ true → (size : Limit) × (size_of (Some t) ≡ Some size)
unfolding is_allowed
element_kind body (Array shape size starts) e = (limit.Int size, refl)
element_kind body (Port word shape rate delay) e = (rate, refl)
element_kind part.Initialize _ e = absurd cc
element_kind part.Processing _ e = absurd cc
element_kind part.Change _ e = absurd cc
element_kind part.Reinitialize _ e = absurd cc
element_kind part.Process _ e = absurd cc

sized_value : (t : Thing) (size : Limit) → size_of (Some t) ≡ Some size → IsValueThing t
sized_value (Signal a) size e = absurd cc
sized_value (DeSignal a b) size e = absurd cc
sized_value (TypeName a) size e = absurd cc
sized_value _ size e = tt

-- what a place below the length has
has_at : {A : Type 0} (xs : List A) (n : ℕ) → n < length xs → (x : A) × (slice_get xs n ≡ Some x)
has_at [] n h = absurd (omega (arith, h))
has_at (x ∷ xs) zero h = (x, refl)
has_at (x ∷ xs) (suc n) h = has_at xs n (omega (arith, h))

-- what has a size isn't a loop variable, so it is the block's own
pub own_of : (scope : Scope) (loops : List OpenLoop) (name : List ℕ) (t : Thing) (size : Limit) → named scope loops name ≡ Some t → size_of (Some t) ≡ Some size
    → thing_of scope.own name ≡ Some t
unfolding named
own_of scope loops name t size is sized = go (found_at loops (loop_place loops name)) is
  where
    sized_is : Option Thing → Type 0
    sized_is (Some (Loop from end)) = ⊥
    sized_is _ = Unit {0}

    size_here : (x : Thing) → size_of (Some x) ≡ Some size → sized_is (Some x)
    size_here (Loop a b) e = absurd cc
    size_here _ e = tt

    go : (o : Option OpenLoop) → first_some (option_map as_thing o) (thing_of scope.own name) ≡ Some t → thing_of scope.own name ≡ Some t
    go None e = e
    go (Some l) e = absurd (subst sized_is (sym e) (size_here t sized))

-- the greatest size has room for what the index says
pub has_element : (scope : Scope) (t : Thing) (size : Limit) (k : ℕ) → size_of (Some t) ≡ Some size → k < greatest_of scope.own size → HasElement scope.own t k
unfolding greatest_of
has_element scope (Array shape n starts) size k e below = subst (λ (l : Limit). k < greatest_of scope.own l) (sym (size_is e)) below
  where
    held : Option Limit → Limit
    held None = size
    held (Some l) = l

    size_is : Some (limit.Int n) ≡ Some size → limit.Int n ≡ size
    size_is e = ap held e
has_element scope (Port word shape rate delay) size k e below = subst (λ (l : Limit). k < greatest_of scope.own l) (sym (size_is e)) below
  where
    held : Option Limit → Limit
    held None = size
    held (Some l) = l

    size_is : Some rate ≡ Some size → rate ≡ size
    size_is e = ap held e
has_element scope (Var a b) size k e below = absurd cc
has_element scope _ size k e below = tt

-- a bare name is its element 0
pub first_element : (scope : Scope) → IsSound scope → (t : Thing) → IsThingSound scope.own t → HasElement scope.own t 0
first_element scope sound (Var a b) holds = omega arith
first_element scope sound (Array a n b) holds = omega (arith, holds.3)
first_element scope sound (Port a b rate d) holds = omega (arith, holds.1, least_greatest scope sound rate)
first_element scope sound _ holds = tt

module _ (scope : Scope) (loops : List OpenLoop) (turns : List ℕ) (s : State) (sound : IsSound scope) (fits : StateFits scope.own s) (loops_fit : LoopsFit scope.own loops turns) where
  within_own : (k : ℕ) (name : List ℕ) (t : Thing) → thing_of scope.own name ≡ Some t → IsValueThing t → HasElement scope.own t k
      → IsWithinWidth (of_thing (Some t)) (own_value scope.own s name (pos k))
  within_own k name t is kind below =
      let at = found scope.own.things (place_of scope.own name) t is in
      let here = ap (λ o. element_at scope.own s o (thing_of scope.own name) (pos k)) at.1 ∙ ap (λ o. element_at scope.own s (Some at.0) o (pos k)) is in
      subst (λ (r : Raw). IsWithinWidth (of_thing (Some t)) r) (sym here)
      (within_element scope s sound fits at.0 k t at.2 (thing_sound scope sound name t is) kind below)

  within_name : (body : Part) (line : ℕ) (name : List ℕ) → kind_faults (place.Value body) (named scope loops name) line ≡ []
      → IsWithinWidth (of_thing (named scope loops name)) (turn_or (turn_of loops turns name) (own_value scope.own s name (pos 0)))
  unfolding named
  within_name body line name none = go (loop_place loops name) refl
    where
      kind : IsOfKind (place.Value body) (named scope loops name)
      kind = of_kind (place.Value body) (named scope loops name) line none

      go : (o : Option ℕ) → loop_place loops name ≡ o
          → IsWithinWidth (of_thing (first_some (option_map as_thing (found_at loops o)) (thing_of scope.own name)))
          (turn_or (option_map (slice_index turns) o) (own_value scope.own s name (pos 0)))
      go None at =
          let is = ap (λ (o : Option ℕ). first_some (option_map as_thing (found_at loops o)) (thing_of scope.own name)) (sym at) ∙ kind.is in
          subst (λ (o : Option Thing). IsWithinWidth (of_thing o) (own_value scope.own s name (pos 0))) (sym is)
          (within_own 0 name kind.thing is (value_kind body kind.thing kind.allowed)
          (first_element scope sound kind.thing (thing_sound scope sound name kind.thing is)))
      go (Some d) at =
          let l = has_at loops d ((position-Some (λ (l : OpenLoop). pointwise nat_eq name l.name) loops d (record { name = name; from = 0; end = limit.Int 0 }) at).0) in
          let bounds = loops_fit.each d l.0 l.1 in
          subst (λ (o : Option OpenLoop). IsWithinWidth (of_thing (first_some (option_map as_thing o) (thing_of scope.own name))) (whole_number (pos (slice_index turns d)))) (sym l.1)
          (record { frac = refl; within = omega (arith, bounds.1, bounds.2) })

  within_at : (body : Part) (line : ℕ) (name : List ℕ) (i : Index) → kind_faults (place.Element body) (named scope loops name) line ≡ []
      → index_faults scope loops line (named scope loops name) i ≡ []
      → IsWithinWidth (of_thing (named scope loops name)) (own_value scope.own s name (index_value loops turns i))
  within_at body line name i none outside =
      let kind = of_kind (place.Element body) (named scope loops name) line none in
      let size = element_kind body kind.thing kind.allowed in
      let is = own_of scope loops name kind.thing size.0 kind.is size.1 in
      let at = inside scope loops line kind.thing size.0 i turns sound size.1
      (ap (λ (o : Option Thing). index_faults scope loops line o i) (sym kind.is) ∙ outside) loops_fit in
      subst (λ (o : Option Thing). IsWithinWidth (of_thing o) (own_value scope.own s name (index_value loops turns i))) (sym kind.is)
      (subst (λ (z : ℤ). IsWithinWidth (of_thing (Some kind.thing)) (own_value scope.own s name z)) (sym at.is)
      (within_own at.place name kind.thing is (sized_value kind.thing size.0 size.1) (has_element scope kind.thing size.0 at.place size.1 at.below)))

  -- a cast to a type
  within_type : (name : List ℕ) (a : Raw) → IsWithinWidth (width_of_shape (cast_shape scope name)) (cast_in (cast_shape scope name) a)
  within_type name a = go (thing_of scope.globals name) refl
    where
      go : (o : Option Thing) → thing_of scope.globals name ≡ o → IsWithinWidth (width_of_shape (type_shape o)) (cast_in (type_shape o) a)
      go (Some (TypeName shape)) is = within_cast shape a (global_sound scope sound name (TypeName shape) is)
      go None is = record { frac = refl; within = omega arith }
      go (Some (Const b c)) is = record { frac = refl; within = omega arith }
      go (Some (Var b c)) is = record { frac = refl; within = omega arith }
      go (Some (Array b c d)) is = record { frac = refl; within = omega arith }
      go (Some (Port b c d e)) is = record { frac = refl; within = omega arith }
      go (Some (RateVar b c d)) is = record { frac = refl; within = omega arith }
      go (Some Event) is = record { frac = refl; within = omega arith }
      go (Some (Signal b)) is = record { frac = refl; within = omega arith }
      go (Some (DeSignal b c)) is = record { frac = refl; within = omega arith }
      go (Some Instance) is = record { frac = refl; within = omega arith }
      go (Some (Loop b c)) is = record { frac = refl; within = omega arith }
      go (Some Tdf) is = record { frac = refl; within = omega arith }
      go (Some De) is = record { frac = refl; within = omega arith }
      go (Some Composite) is = record { frac = refl; within = omega arith }

within_binary : (o : Op) (v w : Width) (a b : Raw) → IsWithinWidth v a → IsWithinWidth w b → IsWithinWidth (of_binary o v w) (combined o a b)
within_binary op.Add v w a b p q = within_sum v w a b p q
within_binary op.Sub v w a b p q = within_difference v w a b p q
within_binary op.Mul v w a b p q = within_product v w a b p q
within_binary op.Or v w a b p q = within_truth _
within_binary op.And v w a b p q = within_truth _
within_binary op.Lt v w a b p q = within_truth _
within_binary op.Le v w a b p q = within_truth _
within_binary op.Eq v w a b p q = within_truth _
within_binary op.Ne v w a b p q = within_truth _
within_binary op.Gt v w a b p q = within_truth _
within_binary op.Ge v w a b p q = within_truth _

pub within : LiesWithinWidth
unfolding expr_faults
within scope loops body line (ENumber digits) turns s sound none fits lf = within_number digits
within scope loops body line (EName name) turns s sound none fits lf = within_name scope loops turns s sound fits lf body line name (none_first _ _ none)
within scope loops body line (EAt name i) turns s sound none fits lf =
    let own = none_first (own_faults scope loops body line (EAt name i)) _ none in
    within_at scope loops turns s sound fits lf body line name i (none_first _ _ own)
    (none_second (kind_faults (place.Element body) (named scope loops name) line) (index_faults scope loops line (named scope loops name) i) own)
within scope loops body line (ECast name e) turns s sound none fits lf = within_type scope loops turns s sound fits lf name (value scope loops turns s e)
within scope loops body line (ESelect test a b) turns s sound none fits lf =
    let rest = none_second (expr_faults scope loops body line test) _ none in
    let more = none_second (expr_faults scope loops body line a) _ rest in
    within_chosen _ (width scope loops a) (width scope loops b) (value scope loops turns s a) (value scope loops turns s b)
    (within scope loops body line a turns s sound (none_first _ _ rest) fits lf)
    (within scope loops body line b turns s sound (none_first _ _ more) fits lf)
within scope loops body line (ENot e) turns s sound none fits lf = within_truth _
within scope loops body line (ENeg e) turns s sound none fits lf =
    within_negative (width scope loops e) (value scope loops turns s e) (within scope loops body line e turns s sound (none_first _ _ none) fits lf)
within scope loops body line (EShift e left n) turns s sound none fits lf =
    within_shift left n (width scope loops e) (value scope loops turns s e) (within scope loops body line e turns s sound (none_first _ _ none) fits lf)
within scope loops body line (EBinary o a b) turns s sound none fits lf =
    let rest = none_second (expr_faults scope loops body line a) _ none in
    within_binary o (width scope loops a) (width scope loops b) (value scope loops turns s a) (value scope loops turns s b)
    (within scope loops body line a turns s sound (none_first _ _ none) fits lf)
    (within scope loops body line b turns s sound (none_first _ _ rest) fits lf)
