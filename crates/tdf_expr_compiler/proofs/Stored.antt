-- The code of names.
use Rattle.std.proofs.Common.{◌≡◌, ◌∙◌, ℕ, zero, suc, ◌+◌, ◌-◌, ◌^◌, ◌<◌, ◌≤◌, Bool, true, false, neg_ℤ, ◌≤ℤ◌, if◌then◌else◌, subst, List, [], ◌∷◌, Bor, Option, Some, None, length, ℤ, pos, refl, sym, ap, arith}
use Rattle.std.proofs.lemmas.Bool.Decides.{nat_tests}
use Rattle.std.proofs.lemmas.Int.{ints}
use Rattle.std.proofs.lemmas.Option.{slice_get_within}
use Rattle.std.specs.Option.{option_map}
use Rattle.std.specs.Prelude.{min, slice_get, slice_index, nat_lt}
use Rattle.tdf_base.specs.declared.codes.Code.TheVariants as code
use Rattle.tdf_expr_semantics.proofs.Api.{least_greatest, placed, limits_placed}
use Rattle.tdf_expr_compiler.proofs.Indexed.{place_within}
use Rattle.tdf_expr_compiler.specs.Layouts.{IsNumbered}
use Rattle.tdf_expr_compiler.specs.declared.numbers.Numbers.{Numbers}
use Rattle.tdf_expr_compiler.specs.machine.Computed.{IsAt, Computes}
use Rattle.tdf_expr_compiler.specs.machine.Found.{IsFound, IsKept, IsWhole, bits_in}
use Rattle.tdf_base.proofs.Api.{if_none, none_second}
use Rattle.tdf_expr_machine.specs.Nodes.{IsNumberAt}
use Rattle.tdf_expr_machine.specs.declared.nodes.Node.{Node}
use Rattle.tdf_expr_machine.specs.declared.nodes.Node.TheVariants as node
use Rattle.tdf_fixed.specs.Overflow.{IsOfWidth}
use Rattle.tdf_expr_semantics.specs.Fits.{NumbersFit}
use Rattle.tdf_expr_semantics.specs.Places.{cells_of, samples_of, first_cell, first_sample, rate_number, cell_shapes, sample_shapes, rate_limits}
use Rattle.tdf_expr_semantics.specs.Value.{of_shape as number_in, value, element, element_at, own_value, turn_or, literal_in}
use Rattle.tdf_expr_symbols.specs.Faults.{expr_faults, own_faults, wide_faults, is_wide}
use Rattle.tdf_expr_symbols.specs.Names.{Names, Thing, Const, Var, Array, Port, RateVar, Event, Signal, DeSignal, Instance, Loop, TypeName, Tdf, De, Composite, shape_of, thing_of, place_of, found_at}
use Rattle.tdf_expr_symbols.specs.Scope.{Scope, OpenLoop, named, loop_of, loop_place, first_some, as_thing}
use Rattle.tdf_expr_symbols.specs.Sound.{IsThingSound, HasFormat}
use Rattle.tdf_expr_symbols.specs.Seen.{seen}
use Rattle.tdf_expr_symbols.specs.declared.things.Thing.{Thing as Held}
use Rattle.tdf_expr_symbols.specs.declared.things.Thing.TheVariants as held
use Rattle.tdf_expr_symbols.specs.Width.{width, of_thing, width_of_shape}
use Rattle.tdf_expr_symbols.specs.declared.kinds.Part.{Part}
use Rattle.tdf_expr_state.specs.State.{State, cell_at}
use Rattle.tdf_lang_tree.specs.Pure.{EName, EAt}
use Rattle.tdf_lang_tree.specs.declared.blocks.PortKind.{PortKind}
use Rattle.tdf_lang_tree.specs.declared.names.Lit.{Lit}
use Rattle.tdf_lang_tree.specs.declared.shapes.Shape.{Shape}
use Rattle.tdf_lang_tree.specs.declared.stmt.Limit.{Limit}

-- what is sound keeps its constant
pub kept_of : (own : Names) (t : Thing) → IsThingSound own t → IsKept t
kept_of own (Const shape value) sound = sound
kept_of own _ sound = tt

-- the bits after the point are those of the format
pub part_thing : (t : Thing) → (of_thing (Some t)).part ≡ (width_of_shape (shape_of t)).part
part_thing (Const shape value) = refl
part_thing (Var shape start) = refl
part_thing (Array shape size starts) = refl
part_thing (Port word shape rate delay) = refl
part_thing (RateVar least greatest start) = refl
part_thing Event = refl
part_thing (Signal shape) = refl
part_thing (DeSignal shape start) = refl
part_thing Instance = refl
part_thing (Loop from end) = refl
part_thing (TypeName shape) = refl
part_thing Tdf = refl
part_thing De = refl
part_thing Composite = refl

-- a number of a format lies in the signed range of so many bits beside the sign
of_range : (signed : Bool) (wl : ℕ) (z : ℤ) → 1 ≤ wl → IsOfWidth signed wl z → IsOfWidth true ((if signed then wl - 1 else wl) + 1) z
of_range true wl z some range = let same : wl ≡ wl - 1 + 1 = omega (arith, some) in subst (λ k. IsOfWidth true k z) same range
of_range false wl z some range =
    let one : wl ≡ wl + 1 - 1 = omega arith in
    let low : neg_ℤ (pos (2 ^ wl)) ≤ℤ z = below z (2 ^ wl) range.low in
    record { low = subst (λ k. neg_ℤ (pos (2 ^ k)) ≤ℤ z) one low; high = subst (λ k. z ≤ℤ pos (2 ^ k - 1)) one range.high }
  where
    below : (z : ℤ) (m : ℕ) → pos 0 ≤ℤ z → neg_ℤ (pos m) ≤ℤ z
    below z m low = omega (arith, ints, low)

few_in : (signed : Bool) (wl : ℕ) → wl ≤ 64 → min (if signed then wl - 1 else wl) 255 ≡ (if signed then wl - 1 else wl)
few_in true wl few = omega (arith, few)
few_in false wl few = omega (arith, few)

bits_within : (shapes : List (Option Shape)) (nums : List ℤ) → NumbersFit shapes nums → (j : ℕ) (shape : Option Shape) → HasFormat shape → slice_get shapes j ≡ Some shape
    → IsOfWidth true (bits_in shape + 1) (cell_at nums j)
bits_within shapes nums fit j (Some s) has at =
    subst (λ k. IsOfWidth true (k + 1) (cell_at nums j)) (sym (few_in s.signed s.wl has.few_bits))
    (of_range s.signed s.wl (cell_at nums j) has.some_bits (fit.each j s at))
bits_within shapes nums fit j None has at = absurd has

-- no more bits than a value may have
pub few_bits : (w p line : ℕ) → wide_faults (record { whole = w; part = p }) line ≡ [] → w + p ≤ 120
unfolding is_wide
few_bits w p line e = let test : nat_lt 120 (w + p) ≡ false = if_none (nat_lt 120 (w + p)) code.Wide line e in grind (arith, nat_tests)

module _ (scope : Scope) (loops : List OpenLoop) where
  pub name_few : (body : Part) (line : ℕ) (name : List ℕ) → expr_faults scope loops body line (EName name) ≡ []
      → (width scope loops (EName name)).part ≤ 120
  unfolding expr_faults
  name_few body line name e =
      let w = width scope loops (EName name) in
      omega (arith, few_bits w.whole w.part line (none_second (own_faults scope loops body line (EName name)) (wide_faults w line) e))

  pub at_few : (body : Part) (line : ℕ) (name : List ℕ) (i : _) → expr_faults scope loops body line (EAt name i) ≡ []
      → (width scope loops (EAt name i)).part ≤ 120
  unfolding expr_faults
  at_few body line name i e =
      let w = width scope loops (EAt name i) in
      omega (arith, few_bits w.whole w.part line (none_second (own_faults scope loops body line (EAt name i)) (wide_faults w line) e))

  loop_none : (name : List ℕ) → loop_place loops name ≡ None → loop_of loops name ≡ None
  loop_none name e = ap (λ o. option_map as_thing (found_at loops o)) e

  pub named_own : (name : List ℕ) → loop_place loops name ≡ None → named scope loops name ≡ thing_of scope.own name
  unfolding named
  named_own name e = ap (λ o. first_some o (thing_of scope.own name)) (loop_none name e)

  has_at : (xs : List OpenLoop) (n : ℕ) → n < length xs → (x : OpenLoop) × (slice_get xs n ≡ Some x)
  has_at [] n h = absurd (omega (arith, h))
  has_at (x ∷ xs) zero h = (x, refl)
  has_at (x ∷ xs) (suc n) h = has_at xs n (omega (arith, h))

  named_loop : (name : List ℕ) (depth : ℕ) → loop_place loops name ≡ Some depth → (l : OpenLoop) × (named scope loops name ≡ Some (as_thing l))
  unfolding named
  named_loop name depth e =
      let l = has_at loops depth (place_within loops name depth e) in
      (l.0, ap (λ o. first_some (option_map as_thing o) (thing_of scope.own name)) (ap (found_at loops) e ∙ l.1))

  -- a loop variable
  pub computes_loop : (name : List ℕ) (depth : ℕ) → loop_place loops name ≡ Some depth
      → Computes scope loops (EName name) (node.Loop (min depth 8192)) 0
  computes_loop name depth e =
      let l = named_loop name depth e in
      record {
        part_is = λ body line none. sym (ap (λ o. (of_thing o).part) l.1);
        gives = λ body line turns s none at.
            let inside : depth < length loops = place_within loops name depth e in
            let same : min depth 8192 ≡ depth = omega (arith, inside, at.few) in
            let turn : value scope loops turns s (EName name) ≡ record { num = pos (slice_index turns depth); frac = 0 } =
            ap (λ o. turn_or (option_map (slice_index turns) o) (own_value scope.own s name (pos 0))) e in
            record {
              safe = rw same (omega (arith, inside, at.running.long));
              num = rw same (sym (ap (λ r. r.num) turn));
            };
      }

  value_own : (name : List ℕ) (turns : List ℕ) (s : State) → loop_place loops name ≡ None
      → value scope loops turns s (EName name) ≡ own_value scope.own s name (pos 0)
  value_own name turns s e = ap (λ o. turn_or (option_map (slice_index turns) o) (own_value scope.own s name (pos 0))) e

  pub own_found : (name : List ℕ) (n : ℕ) (t : Thing) (s : State) (k : ℕ) → place_of scope.own name ≡ Some n → thing_of scope.own name ≡ Some t
      → own_value scope.own s name (pos k) ≡ element scope.own s n t k
  own_found name n t s k at is = ap (λ o. element_at scope.own s o (thing_of scope.own name) (pos k)) at ∙ ap (λ o. element_at scope.own s (Some n) o (pos k)) is

  pub thing_at : (name : List ℕ) (n : ℕ) (t : Thing) → place_of scope.own name ≡ Some n → thing_of scope.own name ≡ Some t → slice_get scope.own.things n ≡ Some t
  thing_at name n t at is = ap (found_at scope.own.things) (sym at) ∙ is

  -- a bare name of the block
  pub computes_stored : (name : List ℕ) (t : Thing) (p : Numbers) (node : Node) (f : IsFound scope.own name t p) → loop_place loops name ≡ None
      → IsWhole scope loops f.place t node → Computes scope loops (EName name) node (min (width_of_shape (shape_of t)).part 255)
  computes_stored name t p node f e whole =
      let is : named scope loops name ≡ Some t = named_own name e ∙ f.is in
      let part : (width scope loops (EName name)).part ≡ (width_of_shape (shape_of t)).part = ap (λ o. (of_thing o).part) is ∙ part_thing t in
      record {
        part_is = λ body line none. omega (arith, part, name_few body line name none);
        gives = λ body line turns s none at.
            let there = whole.at turns s at (thing_at name f.place t f.at f.is) in
            record {
              safe = there.0;
              num = there.1 ∙ sym (ap (λ r. r.num) (value_own name turns s e ∙ own_found name f.place t s 0 f.at f.is));
            };
      }

  pub own_none : (name : List ℕ) (s : State) (k : _) → thing_of scope.own name ≡ None → (own_value scope.own s name k).num ≡ pos 0
  own_none name s k e = ap (λ o. (element_at scope.own s (place_of scope.own name) o k).num) e ∙ go (place_of scope.own name)
    where
      go : (o : Option ℕ) → (element_at scope.own s o None k).num ≡ pos 0
      go None = refl
      go (Some n) = refl

  -- a name that stands for nothing
  pub computes_missing : (name : List ℕ) → thing_of scope.own name ≡ None → loop_place loops name ≡ None
      → Computes scope loops (EName name) (node.Const (pos 0)) 0
  computes_missing name none_is e =
      let is : named scope loops name ≡ None = named_own name e ∙ none_is in
      record {
        part_is = λ body line none. sym (ap (λ o. (of_thing o).part) is);
        gives = λ body line turns s none at. record {
          safe = tt;
          num = sym (ap (λ r. r.num) (value_own name turns s e) ∙ own_none name s (pos 0) none_is);
        };
      }

  -- cells, samples and rates are there
  pub cell_within : (turns : List ℕ) (s : State) (n k : ℕ) (t : Thing) → IsAt scope loops turns s → slice_get scope.own.things n ≡ Some t → k < cells_of t
      → first_cell scope.own n + k < length s.frame.cells
  cell_within turns s n k t at is inside =
      let there = placed cells_of shape_of scope.own.things n k t is inside in
      let low = slice_get_within (cell_shapes scope.own) (first_cell scope.own n + k) (shape_of t) there in
      omega (arith, low, at.state.frame.cells.long)

  pub sample_within : (turns : List ℕ) (s : State) (n k : ℕ) (t : Thing) → IsAt scope loops turns s → slice_get scope.own.things n ≡ Some t → k < samples_of scope.own t
      → first_sample scope.own n + k < length s.ports.samples
  sample_within turns s n k t at is inside =
      let there = placed (samples_of scope.own) shape_of scope.own.things n k t is inside in
      let low = slice_get_within (sample_shapes scope.own) (first_sample scope.own n + k) (shape_of t) there in
      omega (arith, low, at.state.ports.samples.long)

  -- and have no more bits than their formats
  pub cell_there : (turns : List ℕ) (s : State) (n k : ℕ) (t : Thing) → IsAt scope loops turns s → slice_get scope.own.things n ≡ Some t → HasFormat (shape_of t) → k < cells_of t
      → IsNumberAt s.frame.cells (first_cell scope.own n + k) (bits_in (shape_of t))
  cell_there turns s n k t at is has inside =
      let there = placed cells_of shape_of scope.own.things n k t is inside in (
        cell_within turns s n k t at is inside,
        bits_within (cell_shapes scope.own) s.frame.cells at.state.frame.cells (first_cell scope.own n + k) (shape_of t) has there,
      )

  pub sample_there : (turns : List ℕ) (s : State) (n k : ℕ) (t : Thing) → IsAt scope loops turns s → slice_get scope.own.things n ≡ Some t → HasFormat (shape_of t)
      → k < samples_of scope.own t → IsNumberAt s.ports.samples (first_sample scope.own n + k) (bits_in (shape_of t))
  sample_there turns s n k t at is has inside =
      let there = placed (samples_of scope.own) shape_of scope.own.things n k t is inside in (
        sample_within turns s n k t at is inside,
        bits_within (sample_shapes scope.own) s.ports.samples at.state.ports.samples (first_sample scope.own n + k) (shape_of t) has there,
      )

  pub rate_within : (turns : List ℕ) (s : State) (n least greatest start : ℕ) → IsAt scope loops turns s → slice_get scope.own.things n ≡ Some (RateVar least greatest start)
      → rate_number scope.own n < length s.frame.rates
  rate_within turns s n least greatest start at is =
      let there = limits_placed scope.own.things n least greatest start is in
      let low = slice_get_within (rate_limits scope.own) (rate_number scope.own n) _ there in
      omega (arith, low, at.state.frame.rates.long)

  -- each kind of name without an index
  pub whole_const : (n : ℕ) (shape : Option Shape) (v : _) → IsWhole scope loops n (Const shape v) (node.Const (literal_in shape v).num)
  whole_const n shape v = record { at = λ turns s at is. (tt, refl) }

-- a number of a format
pub shaped : (shape : Option Shape) (num : ℤ) → HasFormat shape → (number_in shape num).num ≡ num
shaped (Some shape) num has = refl
shaped None num has = absurd has

module _ (scope : Scope) (loops : List OpenLoop) where
  pub whole_var : (n : ℕ) (p : Numbers) (shape : Option Shape) (v : Lit) → IsNumbered scope.own n p → IsWhole scope loops n (Var shape v) (node.Cell p.cell (bits_in shape))
  whole_var n p shape v numbered = record {
    at = λ turns s at is.
        let has = (at.sound.own n (Var shape v) is).0 in
        let here : p.cell ≡ first_cell scope.own n + 0 = numbered.cell ∙ omega arith in (
          rw here (cell_there scope loops turns s n 0 (Var shape v) at is has (omega arith)),
          ap (cell_at s.frame.cells) here ∙ sym (shaped shape (cell_at s.frame.cells (first_cell scope.own n + 0)) has),
        );
  }

  pub whole_array : (n : ℕ) (p : Numbers) (shape : Option Shape) (size : ℕ) (vs : List Lit) → IsNumbered scope.own n p
      → IsWhole scope loops n (Array shape size vs) (node.Cell p.cell (bits_in shape))
  whole_array n p shape size vs numbered = record {
    at = λ turns s at is.
        let holds = at.sound.own n (Array shape size vs) is in
        let here : p.cell ≡ first_cell scope.own n + 0 = numbered.cell ∙ omega arith in (
          rw here (cell_there scope loops turns s n 0 (Array shape size vs) at is holds.0 (omega (arith, holds.3))),
          ap (cell_at s.frame.cells) here ∙ sym (shaped shape (cell_at s.frame.cells (first_cell scope.own n + 0)) holds.0),
        );
  }

  pub whole_port : (n : ℕ) (p : Numbers) (word : PortKind) (shape : Option Shape) (rate : Limit) (delay : ℕ) → IsNumbered scope.own n p
      → IsWhole scope loops n (Port word shape rate delay) (node.Sample p.sample (bits_in shape))
  whole_port n p word shape rate delay numbered = record {
    at = λ turns s at is.
        let holds = at.sound.own n (Port word shape rate delay) is in
        let here : p.sample ≡ first_sample scope.own n + 0 = numbered.sample ∙ omega arith in
        let some = least_greatest scope at.sound rate in (
          rw here (sample_there scope loops turns s n 0 (Port word shape rate delay) at is holds.0 (omega (arith, some, holds.1))),
          ap (cell_at s.ports.samples) here ∙ sym (shaped shape (cell_at s.ports.samples (first_sample scope.own n + 0)) holds.0),
        );
  }

  pub whole_rate : (n : ℕ) (p : Numbers) (least greatest start : ℕ) → IsNumbered scope.own n p
      → IsWhole scope loops n (RateVar least greatest start) (node.Rate p.rate)
  whole_rate n p least greatest start numbered = record {
    at = λ turns s at is. rw numbered.rate (rate_within scope loops turns s n least greatest start at is, refl);
  }

  -- what has no value
  pub whole_other : (n : ℕ) (t : Thing) → ((own : Names) (s : State) → (element own s n t 0).num ≡ pos 0) → IsWhole scope loops n t (node.Const (pos 0))
  whole_other n t none = record { at = λ turns s at is. (tt, sym (none scope.own s)) }

-- a name that is none of those with a value
pub other_none : (t : Held) → ((a : Option Shape) (b : Bor Lit) → t ≡ held.Const a b → ⊥) → ((a : Option Shape) (b : Bor Lit) → t ≡ held.Var a b → ⊥)
    → ((a : Option Shape) (b : ℕ) (c : Bor (List Lit)) → t ≡ held.Array a b c → ⊥)
    → ((a : PortKind) (b : Option Shape) (c : Option (Bor Limit)) (d : ℕ) → t ≡ held.Port a b c d → ⊥)
    → ((a b c : ℕ) → t ≡ held.RateVar a b c → ⊥) → (own : Names) (s : State) (n k : ℕ) → (element own s n (seen t) k).num ≡ pos 0
other_none (held.Const x y) c v a p r own s n k = absurd (c _ _ refl)
other_none (held.Var x y) c v a p r own s n k = absurd (v _ _ refl)
other_none (held.Array x y z) c v a p r own s n k = absurd (a _ _ _ refl)
other_none (held.Port x y z w) c v a p r own s n k = absurd (p _ _ _ _ refl)
other_none (held.RateVar x y z) c v a p r own s n k = absurd (r _ _ _ refl)
other_none _ c v a p r own s n k = refl

pub ruleset whole_laws = (whole_const, whole_var, whole_array, whole_port, whole_rate)
