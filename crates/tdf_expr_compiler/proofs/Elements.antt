-- The code of elements.
use Rattle.std.proofs.Common.{◌≡◌, ◌∙◌, ℕ, zero, suc, ◌+◌, ◌<◌, Bool, true, false, List, [], ◌∷◌, Bor, Option, Some, None, length, pos, refl, sym, ap, subst, arith}
use Rattle.std.specs.Option.{option_map}
use Rattle.std.specs.Prelude.{slice_get, min, ◌||◌}
use Rattle.tdf_expr_semantics.proofs.Api.{inside, of_kind}
use Rattle.tdf_expr_compiler.proofs.Stored.{shaped, cell_there, sample_there, own_found, own_none, thing_at, at_few, part_thing}
use Rattle.tdf_expr_compiler.specs.Layouts.{IsNumbered}
use Rattle.tdf_expr_compiler.specs.declared.numbers.Numbers.{Numbers}
use Rattle.tdf_expr_compiler.specs.machine.Computed.{IsAt, Computes}
use Rattle.tdf_expr_compiler.specs.machine.Found.{IsFound, IsIndexed, IsCellAt, IsSampleAt, bits_in}
use Rattle.tdf_expr_compiler.specs.machine.Indexed.{AreTurns, IsSpotOf}
use Rattle.tdf_base.proofs.Api.{none_first, none_second}
use Rattle.tdf_expr_machine.specs.declared.nodes.Node.{Node}
use Rattle.tdf_expr_machine.specs.declared.nodes.Node.TheVariants as node
use Rattle.tdf_expr_machine.specs.declared.spots.Spot.{Spot}
use Rattle.tdf_expr_semantics.specs.Places.{first_cell, first_sample}
use Rattle.tdf_expr_semantics.specs.Value.{index_value, own_value}
use Rattle.tdf_expr_symbols.specs.Faults.{expr_faults, own_faults}
use Rattle.tdf_expr_symbols.specs.Index.{kind_faults, index_faults}
use Rattle.tdf_expr_symbols.specs.Kinds.{is_allowed}
use Rattle.tdf_expr_symbols.specs.Names.{Thing, Array, Port, Loop, kind_of, shape_of, thing_of, found_at}
use Rattle.tdf_expr_symbols.specs.Scope.{Scope, OpenLoop, named, loop_of, loop_place, first_some, as_thing, greatest_of}
use Rattle.tdf_expr_symbols.specs.Seen.{seen}
use Rattle.tdf_expr_symbols.specs.declared.things.Thing.{Thing as Held}
use Rattle.tdf_expr_symbols.specs.declared.things.Thing.TheVariants as held
use Rattle.tdf_expr_symbols.specs.Width.{width, of_thing, width_of_shape}
use Rattle.tdf_expr_symbols.specs.declared.kinds.Kind.{Kind}
use Rattle.tdf_expr_symbols.specs.declared.kinds.Part.{Part}
use Rattle.tdf_expr_symbols.specs.declared.kinds.Part.TheVariants as part
use Rattle.tdf_expr_symbols.specs.declared.kinds.Place.TheVariants as place
use Rattle.tdf_expr_state.specs.State.{State, cell_at}
use Rattle.tdf_lang_tree.specs.Pure.{EAt}
use Rattle.tdf_lang_tree.specs.declared.blocks.PortKind.{PortKind}
use Rattle.tdf_lang_tree.specs.declared.expr.Index.{Index}
use Rattle.tdf_lang_tree.specs.declared.names.Lit.{Lit}
use Rattle.tdf_lang_tree.specs.declared.shapes.Shape.{Shape}
use Rattle.tdf_lang_tree.specs.declared.stmt.Limit.{Limit}
use Rattle.tdf_lang_tree.specs.declared.stmt.Limit.TheVariants as limit

has_loop : (xs : List OpenLoop) (n : ℕ) → n < length xs → (x : OpenLoop) × (slice_get xs n ≡ Some x)
has_loop [] n h = absurd (omega (arith, h))
has_loop (x ∷ xs) zero h = (x, refl)
has_loop (x ∷ xs) (suc n) h = has_loop xs n (omega (arith, h))

pub are_turns : (scope : Scope) (loops : List OpenLoop) (turns : List ℕ) (s : State) → IsAt scope loops turns s → AreTurns loops turns
are_turns scope loops turns s at = record {
  long = at.running.long;
  few = at.few;
  small = λ d within.
      let l = has_loop loops d within in
      let bounds = at.running.each d l.0 l.1 in
      omega (arith, bounds.1, bounds.2);
}

module _ (scope : Scope) (loops : List OpenLoop) where
  pub indexed_array : (n : ℕ) (p : Numbers) (shape : Option Shape) (size : ℕ) (vs : List Lit) (i : Index) (spot : Spot) (code : Node) → IsNumbered scope.own n p
      → IsSpotOf loops p.cell i spot → IsCellAt spot (bits_in shape) code → IsIndexed scope loops n (Array shape size vs) i code
  unfolding greatest_of
  indexed_array n p shape size vs i spot code numbered spots cell = record {
    at = λ body line turns s at is kind none.
        let holds = at.sound.own n (Array shape size vs) is in
        let x = inside scope loops line (Array shape size vs) (limit.Int size) i turns at.sound refl none at.running in
        let below : x.place < size = x.below in
        let there = spots.stands turns (are_turns scope loops turns s at) x.place x.is (omega (arith, below, holds.4)) in
        let here = there.1 ∙ ap (λ k. k + x.place) numbered.cell in (
          cell.safe turns s there.0 (rw here (cell_there scope loops turns s n x.place (Array shape size vs) at is holds.0 below)),
          (x.place, x.is, cell.num turns s ∙ ap (cell_at s.frame.cells) here ∙ sym (shaped shape (cell_at s.frame.cells (first_cell scope.own n + x.place)) holds.0)),
        );
  }

  pub indexed_port : (n : ℕ) (p : Numbers) (word : PortKind) (shape : Option Shape) (rate : Limit) (delay : ℕ) (i : Index) (spot : Spot) (code : Node) → IsNumbered scope.own n p
      → IsSpotOf loops p.sample i spot → IsSampleAt spot (bits_in shape) code → IsIndexed scope loops n (Port word shape rate delay) i code
  indexed_port n p word shape rate delay i spot code numbered spots sample = record {
    at = λ body line turns s at is kind none.
        let holds = at.sound.own n (Port word shape rate delay) is in
        let x = inside scope loops line (Port word shape rate delay) rate i turns at.sound refl none at.running in
        let there = spots.stands turns (are_turns scope loops turns s at) x.place x.is (omega (arith, x.below, holds.2)) in
        let here = there.1 ∙ ap (λ k. k + x.place) numbered.sample in (
          sample.safe turns s there.0 (rw here (sample_there scope loops turns s n x.place (Port word shape rate delay) at is holds.0 x.below)),
          (x.place, x.is, sample.num turns s ∙ ap (cell_at s.ports.samples) here ∙ sym (shaped shape (cell_at s.ports.samples (first_sample scope.own n + x.place)) holds.0)),
        );
  }

-- what may have an index in some body, may have one in `processing`
widen : (a b : Bool) → a || false ≡ true → a || b ≡ true
widen true b e = refl
widen false b e = absurd cc

in_processing : (body : Part) (k : Kind) → is_allowed (place.Element body) (Some k) ≡ true → is_allowed (place.Element part.Processing) (Some k) ≡ true
unfolding is_allowed
in_processing part.Processing k e = e
in_processing _ k e = widen _ _ e

not_element : (t : Thing) → ((shape : Option Shape) (size : ℕ) (vs : List Lit) → t ≡ Array shape size vs → ⊥)
    → ((word : PortKind) (shape : Option Shape) (rate : Limit) (delay : ℕ) → t ≡ Port word shape rate delay → ⊥)
    → is_allowed (place.Element part.Processing) (Some (kind_of t)) ≡ true → ⊥
unfolding is_allowed
not_element (Array x y z) a p e = a _ _ _ refl
not_element (Port x y z w) a p e = p _ _ _ _ refl
not_element _ a p e = absurd cc

some_same : (t u : Thing) → Some t ≡ Some u → u ≡ t
some_same t u e = sym (ap held e)
  where
    held : Option Thing → Thing
    held None = t
    held (Some x) = x

pub no_element : (body : Part) (line : ℕ) (t : Thing) → ((shape : Option Shape) (size : ℕ) (vs : List Lit) → t ≡ Array shape size vs → ⊥)
    → ((word : PortKind) (shape : Option Shape) (rate : Limit) (delay : ℕ) → t ≡ Port word shape rate delay → ⊥)
    → kind_faults (place.Element body) (Some t) line ≡ [] → ⊥
no_element body line t a p e =
    let kind = of_kind (place.Element body) (Some t) line e in
    let same = some_same t kind.thing kind.is in
    not_element t a p (in_processing body (kind_of t) (subst (λ u. is_allowed (place.Element body) (Some (kind_of u)) ≡ true) same kind.allowed))

array_unseen : (t : Held) → ((a : Option Shape) (b : ℕ) (c : Bor (List Lit)) → t ≡ held.Array a b c → ⊥)
    → (shape : Option Shape) (size : ℕ) (vs : List Lit) → seen t ≡ Array shape size vs → ⊥
array_unseen (held.Array a b c) none shape size vs e = none a b c refl
array_unseen _ none shape size vs e = absurd cc

port_unseen : (t : Held) → ((a : PortKind) (b : Option Shape) (c : Option (Bor Limit)) (d : ℕ) → t ≡ held.Port a b c d → ⊥)
    → (word : PortKind) (shape : Option Shape) (rate : Limit) (delay : ℕ) → seen t ≡ Port word shape rate delay → ⊥
port_unseen (held.Port a b c d) none word shape rate delay e = none a b c d refl
port_unseen _ none word shape rate delay e = absurd cc

pub indexed_other : (scope : Scope) (loops : List OpenLoop) (n : ℕ) (t : Held) (i : Index) (code : Node)
    → ((a : Option Shape) (b : ℕ) (c : Bor (List Lit)) → t ≡ held.Array a b c → ⊥)
    → ((a : PortKind) (b : Option Shape) (c : Option (Bor Limit)) (d : ℕ) → t ≡ held.Port a b c d → ⊥)
    → IsIndexed scope loops n (seen t) i code
indexed_other scope loops n t i code a p = record {
  at = λ body line turns s at is kind none. absurd (no_element body line (seen t) (array_unseen t a) (port_unseen t p) kind);
}

-- a name with an index is no loop variable
loop_no_element : (body : Part) (line : ℕ) (from : ℕ) (end : Limit) → kind_faults (place.Element body) (Some (Loop from end)) line ≡ [] → ⊥
loop_no_element body line from end e = no_element body line (Loop from end) (λ shape size vs h. absurd cc) (λ word shape rate delay h. absurd cc) e

module _ (scope : Scope) (loops : List OpenLoop) where
  -- a name with an index, without a fault: no loop variable has the name
  pub named_element : (body : Part) (line : ℕ) (name : List ℕ) → kind_faults (place.Element body) (named scope loops name) line ≡ []
      → named scope loops name ≡ thing_of scope.own name
  unfolding named
  named_element body line name e = go (loop_of loops name) refl e
    where
      shown : (o : Option OpenLoop) → kind_faults (place.Element body) (first_some (option_map as_thing o) (thing_of scope.own name)) line ≡ []
          → first_some (option_map as_thing o) (thing_of scope.own name) ≡ thing_of scope.own name
      shown None e = refl
      shown (Some l) e = absurd (loop_no_element body line l.from l.end e)

      go : (o : Option Thing) → loop_of loops name ≡ o → kind_faults (place.Element body) (first_some (loop_of loops name) (thing_of scope.own name)) line ≡ []
          → first_some (loop_of loops name) (thing_of scope.own name) ≡ thing_of scope.own name
      go o at e = shown (found_at loops (loop_place loops name)) e

  kind_none : (body : Part) (line : ℕ) (name : List ℕ) (i : Index) → expr_faults scope loops body line (EAt name i) ≡ [] → kind_faults (place.Element body) (named scope loops name) line ≡ []
  unfolding expr_faults
  kind_none body line name i e = none_first _ _ (none_first (own_faults scope loops body line (EAt name i)) _ e)

  index_none : (body : Part) (line : ℕ) (name : List ℕ) (i : Index) → expr_faults scope loops body line (EAt name i) ≡ [] → index_faults scope loops line (named scope loops name) i ≡ []
  unfolding expr_faults
  index_none body line name i e = none_second (kind_faults (place.Element body) (named scope loops name) line) _ (none_first (own_faults scope loops body line (EAt name i)) _ e)

  pub computes_element : (name : List ℕ) (i : Index) (t : Thing) (p : Numbers) (code : Node) (f : IsFound scope.own name t p) → IsIndexed scope loops f.place t i code
      → Computes scope loops (EAt name i) code (min (width_of_shape (shape_of t)).part 255)
  computes_element name i t p code f indexed = record {
    part_is = λ body line none.
        let is = named_element body line name (kind_none body line name i none) ∙ f.is in
        let part : (width scope loops (EAt name i)).part ≡ (width_of_shape (shape_of t)).part = ap (λ o. (of_thing o).part) is ∙ part_thing t in
        omega (arith, part, at_few scope loops body line name i none);
    gives = λ body line turns s none at.
        let kind = kind_none body line name i none in
        let index = index_none body line name i none in
        let is = named_element body line name kind ∙ f.is in
        let there = indexed.at body line turns s at (thing_at scope loops name f.place t f.at f.is)
        (subst (λ o. kind_faults (place.Element body) o line ≡ []) is kind) (subst (λ o. index_faults scope loops line o i ≡ []) is index) in
        record {
          safe = there.0;
          num = there.1.2 ∙ sym (ap (λ r. r.num) (ap (own_value scope.own s name) there.1.1 ∙ own_found scope loops name f.place t s there.1.0 f.at f.is));
        };
  }

  -- a name with an index that stands for nothing
  pub computes_absent : (name : List ℕ) (i : Index) → thing_of scope.own name ≡ None → Computes scope loops (EAt name i) (node.Const (pos 0)) 0
  computes_absent name i none_is = record {
    part_is = λ body line none.
        let is = named_element body line name (kind_none body line name i none) ∙ none_is in
        sym (ap (λ o. (of_thing o).part) is);
    gives = λ body line turns s none at. record { safe = tt; num = sym (own_none scope loops name s (index_value loops turns i) none_is) };
  }
