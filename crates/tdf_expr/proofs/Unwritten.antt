-- Statements without a fault write no sample of a port that bodies read.
use Rattle.std.proofs.Common.{◌≡◌, ◌∙◌, ℕ, zero, suc, ◌+◌, ◌-◌, ◌<◌, ◌≤◌, Bool, true, false, List, [], ◌∷◌, ◌++◌, Option, Some, None, length, refl, sym, ap, subst, arith, ℤ, pos, if◌then◌else◌}
use Rattle.std.proofs.lemmas.List.{get_or-set_other}
use Rattle.std.specs.Option.{option_map}
use Rattle.std.specs.Prelude.{map, slice_get}
use Rattle.tdf_expr.proofs.Framed.{map_at}
use Rattle.tdf_expr.specs.Frames.{is_written, KeepsRead}
use Rattle.tdf_expr.specs.Plans.{PortPlace, place_of_span, places_from, port_places}
use Rattle.tdf_expr.specs.declared.spans.PortSpan.{PortSpan}
use Rattle.tdf_expr.specs.machine.Inputs.{KeepsInputs, NeverWritesInputs}
use Rattle.tdf_base.proofs.Api.{none_first, none_second}
use Rattle.tdf_fixed.specs.declared.raw.Raw.{Raw}
use Rattle.tdf_expr_semantics.proofs.Api.{found, thing_sound, of_kind, is_limit, loops_more, target_element, has_element, first_element, keeps}
use Rattle.tdf_expr_semantics.specs.Bodies.{with_element, assigned_at, assigned, target_index, limit_value, whole_within, with_whole, rate_set, noticed_at, stepped_at, step_assigned, repeated, after, after_all}
use Rattle.tdf_expr_semantics.specs.Fits.{StateFits, LoopsFit}
use Rattle.tdf_expr_semantics.specs.Places.{HasElement, before, samples_of, first_sample, rate_number, port_number}
use Rattle.tdf_expr_semantics.specs.Value.{value, holds, cast_number}
use Rattle.tdf_expr_symbols.specs.Faults.{expr_faults, stmts_faults, stmt_faults, target_faults, limit_faults, opened}
use Rattle.tdf_expr_symbols.specs.Index.{kind_faults, index_faults}
use Rattle.tdf_expr_symbols.specs.Kinds.{is_allowed}
use Rattle.tdf_expr_symbols.specs.Names.{Names, Thing, Var, Array, Port, RateVar, Loop, found_at, place_of, thing_of, kind_of}
use Rattle.tdf_expr_symbols.specs.Scope.{Scope, OpenLoop, named, loop_place, as_thing, first_some, greatest_of}
use Rattle.tdf_expr_symbols.specs.Sound.{IsSound, IsThingSound}
use Rattle.tdf_expr_symbols.specs.declared.kinds.Part.{Part}
use Rattle.tdf_expr_symbols.specs.declared.kinds.Part.TheVariants as part
use Rattle.tdf_expr_symbols.specs.declared.kinds.Place.TheVariants as place
use Rattle.tdf_expr_state.specs.State.{State, cell_at, with_sample}
use Rattle.tdf_lang_tree.specs.Pure.{PureStmt, PureStmts, SAssign, SIf, SFor, SNotify, SSetRate, SSetStep, SAccept, SReject, Done, More}
use Rattle.tdf_lang_tree.specs.declared.blocks.PortKind.{PortKind}
use Rattle.tdf_lang_tree.specs.declared.blocks.PortKind.TheVariants.{In, Out, DeIn, DeOut}
use Rattle.tdf_lang_tree.specs.declared.expr.Index.{Index}
use Rattle.tdf_lang_tree.specs.declared.shapes.Shape.{Shape}
use Rattle.tdf_lang_tree.specs.declared.stmt.Limit.{Limit}

same_inputs : (own : Names) (s : State) → KeepsInputs own s s
same_inputs own s = record { same = λ n k word shape rate delay at unwritten below. refl }

then_inputs : (own : Names) (a b c : State) → KeepsInputs own a b → KeepsInputs own b c → KeepsInputs own a c
then_inputs own a b c first second = record {
  same = λ n k word shape rate delay at unwritten below. second.same n k word shape rate delay at unwritten below ∙ first.same n k word shape rate delay at unwritten below;
}

-- what may be assigned
abbrev IsTarget : Thing → Type 0
IsTarget (Port In shape rate delay) = ⊥
IsTarget (Port DeIn shape rate delay) = ⊥
IsTarget (Loop from end) = ⊥
IsTarget _ = Unit {0}

target_kind : (body : Part) (t : Thing) → is_allowed (place.Target body) (Some (kind_of t)) ≡ true → IsTarget t
unfolding is_allowed
target_kind part.Initialize (Port In a b c) e = absurd cc
target_kind part.Processing (Port In a b c) e = absurd cc
target_kind part.Change (Port In a b c) e = absurd cc
target_kind part.Reinitialize (Port In a b c) e = absurd cc
target_kind part.Process (Port In a b c) e = absurd cc
target_kind part.Initialize (Port DeIn a b c) e = absurd cc
target_kind part.Processing (Port DeIn a b c) e = absurd cc
target_kind part.Change (Port DeIn a b c) e = absurd cc
target_kind part.Reinitialize (Port DeIn a b c) e = absurd cc
target_kind part.Process (Port DeIn a b c) e = absurd cc
target_kind part.Initialize (Loop a b) e = absurd cc
target_kind part.Processing (Loop a b) e = absurd cc
target_kind part.Change (Loop a b) e = absurd cc
target_kind part.Reinitialize (Loop a b) e = absurd cc
target_kind part.Process (Loop a b) e = absurd cc
target_kind body _ e = tt

element_kind : (body : Part) (t : Thing) → is_allowed (place.TargetElement body) (Some (kind_of t)) ≡ true → IsTarget t
unfolding is_allowed
element_kind part.Initialize (Port In a b c) e = absurd cc
element_kind part.Processing (Port In a b c) e = absurd cc
element_kind part.Change (Port In a b c) e = absurd cc
element_kind part.Reinitialize (Port In a b c) e = absurd cc
element_kind part.Process (Port In a b c) e = absurd cc
element_kind part.Initialize (Port DeIn a b c) e = absurd cc
element_kind part.Processing (Port DeIn a b c) e = absurd cc
element_kind part.Change (Port DeIn a b c) e = absurd cc
element_kind part.Reinitialize (Port DeIn a b c) e = absurd cc
element_kind part.Process (Port DeIn a b c) e = absurd cc
element_kind part.Initialize (Loop a b) e = absurd cc
element_kind part.Processing (Loop a b) e = absurd cc
element_kind part.Change (Loop a b) e = absurd cc
element_kind part.Reinitialize (Loop a b) e = absurd cc
element_kind part.Process (Loop a b) e = absurd cc
element_kind body _ e = tt

-- a target isn't a loop variable, so it is the block's own
own_target : (scope : Scope) (loops : List OpenLoop) (name : List ℕ) (t : Thing) → named scope loops name ≡ Some t → IsTarget t → thing_of scope.own name ≡ Some t
unfolding named
own_target scope loops name t is target = go (found_at loops (loop_place loops name)) is
  where
    target_is : Option Thing → Type 0
    target_is (Some x) = IsTarget x
    target_is None = Unit {0}

    go : (o : Option OpenLoop) → first_some (option_map as_thing o) (thing_of scope.own name) ≡ Some t → thing_of scope.own name ≡ Some t
    go None e = e
    go (Some l) e = absurd (subst target_is (sym e) target)

-- samples of different names have different places
apart : (own : Names) (things : List Thing) (n m k j : ℕ) (t u : Thing) → slice_get things n ≡ Some t → slice_get things m ≡ Some u
    → k < samples_of own t → j < samples_of own u → before (samples_of own) things n + k ≡ before (samples_of own) things m + j → n ≡ m
unfolding before
apart own [] n m k j t u at ut below inside same = absurd cc
apart own (x ∷ things) zero zero k j t u at ut below inside same = refl
apart own (x ∷ things) zero (suc m) k j t u at ut below inside same =
    let less : k < samples_of own x = subst (λ (o : Option Thing). k < held o) (sym at) below in
    absurd (omega (arith, same, less))
  where
    held : Option Thing → ℕ
    held None = 0
    held (Some y) = samples_of own y
apart own (x ∷ things) (suc n) zero k j t u at ut below inside same =
    let less : j < samples_of own x = subst (λ (o : Option Thing). j < held o) (sym ut) inside in
    absurd (omega (arith, same, less))
  where
    held : Option Thing → ℕ
    held None = 0
    held (Some y) = samples_of own y
apart own (x ∷ things) (suc n) (suc m) k j t u at ut below inside same =
    ap suc (apart own things n m k j t u at ut below inside (omega (arith, same)))

-- a sample of a port that is written
port_left : (own : Names) (s : State) (n k : ℕ) (word : PortKind) (shape : Option Shape) (rate : Limit) (delay : ℕ) (num : ℤ)
    → slice_get own.things n ≡ Some (Port word shape rate delay) → k < greatest_of own rate → is_written word ≡ true
    → KeepsInputs own s (with_sample (port_number own n) (first_sample own n + k) num s)
port_left own s n k word shape rate delay num at below written = record {
  same = λ m j other form size late is unwritten inside.
      get_or-set_other s.ports.samples (first_sample own n + k) (first_sample own m + j) num (pos 0)
      (λ same. differs other unwritten (ap word_of (sym at ∙ ap (slice_get own.things)
      (apart own own.things n m k j (Port word shape rate delay) (Port other form size late) at is below inside (sym same)) ∙ is)));
}
  where
    word_of : Option Thing → PortKind
    word_of (Some (Port w a b c)) = w
    word_of _ = word

    differs : (other : PortKind) → is_written other ≡ false → word ≡ other → ⊥
    differs other unwritten same = absurd (true_false (sym written ∙ ap is_written same ∙ unwritten))
      where
        true_false : true ≡ false → ⊥
        true_false h = absurd cc

-- one element that is assigned
element_left : (own : Names) (s : State) (n k : ℕ) (t : Thing) (v : Raw) → slice_get own.things n ≡ Some t → HasElement own t k → IsTarget t
    → KeepsInputs own s (with_element own n t k v s)
element_left own s n k (Port In shape rate delay) v at below target = absurd target
element_left own s n k (Port DeIn shape rate delay) v at below target = absurd target
element_left own s n k (Port Out None rate delay) v at below target = same_inputs own s
element_left own s n k (Port DeOut None rate delay) v at below target = same_inputs own s
element_left own s n k (Port Out (Some shape) rate delay) v at below target =
    port_left own s n k Out (Some shape) rate delay (cast_number shape v) at below refl
element_left own s n k (Port DeOut (Some shape) rate delay) v at below target =
    port_left own s n k DeOut (Some shape) rate delay (cast_number shape v) at below refl
element_left own s n k (Var None a) v at below target = same_inputs own s
element_left own s n k (Var (Some shape) a) v at below target = record { same = λ m j word form rate delay is unwritten inside. refl }
element_left own s n k (Array None size a) v at below target = same_inputs own s
element_left own s n k (Array (Some shape) size a) v at below target = record { same = λ m j word form rate delay is unwritten inside. refl }
element_left own s n k _ v at below target = same_inputs own s

name_left : (scope : Scope) (s : State) (name : List ℕ) (k : ℕ) (v : Raw) (t : Thing) → thing_of scope.own name ≡ Some t → HasElement scope.own t k → IsTarget t
    → KeepsInputs scope.own s (assigned scope.own name (pos k) v s)
name_left scope s name k v t is below target =
    let at = found scope.own.things (place_of scope.own name) t is in
    subst (λ (o : Option ℕ). KeepsInputs scope.own s (assigned_at scope.own o (thing_of scope.own name) (pos k) v s)) (sym at.1)
    (subst (λ (o : Option Thing). KeepsInputs scope.own s (assigned_at scope.own (Some at.0) o (pos k) v s)) (sym is)
    (element_left scope.own s at.0 k t v at.2 below target))

assign_left : (scope : Scope) (loops : List OpenLoop) (turns : List ℕ) (s : State) → IsSound scope → LoopsFit scope.own loops turns
    → (body : Part) (line : ℕ) (name : List ℕ) (o : Option Index) (v : Raw) → target_faults scope loops body line (named scope loops name) o ≡ []
    → KeepsInputs scope.own s (assigned scope.own name (target_index loops turns o) v s)
assign_left scope loops turns s sound lf body line name None v none =
    let kind = of_kind (place.Target body) (named scope loops name) line none in
    let target = target_kind body kind.thing kind.allowed in
    let is = own_target scope loops name kind.thing kind.is target in
    name_left scope s name 0 v kind.thing is (first_element scope sound kind.thing (thing_sound scope sound name kind.thing is)) target
assign_left scope loops turns s sound lf body line name (Some i) v none =
    let x = target_element scope loops turns sound lf body line name i none in
    let kind = of_kind (place.TargetElement body) (named scope loops name) line (none_first _ _ none) in
    let target : IsTarget x.thing = subst IsTarget (same_thing kind.thing x.thing (sym kind.is ∙ x.named_is)) (element_kind body kind.thing kind.allowed) in
    subst (λ (z : ℤ). KeepsInputs scope.own s (assigned scope.own name z v s)) (sym x.value)
    (name_left scope s name x.place v x.thing x.is (has_element scope x.thing x.size x.place x.sized x.below) target)
  where
    same_thing : (t u : Thing) → Some t ≡ Some u → t ≡ u
    same_thing t u e = ap held e
      where
        held : Option Thing → Thing
        held None = t
        held (Some y) = y

-- what changes no sample
whole_left : (own : Names) (s : State) (n : ℕ) (o : Option ℕ) → KeepsInputs own s (with_whole n o s)
whole_left own s n None = record { same = λ m j word form rate delay is unwritten inside. refl }
whole_left own s n (Some v) = record { same = λ m j word form rate delay is unwritten inside. refl }

set_left : (own : Names) (s : State) (v : Raw) (o : Option ℕ) (x : Option Thing) → KeepsInputs own s (rate_set own o x v s)
set_left own s v None x = same_inputs own s
set_left own s v (Some n) None = same_inputs own s
set_left own s v (Some n) (Some (RateVar least greatest start)) = whole_left own s (rate_number own n) (whole_within least greatest v.frac v.num)
set_left own s v (Some n) (Some _) = same_inputs own s

step_left : (own : Names) (s : State) (port : Option (List ℕ)) (step : ℕ) → KeepsInputs own s (step_assigned own port step s)
step_left own s None step = record { same = λ m j word form rate delay is unwritten inside. refl }
step_left own s (Some port) step = go (place_of own port)
  where
    go : (o : Option ℕ) → KeepsInputs own s (stepped_at own o step s)
    go None = same_inputs own s
    go (Some n) = record { same = λ m j word form rate delay is unwritten inside. refl }

notice_left : (own : Names) (s : State) (o : Option ℕ) (time : ℕ) → KeepsInputs own s (noticed_at own o time s)
notice_left own s None time = same_inputs own s
notice_left own s (Some n) time = record { same = λ m j word form rate delay is unwritten inside. refl }

-- a state that fits, with the samples of another
record Leaves (own : Names) (old new : State) : Type 0 where
  fits : StateFits own new
  kept : KeepsInputs own old new

turns_left : (own : Names) (turn : ℕ → State → State) (from count : ℕ)
    → ((i : ℕ) (s : State) → from ≤ i → i < from + count → StateFits own s → Leaves own s (turn i s))
    → (s : State) → StateFits own s → Leaves own s (repeated turn from count s)
turns_left own turn from zero one s fits = record { fits = fits; kept = same_inputs own s }
turns_left own turn from (suc count) one s fits =
    let rest = turns_left own turn from count (λ i t low high. one i t low (omega (arith, high))) s fits in
    let last = one (from + count) (repeated turn from count s) (omega arith) (omega arith) rest.fits in
    record { fits = last.fits; kept = then_inputs own s (repeated turn from count s) (turn (from + count) (repeated turn from count s)) rest.kept last.kept }

one_fits : (scope : Scope) (loops : List OpenLoop) (body : Part) (x : PureStmt) (turns : List ℕ) (s : State) → IsSound scope → stmt_faults scope body loops x ≡ []
    → StateFits scope.own s → LoopsFit scope.own loops turns → StateFits scope.own (after scope loops turns x s)
one_fits scope loops body x turns s sound none fits lf =
    keeps scope loops body (More x Done) turns s sound (ap (λ l. l ++ []) none) fits lf

mutual
  stmt_left : (scope : Scope) (loops : List OpenLoop) (body : Part) (x : PureStmt) (turns : List ℕ) (s : State) → IsSound scope → stmt_faults scope body loops x ≡ []
      → StateFits scope.own s → LoopsFit scope.own loops turns → KeepsInputs scope.own s (after scope loops turns x s)
  stmt_left scope loops body (SAssign line name i e) turns s sound none fits lf =
      assign_left scope loops turns s sound lf body line name i (value scope loops turns s e) (none_first _ _ none)
  stmt_left scope loops body (SIf line test a b) turns s sound none fits lf =
      let rest = none_second (expr_faults scope loops body line test) _ none in
      go (holds (value scope loops turns s test))
      (stmts_left scope loops body a turns s sound (none_first _ _ rest) fits lf)
      (stmts_left scope loops body b turns s sound (none_second (stmts_faults scope body loops a) _ rest) fits lf)
    where
      go : (t : Bool) → KeepsInputs scope.own s (after_all scope loops turns a s) → KeepsInputs scope.own s (after_all scope loops turns b s)
          → KeepsInputs scope.own s (if t then after_all scope loops turns a s else after_all scope loops turns b s)
      go true p q = p
      go false p q = q
  stmt_left scope loops body (SFor line name from end inner) turns s sound none fits lf =
      let bound = is_limit scope s sound fits loops line end (none_first _ _ none) in
      let rest = none_second (limit_faults scope loops line end) _ none in
      let whole = turns_left scope.own (λ i t. after_all scope (loops ++ opened name from end ∷ []) (turns ++ i ∷ []) inner t) from (limit_value scope.own s end - from)
      (λ i t low high t_fits.
      let more = loops_more scope.own loops turns name from i end lf low (omega (arith, low, high, bound.high)) bound.most in
      record {
        fits = keeps scope (loops ++ opened name from end ∷ []) body inner (turns ++ i ∷ []) t sound (none_second _ _ rest) t_fits more;
        kept = stmts_left scope (loops ++ opened name from end ∷ []) body inner (turns ++ i ∷ []) t sound (none_second _ _ rest) t_fits more;
      }) s fits in
      whole.kept
  stmt_left scope loops body (SNotify line event time) turns s sound none fits lf = notice_left scope.own s (place_of scope.own event) time
  stmt_left scope loops body (SSetRate line name e) turns s sound none fits lf =
      set_left scope.own s (value scope loops turns s e) (place_of scope.own name) (thing_of scope.own name)
  stmt_left scope loops body (SSetStep line port step) turns s sound none fits lf = step_left scope.own s port step
  stmt_left scope loops body (SAccept line) turns s sound none fits lf = record { same = λ m j word form rate delay is unwritten inside. refl }
  stmt_left scope loops body (SReject line) turns s sound none fits lf = record { same = λ m j word form rate delay is unwritten inside. refl }

  pub stmts_left : NeverWritesInputs
  stmts_left scope loops body Done turns s sound none fits lf = same_inputs scope.own s
  stmts_left scope loops body (More x xs) turns s sound none fits lf =
      let first = none_first (stmt_faults scope body loops x) _ none in
      then_inputs scope.own s (after scope loops turns x s) (after_all scope loops turns xs (after scope loops turns x s))
      (stmt_left scope loops body x turns s sound first fits lf)
      (stmts_left scope loops body xs turns (after scope loops turns x s) sound (none_second (stmt_faults scope body loops x) _ none)
      (one_fits scope loops body x turns s sound first fits lf) lf)

-- the port that a place of a block's ports stands for
record IsPortOf (own : Names) (things : List Thing) (first : ℕ) (place : PortPlace) : Type 0 where
  n : ℕ
  shape : Option Shape
  rate : Limit
  delay : ℕ
  at : slice_get things n ≡ Some (Port place.word shape rate delay)
  count : place.count ≡ greatest_of own rate
  start : place.first ≡ first + before (samples_of own) things n

port_thing : (own : Names) (first : ℕ) (things : List Thing) (j : ℕ) (place : PortPlace) → slice_get (places_from own first things) j ≡ Some place
    → IsPortOf own things first place
unfolding places_from before
port_thing own first [] j place at = absurd cc
port_thing own first (Port word shape rate delay ∷ things) zero place at =
    let here : PortPlace = record { word = word; shape = shape; first = first; count = greatest_of own rate } in
    let same : here ≡ place = ap held at in
    subst (λ (x : PortPlace). IsPortOf own (Port word shape rate delay ∷ things) first x) same
    (record { n = 0; shape = shape; rate = rate; delay = delay; at = refl; count = refl; start = omega arith })
  where
    held : Option PortPlace → PortPlace
    held None = record { word = word; shape = shape; first = first; count = greatest_of own rate }
    held (Some x) = x
port_thing own first (Port word shape rate delay ∷ things) (suc j) place at =
    let rest = port_thing own (first + greatest_of own rate) things j place at in
    record { n = suc rest.n; shape = rest.shape; rate = rest.rate; delay = rest.delay; at = rest.at; count = rest.count; start = rest.start ∙ omega arith }
port_thing own first (_ ∷ things) j place at =
    let rest = port_thing own first things j place at in
    record { n = suc rest.n; shape = rest.shape; rate = rest.rate; delay = rest.delay; at = rest.at; count = rest.count; start = rest.start ∙ omega arith }

-- what holds of the names of a block holds of its ports
pub ports_left : (own : Names) (old new : State) (spans : List PortSpan) → map place_of_span spans ≡ port_places own → KeepsInputs own old new
    → KeepsRead (record { spans = spans; state = old.ports }) (record { spans = spans; state = new.ports })
ports_left own old new spans are kept = record {
  same = λ n k p at unwritten below.
      let x = port_thing own 0 own.things n (place_of_span p) (sym (ap (λ (l : List PortPlace). slice_get l n) are) ∙ map_at place_of_span spans n p at) in
      let start : p.first ≡ first_sample own x.n = x.start ∙ omega arith in
      subst (λ i. cell_at new.ports.samples (i + k) ≡ cell_at old.ports.samples (i + k)) (sym start)
      (kept.same x.n k p.word x.shape x.rate x.delay x.at unwritten (subst (λ i. k < i) x.count below));
}
