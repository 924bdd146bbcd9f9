-- The code of statements.
use Rattle.std.proofs.Common.{◌≡◌, ◌∙◌, ℕ, zero, suc, ◌+◌, ◌-◌, ◌<◌, ◌≤◌, true, false, List, [], ◌∷◌, ◌++◌, Option, Some, None, length, max, ℤ, pos, negsuc, Box, Global, refl, sym, ap, subst, ⊎_elim, arith}
use Rattle.std.proofs.lemmas.Bool.{cases_lt}
use Rattle.std.proofs.lemmas.Bool.Decides.{nat_tests}
use Rattle.std.proofs.lemmas.List.{length-append}
use Rattle.std.proofs.lemmas.Option.{slice_get_within}
use Rattle.std.specs.Option.{option_map}
use Rattle.std.specs.Prelude.{not, min, nat_lt, slice_get}
use Rattle.tdf_base.specs.declared.codes.Code.TheVariants as code
use Rattle.tdf_expr_compiler.proofs.Assigned.{before_total}
use Rattle.tdf_expr_compiler.proofs.Operands.{Operand, operand}
use Rattle.tdf_expr_compiler.proofs.Operators.{castable, same_holds}
use Rattle.tdf_expr_compiler.specs.Layouts.{IsNumbered}
use Rattle.tdf_expr_compiler.specs.Promises.{Performs}
use Rattle.tdf_expr_compiler.specs.declared.numbers.Numbers.{Numbers}
use Rattle.tdf_expr_compiler.specs.machine.Acting.{Acts, ActsAll, AreFine, HasElement, IsEnd, IsFine, Sets, SetsRate}
use Rattle.tdf_expr_compiler.specs.machine.Computed.{Computes, IsAt}
use Rattle.tdf_expr_compiler.specs.machine.Found.{IsFound, IsShaped}
use Rattle.tdf_base.proofs.Api.{if_none, none_first, none_second}
use Rattle.tdf_base.specs.First.{fault_if}
use Rattle.tdf_fixed.specs.Cast.{IsLegal}
use Rattle.tdf_fixed.specs.declared.raw.Raw.{Raw}
use Rattle.tdf_expr_machine.specs.Acts.{acted, with_rate_of, IsSafeAct, rate_within as rate_in}
use Rattle.tdf_expr_machine.specs.Nodes.{node_value, IsCastable}
use Rattle.tdf_expr_machine.specs.Turns.{turned, AreTurnsSafe, repeated as repeated_acts}
use Rattle.tdf_expr_machine.specs.declared.acts.Act.{Act}
use Rattle.tdf_expr_machine.specs.declared.acts.Act.TheVariants as act
use Rattle.tdf_expr_machine.specs.declared.acts.Turns.{Turns}
use Rattle.tdf_expr_machine.specs.declared.nodes.Node.{Node}
use Rattle.tdf_expr_semantics.proofs.Api.{first_element, has_element, thing_sound, target_element, of_kind, keeps, is_limit, least_greatest, limits_placed, loops_more, HasElement as Holds}
use Rattle.tdf_expr_semantics.specs.Bodies.{after_all, limit_value, repeated, assigned, assigned_at, target_index, with_element, noticed_at, stepped_at, rate_set, whole_within, with_whole}
use Rattle.tdf_expr_semantics.specs.Fits.{StateFits, LoopsFit}
use Rattle.tdf_expr_semantics.specs.Places.{ports_of, events_of, port_number, rate_number, rate_limits}
use Rattle.tdf_expr_semantics.specs.Value.{value}
use Rattle.tdf_expr_symbols.specs.Faults.{expr_faults, stmt_faults, stmts_faults, limit_faults, is_wide_cast, shape_in, target_faults, notifies, changes, opened}
use Rattle.tdf_expr_symbols.specs.Index.{kind_faults}
use Rattle.tdf_expr_symbols.specs.Kinds.{is_allowed}
use Rattle.tdf_expr_symbols.specs.Names.{Names, Thing, Const, Var, Array, Port, RateVar, Event, Signal, DeSignal, Loop, TypeName, found_at, kind_of, place_of, shape_of, thing_of}
use Rattle.tdf_expr_symbols.specs.Scope.{Scope, OpenLoop, named, as_thing, first_some, least_of, loop_place}
use Rattle.tdf_expr_symbols.specs.Sound.{HasFormat, IsSound, IsThingSound}
use Rattle.tdf_expr_symbols.specs.Width.{width, fraction_bits}
use Rattle.tdf_expr_symbols.specs.declared.kinds.Part.{Part}
use Rattle.tdf_expr_symbols.specs.declared.kinds.Part.TheVariants as part
use Rattle.tdf_expr_symbols.specs.declared.kinds.Place.TheVariants as place
use Rattle.tdf_expr_state.specs.State.{State}
use Rattle.tdf_lang_tree.specs.Pure.{PureExpr, PureStmts, SAssign, SIf, SFor, SNotify, SSetRate, SSetStep, SAccept, SReject}
use Rattle.tdf_lang_tree.specs.declared.blocks.PortKind.TheVariants.{In, Out, DeIn, DeOut}
use Rattle.tdf_lang_tree.specs.declared.expr.Index.{Index}
use Rattle.tdf_lang_tree.specs.Kept.{KeepsStmt}
use Rattle.tdf_lang_tree.specs.declared.shapes.Shape.{Shape}
use Rattle.tdf_lang_tree.specs.declared.stmt.Limit.{Limit}

legal_of : (o : Option Shape) → HasFormat o → IsShaped o
legal_of None has shape e = absurd has
legal_of (Some x) has shape e = subst (λ (y : Shape). IsLegal y.wl y.iwl) (ap held e) has
  where
    held : Option Shape → Shape
    held None = x
    held (Some y) = y

-- what is sound has a legal format
pub shaped_of : (own : Names) (t : Thing) → IsThingSound own t → IsShaped (shape_of t)
shaped_of own (Const o value) sound = legal_of o sound.0
shaped_of own (Var o value) sound = legal_of o sound.0
shaped_of own (Array o size values) sound = legal_of o sound.0
shaped_of own (Port word o rate delay) sound = legal_of o sound.0
shaped_of own (Signal o) sound = legal_of o sound
shaped_of own (DeSignal o start) sound = legal_of o sound.0
shaped_of own (TypeName x) sound = legal_of (Some x) sound
shaped_of own _ sound = λ shape e. absurd cc

-- what a name stands for that is no loop variable is the block's own
abbrev IsOwn : Thing → Type 0
IsOwn (Loop from end) = ⊥
IsOwn _ = Unit {0}

own_thing : (scope : Scope) (loops : List OpenLoop) (name : List ℕ) (t : Thing) → IsOwn t → named scope loops name ≡ Some t → thing_of scope.own name ≡ Some t
unfolding named
own_thing scope loops name t own is = go (found_at loops (loop_place loops name)) is
  where
    owned : Option Thing → Type 0
    owned None = Unit {0}
    owned (Some x) = IsOwn x

    go : (o : Option OpenLoop) → first_some (option_map as_thing o) (thing_of scope.own name) ≡ Some t → thing_of scope.own name ≡ Some t
    go None e = e
    go (Some l) e = absurd (subst owned (sym e) own)

at_state : (scope : Scope) (loops : List OpenLoop) (turns : List ℕ) (s : State) (depth : ℕ) → IsSound scope → depth + length loops ≤ 8 → StateFits scope.own s → LoopsFit scope.own loops turns
    → IsAt scope loops turns s
at_state scope loops turns s depth sound room fits running = record { sound = sound; few = omega (arith, room); state = fits; running = running }

-- a bare name that is assigned is no loop variable
bare_target : (body : Part) (t : Thing) → is_allowed (place.Target body) (Some (kind_of t)) ≡ true → IsOwn t
unfolding is_allowed
bare_target part.Initialize (Loop a b) e = absurd cc
bare_target part.Processing (Loop a b) e = absurd cc
bare_target part.Change (Loop a b) e = absurd cc
bare_target part.Reinitialize (Loop a b) e = absurd cc
bare_target part.Process (Loop a b) e = absurd cc
bare_target body _ e = tt

same_thing : (t u : Thing) (o : Option Thing) → o ≡ Some t → o ≡ Some u → u ≡ t
same_thing t u o a b = ap held (sym b ∙ a)
  where
    held : Option Thing → Thing
    held None = t
    held (Some x) = x

element_here : (own : Names) (t : Thing) (k : ℕ) → Holds own t k → HasElement own t k
element_here own (Var a b) k h = h
element_here own (Array a b c) k h = h
element_here own (Port a b c d) k h = h
element_here own _ k h = tt

-- what an assignment without a fault assigns
record IsAssigned (scope : Scope) (loops : List OpenLoop) (turns : List ℕ) (name : List ℕ) (index : Option Index) (t : Thing) : Type 0 where
  named_is : named scope loops name ≡ Some t
  k : ℕ
  k_is : target_index loops turns index ≡ pos k
  has : HasElement scope.own t k

is_assigned : (scope : Scope) (loops : List OpenLoop) (turns : List ℕ) (body : Part) (line : ℕ) (name : List ℕ) (index : Option Index) (t : Thing) → IsSound scope
    → LoopsFit scope.own loops turns → thing_of scope.own name ≡ Some t → target_faults scope loops body line (named scope loops name) index ≡ []
    → IsAssigned scope loops turns name index t
is_assigned scope loops turns body line name None t sound running is none =
    let kind = of_kind (place.Target body) (named scope loops name) line none in
    let own = own_thing scope loops name kind.thing (bare_target body kind.thing kind.allowed) kind.is in
    let same = same_thing t kind.thing (thing_of scope.own name) is own in
    record {
      named_is = kind.is ∙ ap (λ (x : Thing). Some x) same;
      k = 0;
      k_is = refl;
      has = element_here scope.own t 0 (first_element scope sound t (thing_sound scope sound name t is));
    }
is_assigned scope loops turns body line name (Some i) t sound running is none =
    let x = target_element scope loops turns sound running body line name i none in
    let same = same_thing t x.thing (thing_of scope.own name) is x.is in
    record {
      named_is = x.named_is ∙ ap (λ (y : Thing). Some y) same;
      k = x.place;
      k_is = x.value;
      has = subst (λ y. HasElement scope.own y x.place) same (element_here scope.own x.thing x.place (has_element scope x.thing x.size x.place x.sized x.below));
    }

module _ (scope : Scope) (loops : List OpenLoop) where
  cast_able : (e : PureExpr) (node : Node) (part : ℕ) (turns : List ℕ) (s : State) (shape : Shape) → Operand scope loops e node part turns s
      → is_wide_cast (Some shape) (width scope loops e) ≡ false → IsCastable (node_value node s turns) part (fraction_bits shape)
  cast_able e node part turns s shape given wide =
      let w = width scope loops e in
      let test : nat_lt 120 (w.whole + max w.part (fraction_bits shape)) ≡ false = wide in
      let few : w.whole + max w.part (fraction_bits shape) ≤ 120 = grind (arith, nat_tests) in
      rw given.num (castable scope loops e node part (value scope loops turns s e).num w.whole part (fraction_bits shape) (rw given.part_is few) given.small)

  pub acts_assign : (line : ℕ) (name : List ℕ) (index : Option Index) (e : PureExpr) (t : Thing) (p : Numbers) (node : Node) (part : ℕ) (made : Act)
      → (f : IsFound scope.own name t p) → Computes scope loops e node part → Sets scope loops f.place t index node part made
      → Acts scope loops (SAssign line name index e) made
  acts_assign line name index e t p node part made f computes sets = record {
    performs = λ fine. record {
      at = λ turns s fits running.
          let at = at_state scope loops turns s fine.depth fine.sound fine.room fits running in
          let target = none_first (target_faults scope loops fine.body line (named scope loops name) index) _ fine.none in
          let rest = none_second (target_faults scope loops fine.body line (named scope loops name) index) _ fine.none in
          let none = none_first (expr_faults scope loops fine.body line e) _ rest in
          let wide = if_none (is_wide_cast (shape_in (named scope loops name)) (width scope loops e)) code.WideCast line (none_second (expr_faults scope loops fine.body line e) _ rest) in
          let x = is_assigned scope loops turns fine.body line name index t fine.sound running f.is target in
          let given = operand scope loops fine.body line e node part turns s computes none at in
          let able : (shape : Shape) → shape_in (Some t) ≡ Some shape → IsCastable (node_value node s turns) part (fraction_bits shape) =
          λ shape is. cast_able e node part turns s shape given
          (ap (λ o. is_wide_cast o (width scope loops e)) (sym is ∙ ap shape_in (sym x.named_is)) ∙ wide) in
          let here : slice_get scope.own.things f.place ≡ Some t = ap (found_at scope.own.things) (sym f.at) ∙ f.is in
          let done = sets.at turns s at here x.k x.k_is x.has given.safe able in
          let v = value scope loops turns s e in
          record {
            safe = done.safe;
            same = done.same ∙ ap (λ (r : Raw). with_element scope.own f.place t x.k r s) (raw_is given.num (sym given.frac))
                ∙ sym (ap (λ z. assigned scope.own name z v s) x.k_is ∙ ap (λ o. assigned_at scope.own o (thing_of scope.own name) (pos x.k) v s) f.at
                ∙ ap (λ o. assigned_at scope.own (Some f.place) o (pos x.k) v s) f.is);
          };
    };
  }
    where
      raw_is : {num : ℤ} {frac : ℕ} {r : Raw} → num ≡ r.num → frac ≡ r.frac → record { num = num; frac = frac } ≡ r
      raw_is a b = rw (a, b) refl

  pub acts_no_assign : (line : ℕ) (name : List ℕ) (index : Option Index) (e : PureExpr) → thing_of scope.own name ≡ None → Acts scope loops (SAssign line name index e) act.Skip
  acts_no_assign line name index e none = record {
    performs = λ fine. record {
      at = λ turns s fits running. record {
        safe = tt;
        same = sym (ap (λ o. assigned_at scope.own (place_of scope.own name) o (target_index loops turns index) (value scope loops turns s e) s) none
            ∙ go (place_of scope.own name) (target_index loops turns index) (value scope loops turns s e) s);
      };
    };
  }
    where
      go : (o : Option ℕ) (z : ℤ) (v : Raw) (s : State) → assigned_at scope.own o None z v s ≡ s
      go None z v s = refl
      go (Some n) z v s = refl

-- the kinds of names that statements name
event_kind : (t : Thing) → is_allowed place.Notified (Some (kind_of t)) ≡ true → t ≡ Event
unfolding is_allowed
event_kind Event e = refl
event_kind (Port In a b c) e = absurd cc
event_kind (Port Out a b c) e = absurd cc
event_kind (Port DeIn a b c) e = absurd cc
event_kind (Port DeOut a b c) e = absurd cc
event_kind _ e = absurd cc

abbrev IsPort : Thing → Type 0
IsPort (Port word shape rate delay) = Unit {0}
IsPort _ = ⊥

port_kind : (t : Thing) → is_allowed place.Port (Some (kind_of t)) ≡ true → IsPort t
unfolding is_allowed
port_kind (Port word a b c) e = tt
port_kind _ e = absurd cc

port_own : (t : Thing) → IsPort t → IsOwn t
port_own (Port a b c d) h = tt
port_own _ h = absurd h

port_counts : (t : Thing) → IsPort t → ports_of t ≡ 1
port_counts (Port a b c d) h = refl
port_counts _ h = absurd h

module _ (scope : Scope) (loops : List OpenLoop) where
  notified_is : (line : ℕ) (event : List ℕ) → kind_faults place.Notified (named scope loops event) line ≡ [] → thing_of scope.own event ≡ Some Event
  notified_is line event none =
      let kind = of_kind place.Notified (named scope loops event) line none in
      own_thing scope loops event Event tt (kind.is ∙ ap (λ (t : Thing). Some t) (event_kind kind.thing kind.allowed))

  pub acts_notify : (line : ℕ) (event : List ℕ) (time : ℕ) (t : Thing) (p : Numbers) → (f : IsFound scope.own event t p) → Acts scope loops (SNotify line event time) (act.Notify p.event time)
  acts_notify line event time t p f = record {
    performs = λ fine. record {
      at = λ turns s fits running.
          let none = none_second (fault_if (not (notifies fine.body)) code.Kind line) _ fine.none in
          let is = notified_is line event none in
          let here : slice_get scope.own.things f.place ≡ Some Event = ap (found_at scope.own.things) (sym f.at) ∙ is in
          let count = before_total events_of scope.own.things f.place Event here in
          record {
            safe = rw f.numbered.event (omega (arith, count, fits.ports.notified));
            same = rw f.numbered.event (sym (ap (λ o. noticed_at scope.own o time s) f.at));
          };
    };
  }

  pub acts_no_notify : (line : ℕ) (event : List ℕ) (time : ℕ) (made : Act) → thing_of scope.own event ≡ None → Acts scope loops (SNotify line event time) made
  acts_no_notify line event time made missing = record { performs = λ fine. absurd (never (sym missing ∙ notified_is line event (none_second (fault_if (not (notifies fine.body)) code.Kind line) _ fine.none))) }
    where
      never : None ≡ Some Event → ⊥
      never e = absurd cc

  pub acts_rate : (line : ℕ) (name : List ℕ) (e : PureExpr) (t : Thing) (p : Numbers) (node : Node) (part : ℕ) (made : Act) → (f : IsFound scope.own name t p) → Computes scope loops e node part
      → SetsRate scope loops f.place t node part made → Acts scope loops (SSetRate line name e) made
  acts_rate line name e t p node part made f computes sets = record {
    performs = λ fine. record {
      at = λ turns s fits running.
          let at = at_state scope loops turns s fine.depth fine.sound fine.room fits running in
          let none = none_second (kind_faults place.Rate (named scope loops name) line) _ (none_second (fault_if (not (changes scope fine.body)) code.Kind line) _ fine.none) in
          let given = operand scope loops fine.body line e node part turns s computes none at in
          let here : slice_get scope.own.things f.place ≡ Some t = ap (found_at scope.own.things) (sym f.at) ∙ f.is in
          let done = sets.at turns s at here given.safe (omega (arith, given.few)) in
          let v = value scope loops turns s e in
          record {
            safe = done.safe;
            same = done.same ∙ ap (λ (r : Raw). rate_set scope.own (Some f.place) (Some t) r s) (raw_is given.num (sym given.frac))
                ∙ sym (ap (λ o. rate_set scope.own o (thing_of scope.own name) v s) f.at ∙ ap (λ o. rate_set scope.own (Some f.place) o v s) f.is);
          };
    };
  }
    where
      raw_is : {num : ℤ} {frac : ℕ} {r : Raw} → num ≡ r.num → frac ≡ r.frac → record { num = num; frac = frac } ≡ r
      raw_is a b = rw (a, b) refl

  pub acts_no_rate : (line : ℕ) (name : List ℕ) (e : PureExpr) → thing_of scope.own name ≡ None → Acts scope loops (SSetRate line name e) act.Skip
  acts_no_rate line name e none = record {
    performs = λ fine. record {
      at = λ turns s fits running. record {
        safe = tt;
        same = sym (ap (λ o. rate_set scope.own (place_of scope.own name) o (value scope loops turns s e) s) none ∙ go (place_of scope.own name) (value scope loops turns s e) s);
      };
    };
  }
    where
      go : (o : Option ℕ) (v : Raw) (s : State) → rate_set scope.own o None v s ≡ s
      go None v s = refl
      go (Some n) v s = refl

  pub acts_step_module : (line step : ℕ) → Acts scope loops (SSetStep line None step) (act.SetStep 0 step)
  acts_step_module line step = record {
    performs = λ fine. record { at = λ turns s fits running. record { safe = omega (arith, fits.ports.steps); same = refl } };
  }

  stepped_is : (line : ℕ) (port : List ℕ) → kind_faults place.Port (named scope loops port) line ≡ [] → (t : Thing) × (thing_of scope.own port ≡ Some t) × IsPort t
  stepped_is line port none =
      let kind = of_kind place.Port (named scope loops port) line none in
      let is = port_kind kind.thing kind.allowed in
      (kind.thing, own_thing scope loops port kind.thing (port_own kind.thing is) kind.is, is)

  pub acts_step : (line step : ℕ) (port : List ℕ) (t : Thing) (p : Numbers) → (f : IsFound scope.own port t p) → Acts scope loops (SSetStep line (Some port) step) (act.SetStep (p.port + 1) step)
  acts_step line step port t p f = record {
    performs = λ fine. record {
      at = λ turns s fits running.
          let none = none_first (kind_faults place.Port (named scope loops port) line) _ (none_second (fault_if (not (changes scope fine.body)) code.Kind line) _ fine.none) in
          let x = stepped_is line port none in
          let here : slice_get scope.own.things f.place ≡ Some x.0 = ap (found_at scope.own.things) (sym f.at) ∙ x.1 in
          let count = before_total ports_of scope.own.things f.place x.0 here in
          let one : ports_of x.0 ≡ 1 = port_counts x.0 x.2 in
          let number : p.port + 1 ≡ 1 + port_number scope.own f.place = omega (arith, f.numbered.port) in
          record {
            safe = omega (arith, number, count, one, fits.ports.steps);
            same = rw number (sym (ap (λ o. stepped_at scope.own o step s) f.at));
          };
    };
  }

  pub acts_no_step : (line step : ℕ) (port : List ℕ) (made : Act) → thing_of scope.own port ≡ None → Acts scope loops (SSetStep line (Some port) step) made
  acts_no_step line step port made missing = record { performs = λ fine. absurd (go fine) }
    where
      never : (t : Thing) → None ≡ Some t → ⊥
      never t e = absurd cc

      go : IsFine scope loops (SSetStep line (Some port) step) → ⊥
      go fine =
          let x = stepped_is line port (none_first (kind_faults place.Port (named scope loops port) line) _ (none_second (fault_if (not (changes scope fine.body)) code.Kind line) _ fine.none)) in
          never x.0 (sym missing ∙ x.1)

  pub acts_accept : (line : ℕ) → Acts scope loops (SAccept line) (act.Answer true)
  acts_accept line = record { performs = λ fine. record { at = λ turns s fits running. record { safe = tt; same = refl } } }

  pub acts_reject : (line : ℕ) → Acts scope loops (SReject line) (act.Answer false)
  acts_reject line = record { performs = λ fine. record { at = λ turns s fits running. record { safe = tt; same = refl } } }

-- `if`
pub acts_if : (scope : Scope) (loops : List OpenLoop) (line : ℕ) (e : PureExpr) (ss ts : PureStmts) (p q : Box (Unit {0}) Global) (test : Node) (part : ℕ) (first second : Act)
    → Computes scope loops e test part → ActsAll scope loops ss first → ActsAll scope loops ts second → Acts scope loops (SIf line e ss ts) (act.If' test p first q second)
acts_if scope loops line e ss ts p q test part first second tests one two = record {
  performs = λ fine. by_depth fine.body fine.depth fine.none fine.nested fine.room fine.sound;
}
  where
    by_depth : (body : Part) (depth : ℕ) → stmt_faults scope body loops (SIf line e ss ts) ≡ [] → KeepsStmt depth (SIf line e ss ts) → depth + length loops ≤ 8 → IsSound scope
        → Performs scope loops (SIf line e ss ts) (act.If' test p first q second)
    by_depth body zero none nested room sound = absurd nested
    by_depth body (suc d) none nested room sound =
        let none_test = none_first (expr_faults scope loops body line e) _ none in
        let rest = none_second (expr_faults scope loops body line e) _ none in
        let deep : d + length loops ≤ 8 = omega (arith, room) in
        let first_fine : AreFine scope loops ss = record { body = body; none = none_first (stmts_faults scope body loops ss) _ rest; depth = d; nested = nested.1; room = deep; sound = sound } in
        let second_fine : AreFine scope loops ts = record { body = body; none = none_second (stmts_faults scope body loops ss) _ rest; depth = d; nested = nested.2; room = deep; sound = sound } in
        record {
          at = λ turns s fits running.
              let at = at_state scope loops turns s d sound deep fits running in
              let given = tests.gives body line turns s none_test at in
              let yes_done = (one.performs first_fine).at turns s fits running in
              let no_done = (two.performs second_fine).at turns s fits running in
              record {
                safe = (given.safe, (λ _. yes_done.safe), (λ _. no_done.safe));
                same = rw (given.num, same_holds (value scope loops turns s e).num, yes_done.same, no_done.same) refl;
              };
        }

-- the turns of a loop
module _ (own : Names) (turn run : ℕ → State → State) (IsGood : ℕ → State → Type 0) (from end : ℕ)
    (one : (i : ℕ) (s : State) → from ≤ i → i < end → StateFits own s → IsGood i s × (run i s ≡ turn i s) × StateFits own (turn i s)) where
  turns_same : (n : ℕ) (s : State) → from + n ≤ end → StateFits own s → (repeated_acts run from n s ≡ repeated turn from n s) × StateFits own (repeated turn from n s)
  turns_same zero s inside fits = (refl, fits)
  turns_same (suc n) s inside fits =
      let before = turns_same n s (omega (arith, inside)) fits in
      let now = one (from + n) (repeated turn from n s) (omega arith) (omega (arith, inside)) before.1 in
      (ap (λ c. run (from + n) c) before.0 ∙ now.1, now.2)

  turns_safe : (s : State) → StateFits own s → AreTurnsSafe run IsGood from end s
  unfolding AreTurnsSafe turned
  turns_safe s fits i low high =
      let before = turns_same (i - from) s (omega (arith, low, high)) fits in
      subst (λ c. IsGood i c) (sym before.0) (one i (repeated turn from (i - from) s) low high before.1).0

  turns_all : (s : State) → from ≤ end → StateFits own s → turned run from end s ≡ repeated turn from (end - from) s
  unfolding turned
  turns_all s some fits = (turns_same (end - from) s (omega (arith, some)) fits).0

  turns_none : (s : State) → end ≤ from → turned run from end s ≡ repeated turn from (end - from) s
  unfolding turned
  turns_none s past = let none : end - from ≡ 0 = omega (arith, past) in rw none refl

  same_turns : (s : State) → StateFits own s → turned run from end s ≡ repeated turn from (end - from) s
  same_turns s fits = ⊎_elim (λ (low : from < end). turns_all s (omega (arith, low)) fits) (λ (past : end ≤ from). turns_none s past) (cases_lt from end)

pub acts_for : (scope : Scope) (loops : List OpenLoop) (line : ℕ) (name : List ℕ) (from : ℕ) (limit : Limit) (ss : PureStmts) (p : Box (Unit {0}) Global) (end : Turns) (made : Act)
    → IsEnd scope loops limit end → ActsAll scope (loops ++ opened name from limit ∷ []) ss made
    → Acts scope loops (SFor line name from limit ss) (act.For' (min from 8192) end p made)
acts_for scope loops line name from limit ss p end made ends all = record {
  performs = λ fine. by_depth fine.body fine.depth fine.none fine.nested fine.room fine.sound;
}
  where
    inner : List OpenLoop
    inner = loops ++ opened name from limit ∷ []

    by_depth : (body : Part) (depth : ℕ) → stmt_faults scope body loops (SFor line name from limit ss) ≡ [] → KeepsStmt depth (SFor line name from limit ss) → depth + length loops ≤ 8 → IsSound scope
        → Performs scope loops (SFor line name from limit ss) (act.For' (min from 8192) end p made)
    by_depth body zero none nested room sound = absurd nested
    by_depth body (suc d) none nested room sound =
        let limited = none_first (limit_faults scope loops line limit) _ none in
        let rest = none_second (limit_faults scope loops line limit) _ none in
        let late = if_none (not (nat_lt from (least_of scope.own limit))) code.Index line (none_first (fault_if (not (nat_lt from (least_of scope.own limit))) code.Index line) _ rest) in
        let none_body = none_second (fault_if (not (nat_lt from (least_of scope.own limit))) code.Index line) (stmts_faults scope body inner ss) rest in
        let long : length inner ≡ length loops + 1 = length-append loops (opened name from limit ∷ []) in
        let inner_fine : AreFine scope inner ss = record { body = body; none = none_body; depth = d; nested = nested.3; room = omega (arith, room, long); sound = sound } in
        record {
          at = λ turns s fits running.
              let bound = is_limit scope s sound fits loops line limit limited in
              let early : from < least_of scope.own limit = grind (arith, nat_tests) in
              let cut : min from 8192 ≡ from = omega (arith, early, least_greatest scope sound limit, bound.most) in
              let ending = ends.at line s sound limited fits in
              let last = limit_value scope.own s limit in
              let turn : ℕ → State → State = λ i rest. after_all scope inner (turns ++ i ∷ []) ss rest in
              let run : ℕ → State → State = λ i rest. acted made (turns ++ i ∷ []) rest in
              let good : ℕ → State → Type 0 = λ i rest. IsSafeAct made (turns ++ i ∷ []) rest in
              let one : (i : ℕ) (s : State) → from ≤ i → i < last → StateFits scope.own s → good i s × (run i s ≡ turn i s) × StateFits scope.own (turn i s)
              = λ i s low high fits.
              let more = loops_more scope.own loops turns name from i limit running low (omega (arith, high, bound.high)) bound.most in
              let done = (all.performs inner_fine).at (turns ++ i ∷ []) s fits more in
              (done.safe, done.same, keeps scope inner body ss (turns ++ i ∷ []) s sound none_body fits more) in
              record {
                safe = rw (cut, ending.1) (omega (arith, running.long, room), ending.0, turns_safe scope.own turn run good from last one s fits);
                same = rw (cut, ending.1) (same_turns scope.own turn run good from last one s fits);
              };
        }

-- a rate variable that gets a value
pub sets_rate : (scope : Scope) (loops : List OpenLoop) (n : ℕ) (p : Numbers) (least greatest start : ℕ) (node : Node) (part : ℕ) → IsNumbered scope.own n p
    → SetsRate scope loops n (RateVar least greatest start) node part (act.SetRate p.rate node part (record { least = min least 8192; greatest = min greatest 8192 }))
sets_rate scope loops n p least greatest start node part numbered = record {
  at = λ turns s at is safe few.
      let holds = at.sound.own n (RateVar least greatest start) is in
      let low : min least 8192 ≡ least = omega (arith, holds.1, holds.2, holds.3) in
      let high : min greatest 8192 ≡ greatest = omega (arith, holds.3) in
      let limits = limits_placed scope.own.things n least greatest start is in
      let inside = slice_get_within (rate_limits scope.own) (rate_number scope.own n) _ limits in
      record {
        safe = (safe, few, rw numbered.rate (omega (arith, inside, at.state.frame.rates.long)));
        same = rw (low, high, numbered.rate) (same_rate least greatest part (node_value node s turns) (rate_number scope.own n) s);
      };
}
  where
    same_whole : (number : ℕ) (o : Option ℕ) (s : State) → with_rate_of number o s ≡ with_whole number o s
    same_whole number None s = refl
    same_whole number (Some v) s = refl

    same_rate : (least greatest frac : ℕ) (num : ℤ) (number : ℕ) (s : State)
        → with_rate_of number (rate_in (record { least = least; greatest = greatest }) frac num) s ≡ with_whole number (whole_within least greatest frac num) s
    same_rate least greatest frac (pos num) number s = same_whole number (whole_within least greatest frac (pos num)) s
    same_rate least greatest frac (negsuc num) number s = refl
