-- A body that begins with no variables leaves none: so nothing is said of an actor that is no module.
use Rattle.std.proofs.Common.{◌≡◌, ℕ, zero, suc, ◌+◌, ◌-◌, Bool, true, false, List, [], ◌∷◌, ◌++◌, Option, Some, None, refl, ap, ℤ, pos, negsuc, if◌then◌else◌}
use Rattle.std.specs.Prelude.{slice_get, slice_set}
use Rattle.tdf_expr.specs.Blocks.{PureBlock, blocks_of, body_of}
use Rattle.tdf_expr.specs.Runs.{scope_in}
use Rattle.tdf_expr.specs.declared.bodies.Body.{Body}
use Rattle.tdf_fixed.specs.declared.raw.Raw.{Raw}
use Rattle.tdf_bind.specs.declared.model.Flat.{Flat}
use Rattle.tdf_expr_semantics.specs.Bodies.{after, after_all, assigned_at, limit_value, noticed_at, rate_set, repeated, step_assigned, stepped_at, target_index, whole_within, with_element, with_whole}
use Rattle.tdf_expr_semantics.specs.Places.{first_cell, rate_number}
use Rattle.tdf_expr_semantics.specs.Value.{cast_number, holds, value}
use Rattle.tdf_expr_symbols.specs.Faults.{opened}
use Rattle.tdf_expr_symbols.specs.Names.{Array, Composite, Const, De, DeSignal, Event, Instance, Loop, Names, Port, RateVar, Signal, Tdf, Thing, TypeName, Var, place_of, thing_of}
use Rattle.tdf_expr_symbols.specs.Scope.{OpenLoop, Scope}
use Rattle.tdf_expr_state.specs.State.{State}
use Rattle.tdf_streams.specs.Bodies.{after_part, done_by}
use Rattle.tdf_streams.specs.Places.{block_at}
use Rattle.tdf_lang_tree.specs.Pure.{Done, More, PureStmt, PureStmts, PureTree, SAccept, SAssign, SFor, SIf, SNotify, SReject, SSetRate, SSetStep}

-- no variables are there
abbrev Bare : State → Type 0
Bare s = s.frame.cells ≡ []

none_set : (k : ℕ) (v : ℤ) (l : List ℤ) → l ≡ [] → slice_set l k v ≡ []
none_set k v l none = ap (λ x. slice_set x k v) none

element_bare : (own : Names) (n : ℕ) (t : Thing) (k : ℕ) (v : Raw) (s : State) → Bare s → Bare (with_element own n t k v s)
element_bare own n (Const x y) k v s none = none
element_bare own n (Var (Some x) y) k v s none = none_set (first_cell own n + k) (cast_number x v) s.frame.cells none
element_bare own n (Var None y) k v s none = none
element_bare own n (Array (Some x) y z) k v s none = none_set (first_cell own n + k) (cast_number x v) s.frame.cells none
element_bare own n (Array None y z) k v s none = none
element_bare own n (Port w (Some x) y z) k v s none = none
element_bare own n (Port w None y z) k v s none = none
element_bare own n (RateVar x y z) k v s none = none
element_bare own n Event k v s none = none
element_bare own n (Signal x) k v s none = none
element_bare own n (DeSignal x y) k v s none = none
element_bare own n Instance k v s none = none
element_bare own n (Loop x y) k v s none = none
element_bare own n (TypeName x) k v s none = none
element_bare own n Tdf k v s none = none
element_bare own n De k v s none = none
element_bare own n Composite k v s none = none

assigned_bare : (own : Names) (n : Option ℕ) (t : Option Thing) (k : ℤ) (v : Raw) (s : State) → Bare s → Bare (assigned_at own n t k v s)
assigned_bare own None t k v s none = none
assigned_bare own (Some n) None k v s none = none
assigned_bare own (Some n) (Some t) (pos k) v s none = element_bare own n t k v s none
assigned_bare own (Some n) (Some t) (negsuc k) v s none = none

noticed_bare : (own : Names) (n : Option ℕ) (time : ℕ) (s : State) → Bare s → Bare (noticed_at own n time s)
noticed_bare own None time s none = none
noticed_bare own (Some n) time s none = none

step_bare : (own : Names) (n : Option ℕ) (step : ℕ) (s : State) → Bare s → Bare (stepped_at own n step s)
step_bare own None step s none = none
step_bare own (Some n) step s none = none

stepped_bare : (own : Names) (port : Option (List ℕ)) (step : ℕ) (s : State) → Bare s → Bare (step_assigned own port step s)
stepped_bare own None step s none = none
stepped_bare own (Some port) step s none = step_bare own (place_of own port) step s none

whole_bare : (number : ℕ) (value : Option ℕ) (s : State) → Bare s → Bare (with_whole number value s)
whole_bare number None s none = none
whole_bare number (Some v) s none = none

rate_bare : (own : Names) (n : Option ℕ) (t : Option Thing) (v : Raw) (s : State) → Bare s → Bare (rate_set own n t v s)
rate_bare own None t v s none = none
rate_bare own (Some n) None v s none = none
rate_bare own (Some n) (Some (RateVar x y z)) v s none = whole_bare (rate_number own n) (whole_within x y v.frac v.num) s none
rate_bare own (Some n) (Some (Const x y)) v s none = none
rate_bare own (Some n) (Some (Var x y)) v s none = none
rate_bare own (Some n) (Some (Array x y z)) v s none = none
rate_bare own (Some n) (Some (Port w x y z)) v s none = none
rate_bare own (Some n) (Some Event) v s none = none
rate_bare own (Some n) (Some (Signal x)) v s none = none
rate_bare own (Some n) (Some (DeSignal x y)) v s none = none
rate_bare own (Some n) (Some Instance) v s none = none
rate_bare own (Some n) (Some (Loop x y)) v s none = none
rate_bare own (Some n) (Some (TypeName x)) v s none = none
rate_bare own (Some n) (Some Tdf) v s none = none
rate_bare own (Some n) (Some De) v s none = none
rate_bare own (Some n) (Some Composite) v s none = none

repeated_bare : (turn : ℕ → State → State) (from count : ℕ) → ((i : ℕ) (s : State) → Bare s → Bare (turn i s)) → (s : State) → Bare s → Bare (repeated turn from count s)
repeated_bare turn from zero one s none = none
repeated_bare turn from (suc count) one s none = one (from + count) (repeated turn from count s) (repeated_bare turn from count one s none)

module _ (scope : Scope) where
  mutual
    stmt_bare : (loops : List OpenLoop) (x : PureStmt) (turns : List ℕ) (s : State) → Bare s → Bare (after scope loops turns x s)
    stmt_bare loops (SAssign line name i e) turns s none =
        assigned_bare scope.own (place_of scope.own name) (thing_of scope.own name) (target_index loops turns i) (value scope loops turns s e) s none
    stmt_bare loops (SIf line test a b) turns s none = choose (holds (value scope loops turns s test)) (stmts_bare loops a turns s none) (stmts_bare loops b turns s none)
      where
        choose : (t : Bool) → Bare (after_all scope loops turns a s) → Bare (after_all scope loops turns b s) → Bare (if t then after_all scope loops turns a s else after_all scope loops turns b s)
        choose true p q = p
        choose false p q = q
    stmt_bare loops (SFor line name from end inner) turns s none =
        repeated_bare (λ i t. after_all scope (loops ++ opened name from end ∷ []) (turns ++ i ∷ []) inner t) from (limit_value scope.own s end - from)
        (λ i t bare. stmts_bare (loops ++ opened name from end ∷ []) inner (turns ++ i ∷ []) t bare) s none
    stmt_bare loops (SNotify line event time) turns s none = noticed_bare scope.own (place_of scope.own event) time s none
    stmt_bare loops (SSetRate line name e) turns s none = rate_bare scope.own (place_of scope.own name) (thing_of scope.own name) (value scope loops turns s e) s none
    stmt_bare loops (SSetStep line port step) turns s none = stepped_bare scope.own port step s none
    stmt_bare loops (SAccept line) turns s none = none
    stmt_bare loops (SReject line) turns s none = none

    stmts_bare : (loops : List OpenLoop) (xs : PureStmts) (turns : List ℕ) (s : State) → Bare s → Bare (after_all scope loops turns xs s)
    stmts_bare loops Done turns s none = none
    stmts_bare loops (More x xs) turns s none = stmts_bare loops xs turns (after scope loops turns x s) (stmt_bare loops x turns s none)

part_bare : (model : PureTree) (block : Option PureBlock) (part : Body) (s : State) → Bare s → Bare (after_part model block part s)
part_bare model None part s none = none
part_bare model (Some block) part s none = stmts_bare (scope_in model block) [] (body_of block part) [] s none

-- the body of what has no variables
pub done_bare : (model : PureTree) (flat : Flat) (m : ℕ) (part : Body) (rates : List ℕ) (read : ℕ → List Raw) → (done_by model flat m part [] rates read).frame.cells ≡ []
unfolding done_by
done_bare model flat m part rates read = part_bare model (slice_get (blocks_of model.globals) (block_at flat.tables.modules m)) part _ refl
