-- A process of a model without a fault sets no rate variable, and asks for notifications that come soon.
use Rattle.std.proofs.Common.{◌≡◌, ◌∙◌, ◌<◌, ◌≤◌, ℕ, zero, suc, ◌+◌, ◌-◌, Bool, true, false, not, List, [], ◌∷◌, ◌++◌, Option, Some, None, min, refl, sym, ap, subst, arith, ℤ, pos, negsuc, if◌then◌else◌}
use Rattle.std.proofs.lemmas.Option.{same_Some}
use Rattle.std.specs.List.{flat_map}
use Rattle.std.specs.Prelude.{slice_get, slice_set}
use Rattle.tdf_base.proofs.Api.{none_first, none_second}
use Rattle.tdf_base.specs.First.{fault_if}
use Rattle.tdf_base.specs.Limits.{deepest_nesting, time_end}
use Rattle.tdf_base.specs.declared.codes.Code.{Code}
use Rattle.tdf_base.specs.declared.codes.Code.TheVariants as code
use Rattle.tdf_expr.specs.Blocks.{Events, Module, PureBlock, blocks_of, process_body}
use Rattle.tdf_expr_blocks.specs.Blocks.{de_faults, process_faults}
use Rattle.tdf_expr_blocks.specs.Lines.{de_line_faults, sense_faults}
use Rattle.tdf_expr_blocks.specs.Types.{global_faults, type_faults}
use Rattle.tdf_expr_laws.specs.Processes.{AreSoon, ProcessesLeaveSoon}
use Rattle.tdf_expr_semantics.specs.Bodies.{after, after_all, after_body, assigned_at, limit_value, noticed_at, repeated, step_assigned, stepped_at, target_index, with_element}
use Rattle.tdf_expr_semantics.specs.Places.{event_number}
use Rattle.tdf_expr_semantics.specs.Value.{holds, value}
use Rattle.tdf_expr_state.specs.State.{State, least_time, standing}
use Rattle.tdf_expr_symbols.specs.Faults.{changes, expr_faults, limit_faults, opened, stmt_faults, stmts_faults}
use Rattle.tdf_expr_symbols.specs.Names.{Array, Composite, Const, De, DeSignal, Event, Instance, Loop, Names, Port, RateVar, Signal, Tdf, Thing, TypeName, Var, globals_of, place_of, thing_of}
use Rattle.tdf_expr_symbols.specs.Scope.{OpenLoop, Scope, de_scope}
use Rattle.tdf_expr_symbols.specs.declared.kinds.Part.{Part}
use Rattle.tdf_expr_symbols.specs.declared.kinds.Part.TheVariants as part
use Rattle.tdf_expr_types.specs.Bodies as widths
use Rattle.tdf_fixed.specs.declared.raw.Raw.{Raw}
use Rattle.tdf_lang_tree.specs.Kept.{Each, KeepsDe, KeepsGlobal, KeepsProcess, KeepsStmt, KeepsStmts}
use Rattle.tdf_lang_tree.specs.Pure.{Done, GDe, GNet, GShape, GTdf, More, PureDe, PureGlobal, PureProcess, PureStmt, PureStmts, SAccept, SAssign, SFor, SIf, SNotify, SReject, SSetRate, SSetStep}

-- a notification more
set_soon : (list : List (Option ℕ)) (event after : ℕ) → after < time_end → AreSoon list → AreSoon (slice_set list event (Some after))
set_soon [] event after low soon e t is = soon e t is
set_soon (x ∷ list) zero after low soon zero t is = subst (λ k. k < time_end) (same_Some after t is) low
set_soon (x ∷ list) zero after low soon (suc e) t is = soon (suc e) t is
set_soon (x ∷ list) (suc event) after low soon zero t is = soon zero t is
set_soon (x ∷ list) (suc event) after low soon (suc e) t is = set_soon list event after low (λ k u at. soon (suc k) u at) e t is

least_soon : (o : Option ℕ) (after : ℕ) → after < time_end → least_time o after < time_end
least_soon None after low = low
least_soon (Some before) after low = let l : min before after ≤ after = omega arith in omega (arith, l, low)

-- what each statement keeps, from a state on
abbrev Keeps : State → State → Type 0
Keeps begin s = (s.frame.rates ≡ begin.frame.rates) × (AreSoon begin.ports.notified → AreSoon s.ports.notified)

element_keeps : (begin : State) (own : Names) (n : ℕ) (t : Thing) (k : ℕ) (v : Raw) (s : State) → Keeps begin s → Keeps begin (with_element own n t k v s)
element_keeps begin own n (Const (Some x) y) k v s p = p
element_keeps begin own n (Const None y) k v s p = p
element_keeps begin own n (Var (Some x) y) k v s p = p
element_keeps begin own n (Var None y) k v s p = p
element_keeps begin own n (Array (Some x) y z) k v s p = p
element_keeps begin own n (Array None y z) k v s p = p
element_keeps begin own n (Port w (Some x) y z) k v s p = p
element_keeps begin own n (Port w None y z) k v s p = p
element_keeps begin own n (RateVar x y z) k v s p = p
element_keeps begin own n Event k v s p = p
element_keeps begin own n (Signal x) k v s p = p
element_keeps begin own n (DeSignal x y) k v s p = p
element_keeps begin own n Instance k v s p = p
element_keeps begin own n (Loop x y) k v s p = p
element_keeps begin own n (TypeName x) k v s p = p
element_keeps begin own n Tdf k v s p = p
element_keeps begin own n De k v s p = p
element_keeps begin own n Composite k v s p = p

assigned_keeps : (begin : State) (own : Names) (n : Option ℕ) (t : Option Thing) (k : ℤ) (v : Raw) (s : State) → Keeps begin s → Keeps begin (assigned_at own n t k v s)
assigned_keeps begin own None t k v s p = p
assigned_keeps begin own (Some n) None k v s p = p
assigned_keeps begin own (Some n) (Some t) (pos k) v s p = element_keeps begin own n t k v s p
assigned_keeps begin own (Some n) (Some t) (negsuc k) v s p = p

noticed_keeps : (begin : State) (own : Names) (n : Option ℕ) (time : ℕ) (s : State) → time < time_end → Keeps begin s → Keeps begin (noticed_at own n time s)
noticed_keeps begin own None time s low p = p
noticed_keeps begin own (Some n) time s low p =
    (p.0, λ soon. set_soon s.ports.notified (event_number own n) (least_time (standing (slice_get s.ports.notified (event_number own n))) time) (least_soon (standing (slice_get s.ports.notified (event_number own n))) time low) (p.1 soon))

step_keeps : (begin : State) (own : Names) (n : Option ℕ) (step : ℕ) (s : State) → Keeps begin s → Keeps begin (stepped_at own n step s)
step_keeps begin own None step s p = p
step_keeps begin own (Some n) step s p = p

stepped_keeps : (begin : State) (own : Names) (port : Option (List ℕ)) (step : ℕ) (s : State) → Keeps begin s → Keeps begin (step_assigned own port step s)
stepped_keeps begin own None step s p = p
stepped_keeps begin own (Some port) step s p = step_keeps begin own (place_of own port) step s p

repeated_keeps : (begin : State) (turn : ℕ → State → State) (from count : ℕ) → ((i : ℕ) (s : State) → Keeps begin s → Keeps begin (turn i s)) → (s : State) → Keeps begin s → Keeps begin (repeated turn from count s)
repeated_keeps begin turn from zero one s p = p
repeated_keeps begin turn from (suc count) one s p = one (from + count) (repeated turn from count s) (repeated_keeps begin turn from count one s p)

fault_there : (c : Code) (line : ℕ) → fault_if true c line ≡ [] → ⊥
unfolding fault_if
fault_there c line e = cc

module _ (scope : Scope) (body : Part) (plain : changes scope body ≡ false) (begin : State) where
  mutual
    stmt_keeps : (d : ℕ) (loops : List OpenLoop) (x : PureStmt) (turns : List ℕ) (s : State) → KeepsStmt d x → stmt_faults scope body loops x ≡ [] → Keeps begin s → Keeps begin (after scope loops turns x s)
    stmt_keeps d loops (SAssign line name i e) turns s kept none p =
        assigned_keeps begin scope.own (place_of scope.own name) (thing_of scope.own name) (target_index loops turns i) (value scope loops turns s e) s p
    stmt_keeps zero loops (SIf line test a b) turns s kept none p = absurd kept
    stmt_keeps (suc d) loops (SIf line test a b) turns s kept none p =
        let rest = none_second (expr_faults scope loops body line test) _ none in
        choose (holds (value scope loops turns s test)) (stmts_keep d loops a turns s kept.1 (none_first _ _ rest) p) (stmts_keep d loops b turns s kept.2 (none_second (stmts_faults scope body loops a) _ rest) p)
      where
        choose : (t : Bool) → Keeps begin (after_all scope loops turns a s) → Keeps begin (after_all scope loops turns b s) → Keeps begin (if t then after_all scope loops turns a s else after_all scope loops turns b s)
        choose true q r = q
        choose false q r = r
    stmt_keeps zero loops (SFor line name from end inner) turns s kept none p = absurd kept
    stmt_keeps (suc d) loops (SFor line name from end inner) turns s kept none p =
        let rest = none_second (limit_faults scope loops line end) _ none in
        repeated_keeps begin (λ i t. after_all scope (loops ++ opened name from end ∷ []) (turns ++ i ∷ []) inner t) from (limit_value scope.own s end - from)
        (λ i t q. stmts_keep d (loops ++ opened name from end ∷ []) inner (turns ++ i ∷ []) t kept.3 (none_second _ _ rest) q) s p
    stmt_keeps d loops (SNotify line event time) turns s kept none p = noticed_keeps begin scope.own (place_of scope.own event) time s kept.1 p
    stmt_keeps d loops (SSetRate line name e) turns s kept none p =
        absurd (fault_there code.Kind line (ap (λ b. fault_if (not b) code.Kind line) (sym plain) ∙ none_first _ _ none))
    stmt_keeps d loops (SSetStep line port step) turns s kept none p = stepped_keeps begin scope.own port step s p
    stmt_keeps d loops (SAccept line) turns s kept none p = p
    stmt_keeps d loops (SReject line) turns s kept none p = p

    stmts_keep : (d : ℕ) (loops : List OpenLoop) (xs : PureStmts) (turns : List ℕ) (s : State) → KeepsStmts d xs → stmts_faults scope body loops xs ≡ [] → Keeps begin s → Keeps begin (after_all scope loops turns xs s)
    stmts_keep d loops Done turns s kept none p = p
    stmts_keep d loops (More x xs) turns s kept none p =
        stmts_keep d loops xs turns (after scope loops turns x s) kept.1 (none_second (stmt_faults scope body loops x) _ none)
        (stmt_keeps d loops x turns s kept.0 (none_first (stmt_faults scope body loops x) _ none) p)

-- a block of processes of a model that is kept and has no fault is and has none
pub record IsGoodDe (globals : Names) (block : PureDe) : Type 0 where
  pub kept : KeepsDe block
  pub none : de_faults globals block ≡ []

module _ (globals : Names) where
  good_de : (gs : List PureGlobal) (n : ℕ) (block : PureDe) → Each KeepsGlobal gs → flat_map (global_faults globals) gs ≡ [] → slice_get (blocks_of gs) n ≡ Some (Events block) → IsGoodDe globals block
  unfolding global_faults
  good_de [] n block kept none at = absurd cc
  good_de (GShape t ∷ gs) n block kept none at = good_de gs n block kept.1 (none_second (global_faults globals (GShape t)) _ none) at
  good_de (GNet b ∷ gs) n block kept none at = good_de gs n block kept.1 (none_second (global_faults globals (GNet b)) _ none) at
  good_de (GDe b ∷ gs) zero block kept none at = subst (λ x. of_block x) (same_Some (Events b) (Events block) at) (record { kept = kept.0; none = none_first (global_faults globals (GDe b)) _ none })
    where
      of_block : PureBlock → Type 0
      of_block (Module x) = ⊥
      of_block (Events x) = IsGoodDe globals x
  good_de (GDe b ∷ gs) (suc n) block kept none at = good_de gs n block kept.1 (none_second (global_faults globals (GDe b)) _ none) at
  good_de (GTdf b ∷ gs) zero block kept none at = absurd cc
  good_de (GTdf b ∷ gs) (suc n) block kept none at = good_de gs n block kept.1 (none_second (global_faults globals (GTdf b)) _ none) at

  processes_none : (block : PureDe) → de_faults globals block ≡ [] → flat_map (process_faults (de_scope globals block)) block.processes ≡ []
  unfolding de_faults
  processes_none block none = none_first _ _ (none_second (flat_map (de_line_faults (de_scope globals block).globals) block.decls) _ none)

one_none : (scope : Scope) (p : PureProcess) → process_faults scope p ≡ [] → stmts_faults scope part.Process [] p.body.list ≡ []
unfolding process_faults widths.body_faults
one_none scope p none = none_first _ _ (none_second (flat_map (sense_faults scope) p.sensitive) _ none)

body_keeps : (scope : Scope) (begin : State) (ps : List PureProcess) (n : ℕ) (s : State) → Each KeepsProcess ps → flat_map (process_faults scope) ps ≡ [] → Keeps begin s → Keeps begin (after_body scope (process_body (slice_get ps n)) s)
body_keeps scope begin [] n s kept none p = p
body_keeps scope begin (q ∷ ps) zero s kept none p =
    stmts_keep scope part.Process refl begin deepest_nesting [] q.body.list [] s kept.0.1 (one_none scope q (none_first (process_faults scope q) _ none)) p
body_keeps scope begin (q ∷ ps) (suc n) s kept none p = body_keeps scope begin ps n s kept.1 (none_second (process_faults scope q) _ none) p

pub processes_leave_soon : ProcessesLeaveSoon
unfolding type_faults
processes_leave_soon model number n (Module block) s kept none at = record { rates = refl; soon = λ soon. soon }
processes_leave_soon model number n (Events block) s kept none at =
    let good = good_de (globals_of model.globals) model.globals number block kept.globals (none_first _ _ none) at in
    let left = body_keeps (de_scope (globals_of model.globals) block) s block.processes n s good.kept.processes (processes_none (globals_of model.globals) block good.none) (refl, λ soon. soon) in
    record { rates = left.0; soon = left.1 }
