-- A body leaves samples of at most 64 bits, where there were no others: what it assigns is cast to a format.
use Rattle.std.proofs.Common.{◌≡◌, ℕ, zero, suc, ◌+◌, ◌-◌, List, [], ◌∷◌, ◌++◌, ℤ, pos, negsuc, Option, Some, None, refl}
use Rattle.std.specs.Prelude.{slice_get}
use Rattle.tdf_expr_semantics.specs.Bodies.{after, after_all, assigned_at, limit_value, noticed_at, rate_set, repeated, step_assigned, stepped_at, target_index, whole_within, with_element, with_whole}
use Rattle.tdf_expr_semantics.specs.Places.{first_sample, rate_number}
use Rattle.tdf_expr_semantics.specs.Value.{cast_number, holds, value}
use Rattle.tdf_expr_symbols.specs.Faults.{opened}
use Rattle.tdf_expr_symbols.specs.Names.{Array, Names, Port, RateVar, Thing, Var, found_at, place_of, thing_of}
use Rattle.tdf_expr_symbols.specs.Scope.{OpenLoop, Scope}
use Rattle.tdf_expr_symbols.specs.Sound.{IsSound, IsThingSound}
use Rattle.tdf_expr_symbols.specs.Width.{fraction_bits}
use Rattle.tdf_expr_state.specs.State.{State}
use Rattle.tdf_fixed.proofs.Api.{in_range, in_small}
use Rattle.tdf_fixed.specs.Cast.{IsLegal}
use Rattle.tdf_fixed.specs.Overflow.{overflowed}
use Rattle.tdf_fixed.specs.Quantise.{requantised}
use Rattle.tdf_fixed.specs.declared.raw.Raw.{Raw}
use Rattle.tdf_lang_tree.specs.Pure.{Done, More, PureStmt, PureStmts, SAccept, SAssign, SFor, SIf, SNotify, SReject, SSetRate, SSetStep}
use Rattle.tdf_lang_tree.specs.declared.shapes.Shape.{Shape}
use Rattle.tdf_tables_of_runs.proofs.Small.{HasSmall, IsSmall, either, small_set}

abbrev pub HasSmallPorts : State → Type 0
HasSmallPorts s = HasSmall s.ports.samples

-- ---- what is assigned

cast_small : (shape : Shape) (v : Raw) → IsLegal shape.wl shape.iwl → IsSmall (cast_number shape v)
cast_small shape v legal =
    let exact = requantised shape.quant v.num v.frac (fraction_bits shape) in
    in_small shape.signed shape.wl (overflowed shape.over shape.signed shape.wl exact) legal.some_bits legal.few_bits
    (in_range shape.over shape.signed shape.wl exact legal.some_bits)

element_small : (own : Names) (n k : ℕ) (t : Thing) (v : Raw) (s : State) → IsThingSound own t → HasSmallPorts s → HasSmallPorts (with_element own n t k v s)
element_small own n k (Var (Some shape) start) v s sound h = h
element_small own n k (Array (Some shape) size starts) v s sound h = h
element_small own n k (Port word (Some shape) rate delay) v s sound h =
    small_set s.ports.samples (first_sample own n + k) (cast_number shape v) h (cast_small shape v sound.0)
element_small own n k _ v s sound h = h

module _ (scope : Scope) (sound : IsSound scope) where
  thing_small : (n : ℕ) (o : Option Thing) (k : ℤ) (v : Raw) (s : State) → slice_get scope.own.things n ≡ o → HasSmallPorts s
      → HasSmallPorts (assigned_at scope.own (Some n) o k v s)
  thing_small n None k v s at h = h
  thing_small n (Some t) (pos k) v s at h = element_small scope.own n k t v s (sound.own n t at) h
  thing_small n (Some t) (negsuc k) v s at h = h

  assigned_small : (o : Option ℕ) (k : ℤ) (v : Raw) (s : State) → HasSmallPorts s → HasSmallPorts (assigned_at scope.own o (found_at scope.own.things o) k v s)
  assigned_small None k v s h = h
  assigned_small (Some n) k v s h = thing_small n (slice_get scope.own.things n) k v s refl h

-- ---- what changes no sample

whole_small : (number : ℕ) (o : Option ℕ) (s : State) → HasSmallPorts s → HasSmallPorts (with_whole number o s)
whole_small number None s h = h
whole_small number (Some value) s h = h

rate_small : (own : Names) (v : Raw) (s : State) (o : Option ℕ) (t : Option Thing) → HasSmallPorts s → HasSmallPorts (rate_set own o t v s)
rate_small own v s None t h = h
rate_small own v s (Some n) None h = h
rate_small own v s (Some n) (Some (RateVar least greatest start)) h = whole_small (rate_number own n) (whole_within least greatest v.frac v.num) s h
rate_small own v s (Some n) (Some _) h = h

stepped_small : (own : Names) (o : Option ℕ) (step : ℕ) (s : State) → HasSmallPorts s → HasSmallPorts (stepped_at own o step s)
stepped_small own None step s h = h
stepped_small own (Some n) step s h = h

step_small : (own : Names) (port : Option (List ℕ)) (step : ℕ) (s : State) → HasSmallPorts s → HasSmallPorts (step_assigned own port step s)
step_small own None step s h = h
step_small own (Some port) step s h = stepped_small own (place_of own port) step s h

notice_small : (own : Names) (o : Option ℕ) (time : ℕ) (s : State) → HasSmallPorts s → HasSmallPorts (noticed_at own o time s)
notice_small own None time s h = h
notice_small own (Some n) time s h = h

-- ---- statements

turns_small : (turn : ℕ → State → State) → ((i : ℕ) (s : State) → HasSmallPorts s → HasSmallPorts (turn i s)) → (from count : ℕ) (s : State)
    → HasSmallPorts s → HasSmallPorts (repeated turn from count s)
turns_small turn each from zero s h = h
turns_small turn each from (suc count) s h = each (from + count) (repeated turn from count s) (turns_small turn each from count s h)

module _ (scope : Scope) (sound : IsSound scope) where
  mutual
    stmt_small : (loops : List OpenLoop) (turns : List ℕ) (x : PureStmt) (s : State) → HasSmallPorts s → HasSmallPorts (after scope loops turns x s)
    stmt_small loops turns (SAssign line name i e) s h =
        assigned_small scope sound (place_of scope.own name) (target_index loops turns i) (value scope loops turns s e) s h
    stmt_small loops turns (SIf line test a b) s h =
        either HasSmallPorts (holds (value scope loops turns s test)) (after_all scope loops turns a s) (after_all scope loops turns b s)
        (stmts_small loops turns a s h) (stmts_small loops turns b s h)
    stmt_small loops turns (SFor line name from end body) s h =
        turns_small (λ i rest. after_all scope (loops ++ opened name from end ∷ []) (turns ++ i ∷ []) body rest)
        (λ i rest g. stmts_small (loops ++ opened name from end ∷ []) (turns ++ i ∷ []) body rest g)
        from (limit_value scope.own s end - from) s h
    stmt_small loops turns (SNotify line event time) s h = notice_small scope.own (place_of scope.own event) time s h
    stmt_small loops turns (SSetRate line name e) s h =
        rate_small scope.own (value scope loops turns s e) s (place_of scope.own name) (thing_of scope.own name) h
    stmt_small loops turns (SSetStep line port step) s h = step_small scope.own port step s h
    stmt_small loops turns (SAccept line) s h = h
    stmt_small loops turns (SReject line) s h = h

    pub stmts_small : (loops : List OpenLoop) (turns : List ℕ) (xs : PureStmts) (s : State) → HasSmallPorts s → HasSmallPorts (after_all scope loops turns xs s)
    stmts_small loops turns Done s h = h
    stmts_small loops turns (More x xs) s h = stmts_small loops turns xs (after scope loops turns x s) (stmt_small loops turns x s h)
