-- Bodies leave rates within their limits, and assign timesteps that are short.
use Rattle.std.proofs.Common.{◌≡◌, ◌∙◌, ℕ, zero, suc, ◌+◌, ◌-◌, ◌/◌, ◌%◌, ◌^◌, ◌≤◌, ◌<◌, ◌&&◌, Bool, true, false, List, [], ◌∷◌, ◌++◌, Option, Some, None, ℤ, pos, negsuc, refl, sym, ap, subst, arith, if◌then◌else◌, nat_eq}
use Rattle.std.proofs.lemmas.Bool.Decides.{nat_tests}
use Rattle.std.proofs.lemmas.Option.{same_Some}
use Rattle.std.specs.Prelude.{nat_le, slice_get, slice_set}
use Rattle.tdf_base.specs.Limits.{time_end}
use Rattle.tdf_fixed.specs.declared.raw.Raw.{Raw}
use Rattle.tdf_expr_semantics.proofs.Api.{found, limits_placed, rates_set}
use Rattle.tdf_expr_semantics.specs.Bodies.{after, after_all, assigned_at, limit_value, noticed_at, rate_set, repeated, step_assigned, stepped_at, target_index, whole_within, with_element, with_whole}
use Rattle.tdf_expr_semantics.specs.Fits.{RatesFit}
use Rattle.tdf_expr_semantics.specs.Places.{port_number, rate_limits, rate_number}
use Rattle.tdf_expr_semantics.specs.Value.{holds, value}
use Rattle.tdf_expr_symbols.specs.Faults.{opened}
use Rattle.tdf_expr_symbols.specs.Names.{Names, Thing, Var, Array, Port, RateVar, place_of, thing_of}
use Rattle.tdf_expr_symbols.specs.Scope.{OpenLoop, Scope}
use Rattle.tdf_expr_state.specs.State.{State, with_range_fault, with_step}
use Rattle.tdf_lang_tree.specs.Kept.{KeepsStmt, KeepsStmts}
use Rattle.tdf_lang_tree.specs.Pure.{Done, More, PureStmt, PureStmts, SAccept, SAssign, SFor, SIf, SNotify, SReject, SSetRate, SSetStep}

-- the timesteps that are assigned
abbrev pub AreShort : List (Option ℕ) → Type 0
AreShort steps = (j step : ℕ) → slice_get steps j ≡ Some (Some step) → step < time_end

pub record Stays (own : Names) (s : State) : Type 0 where
  pub rates : RatesFit (rate_limits own) s.frame.rates
  pub short : AreShort s.ports.steps

-- one timestep more
set_short : (steps : List (Option ℕ)) (place step : ℕ) → AreShort steps → step < time_end → AreShort (slice_set steps place (Some step))
set_short [] place step short few j other at = absurd cc
set_short (x ∷ steps) zero step short few zero other at = subst (λ n. n < time_end) (same_Some step other (same_Some (Some step) (Some other) at)) few
set_short (x ∷ steps) zero step short few (suc j) other at = short (suc j) other at
set_short (x ∷ steps) (suc place) step short few zero other at = short 0 other at
set_short (x ∷ steps) (suc place) step short few (suc j) other at = set_short steps place step (λ k o is. short (suc k) o is) few j other at

module _ (own : Names) (s : State) (stays : Stays own s) where
  element_stays : (n k : ℕ) (t : Thing) (v : Raw) → Stays own (with_element own n t k v s)
  element_stays n k (Var (Some shape) start) v = record { rates = stays.rates; short = stays.short }
  element_stays n k (Array (Some shape) size starts) v = record { rates = stays.rates; short = stays.short }
  element_stays n k (Port word (Some shape) rate delay) v = record { rates = stays.rates; short = stays.short }
  element_stays n k _ v = stays

  assigned_stays : (n : Option ℕ) (t : Option Thing) (k : ℤ) (v : Raw) → Stays own (assigned_at own n t k v s)
  assigned_stays (Some n) (Some t) (pos k) v = element_stays n k t v
  assigned_stays _ _ k v = stays

  step_stays : (place step : ℕ) → step < time_end → Stays own (with_step place step s)
  step_stays place step few = record { rates = stays.rates; short = set_short s.ports.steps place step stays.short few }

  stepped_stays : (port : Option (List ℕ)) (step : ℕ) → step < time_end → Stays own (step_assigned own port step s)
  stepped_stays None step few = step_stays 0 step few
  stepped_stays (Some name) step few = go (place_of own name)
    where
      go : (o : Option ℕ) → Stays own (stepped_at own o step s)
      go None = stays
      go (Some n) = step_stays (1 + port_number own n) step few

  noticed_stays : (o : Option ℕ) (time : ℕ) → Stays own (noticed_at own o time s)
  noticed_stays None time = stays
  noticed_stays (Some n) time = record { rates = stays.rates; short = stays.short }

  range_stays : Stays own (with_range_fault s)
  range_stays = record { rates = stays.rates; short = stays.short }

  whole_stays : (n least greatest start frac : ℕ) (num : ℤ) → slice_get own.things n ≡ Some (RateVar least greatest start)
      → Stays own (with_whole (rate_number own n) (whole_within least greatest frac num) s)
  whole_stays n least greatest start frac (negsuc m) is = range_stays
  whole_stays n least greatest start frac (pos m) is =
      go (nat_eq (m % 2 ^ frac) 0 && (nat_le least (m / 2 ^ frac) && nat_le (m / 2 ^ frac) greatest)) refl
    where
      low : (a : Bool) (l x g : ℕ) → a && (nat_le l x && nat_le x g) ≡ true → l ≤ x
      low a l x g e = grind (arith, nat_tests)

      high : (a : Bool) (l x g : ℕ) → a && (nat_le l x && nat_le x g) ≡ true → x ≤ g
      high a l x g e = grind (arith, nat_tests)

      go : (b : Bool) → nat_eq (m % 2 ^ frac) 0 && (nat_le least (m / 2 ^ frac) && nat_le (m / 2 ^ frac) greatest) ≡ b
          → Stays own (with_whole (rate_number own n) (if b then Some (m / 2 ^ frac) else None) s)
      go false e = range_stays
      go true e = record {
        rates = rates_set (rate_limits own) s.frame.rates (rate_number own n) (m / 2 ^ frac) (record { least = least; greatest = greatest }) stays.rates
            (limits_placed own.things n least greatest start is) (low (nat_eq (m % 2 ^ frac) 0) least (m / 2 ^ frac) greatest e)
            (high (nat_eq (m % 2 ^ frac) 0) least (m / 2 ^ frac) greatest e);
        short = stays.short;
      }

  set_stays : (name : List ℕ) (v : Raw) → Stays own (rate_set own (place_of own name) (thing_of own name) v s)
  set_stays name v = go (place_of own name) refl (thing_of own name) refl
    where
      go : (o : Option ℕ) → place_of own name ≡ o → (x : Option Thing) → thing_of own name ≡ x → Stays own (rate_set own o x v s)
      go None at x is = stays
      go (Some n) at None is = stays
      go (Some n) at (Some (RateVar least greatest start)) is =
          let here = found own.things (place_of own name) (RateVar least greatest start) is in
          let same : here.0 ≡ n = ap (λ (o : Option ℕ). held o) (sym here.1 ∙ at) in
          whole_stays n least greatest start v.frac v.num (ap (slice_get own.things) (sym same) ∙ here.2)
        where
          held : Option ℕ → ℕ
          held None = n
          held (Some m) = m
      go (Some n) at (Some _) is = stays

repeated_stays : (own : Names) (turn : ℕ → State → State) → ((i : ℕ) (s : State) → Stays own s → Stays own (turn i s))
    → (from count : ℕ) (s : State) → Stays own s → Stays own (repeated turn from count s)
repeated_stays own turn each from zero s stays = stays
repeated_stays own turn each from (suc count) s stays = each (from + count) (repeated turn from count s) (repeated_stays own turn each from count s stays)

either_stays : (own : Names) (c : Bool) (s t : State) → Stays own s → Stays own t → Stays own (if c then s else t)
either_stays own true s t one other = one
either_stays own false s t one other = other

mutual
  stmt_stays : (scope : Scope) (d : ℕ) (loops : List OpenLoop) (turns : List ℕ) (x : PureStmt) (s : State) → KeepsStmt d x → Stays scope.own s → Stays scope.own (after scope loops turns x s)
  stmt_stays scope d loops turns (SAssign line name i e) s kept stays =
      assigned_stays scope.own s stays (place_of scope.own name) (thing_of scope.own name) (target_index loops turns i) (value scope loops turns s e)
  stmt_stays scope zero loops turns (SIf line test a b) s kept stays = absurd kept
  stmt_stays scope (suc d) loops turns (SIf line test a b) s kept stays =
      either_stays scope.own (holds (value scope loops turns s test)) (after_all scope loops turns a s) (after_all scope loops turns b s)
      (stmts_stay scope d loops turns a s kept.1 stays) (stmts_stay scope d loops turns b s kept.2 stays)
  stmt_stays scope zero loops turns (SFor line name from end body) s kept stays = absurd kept
  stmt_stays scope (suc d) loops turns (SFor line name from end body) s kept stays =
      repeated_stays scope.own (λ i rest. after_all scope (loops ++ opened name from end ∷ []) (turns ++ i ∷ []) body rest)
      (λ i rest here. stmts_stay scope d (loops ++ opened name from end ∷ []) (turns ++ i ∷ []) body rest kept.3 here)
      from (limit_value scope.own s end - from) s stays
  stmt_stays scope d loops turns (SNotify line event time) s kept stays = noticed_stays scope.own s stays (place_of scope.own event) time
  stmt_stays scope d loops turns (SSetRate line name e) s kept stays = set_stays scope.own s stays name (value scope loops turns s e)
  stmt_stays scope d loops turns (SSetStep line port step) s kept stays = stepped_stays scope.own s stays port step kept.1
  stmt_stays scope d loops turns (SAccept line) s kept stays = record { rates = stays.rates; short = stays.short }
  stmt_stays scope d loops turns (SReject line) s kept stays = record { rates = stays.rates; short = stays.short }

  pub stmts_stay : (scope : Scope) (d : ℕ) (loops : List OpenLoop) (turns : List ℕ) (xs : PureStmts) (s : State) → KeepsStmts d xs → Stays scope.own s
      → Stays scope.own (after_all scope loops turns xs s)
  stmts_stay scope d loops turns Done s kept stays = stays
  stmts_stay scope d loops turns (More x xs) s kept stays =
      stmts_stay scope d loops turns xs (after scope loops turns x s) kept.1 (stmt_stays scope d loops turns x s kept.0 stays)
