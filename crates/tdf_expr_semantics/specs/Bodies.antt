-- What a body does (own): a change of the values of a block's names.
use Rattle.std.specs.Prelude.{ℕ, zero, suc, ◌+◌, ◌-◌, ◌*◌, ◌/◌, ◌%◌, ◌^◌, true, false, ◌&&◌, nat_eq, nat_le, if◌then◌else◌, List, [], ◌∷◌, ◌++◌, Option, Some, None, slice_index, ℤ, pos, negsuc}
use Rattle.tdf_fixed.specs.declared.raw.Raw.{Raw}
use Rattle.tdf_expr_semantics.specs.Places.{first_cell, first_sample, port_number, rate_number, event_number}
use Rattle.tdf_expr_semantics.specs.Value.{value, holds, cast_number, index_value}
use Rattle.tdf_expr_symbols.specs.Faults.{opened}
use Rattle.tdf_expr_symbols.specs.Names.{Names, Thing, Var, Array, Port, RateVar, place_of, thing_of}
use Rattle.tdf_expr_symbols.specs.Scope.{Scope, OpenLoop}
use Rattle.tdf_expr_state.specs.State.{State, with_cell, with_sample, with_rate, with_range_fault, with_step, with_answer, with_notice}
use Rattle.tdf_lang_tree.specs.Pure.{PureStmt, SAssign, SIf, SFor, SNotify, SSetRate, SSetStep, SAccept, SReject, PureStmts, Done, More}
use Rattle.tdf_lang_tree.specs.declared.expr.Index.{Index}
use Rattle.tdf_lang_tree.specs.declared.stmt.Limit.{Limit}
use Rattle.tdf_lang_tree.specs.declared.stmt.Limit.TheVariants as limit

-- element k of the n-th name gets a value, cast to its format
abbrev pub with_element : Names → ℕ → Thing → ℕ → Raw → State → State
with_element own n (Var (Some shape) start) k v s =
    with_cell (first_cell own n + k) (cast_number shape v) s
with_element own n (Array (Some shape) size starts) k v s =
    with_cell (first_cell own n + k) (cast_number shape v) s
with_element own n (Port word (Some shape) rate delay) k v s =
    with_sample (port_number own n) (first_sample own n + k) (cast_number shape v) s
with_element own n _ k v s = s

abbrev pub assigned_at : Names → Option ℕ → Option Thing → ℤ → Raw → State → State
assigned_at own (Some n) (Some thing) (pos k) v s = with_element own n thing k v s
assigned_at own n thing k v s = s

abbrev pub assigned : Names → List ℕ → ℤ → Raw → State → State
assigned own name k v s = assigned_at own (place_of own name) (thing_of own name) k v s

-- a bare name is its element 0
abbrev pub target_index : List OpenLoop → List ℕ → Option Index → ℤ
target_index loops turns None = pos 0
target_index loops turns (Some i) = index_value loops turns i

-- the value of a rate variable
abbrev pub rate_at : Names → State → Option ℕ → ℕ
rate_at own s (Some n) = slice_index s.frame.rates (rate_number own n)
rate_at own s None = 0

abbrev pub rate_of : Names → State → List ℕ → ℕ
rate_of own s name = rate_at own s (place_of own name)

-- where a loop ends that starts in this state
abbrev pub limit_value : Names → State → Limit → ℕ
limit_value own s (limit.Int n) = n
limit_value own s (limit.Var r) = rate_of own s r
limit_value own s (limit.Times c r) = c * rate_of own s r

-- the whole number num / 2 ^ frac, where it is one within limits
abbrev pub whole_within : (least greatest frac : ℕ) → ℤ → Option ℕ
whole_within least greatest frac (pos num) =
    if nat_eq (num % 2 ^ frac) 0
    && (nat_le least (num / 2 ^ frac) && nat_le (num / 2 ^ frac) greatest)
    then Some (num / 2 ^ frac) else None
whole_within least greatest frac (negsuc num) = None

-- a rate variable gets a value; one that isn't allowed leaves it, and is noted
abbrev pub with_whole : ℕ → Option ℕ → State → State
with_whole number (Some value) s = with_rate number value s
with_whole number None s = with_range_fault s

abbrev pub rate_set : Names → Option ℕ → Option Thing → Raw → State → State
rate_set own (Some n) (Some (RateVar least greatest start)) v s =
    with_whole (rate_number own n) (whole_within least greatest v.frac v.num) s
rate_set own n thing v s = s

abbrev pub noticed_at : Names → Option ℕ → ℕ → State → State
noticed_at own (Some n) after s = with_notice (event_number own n) after s
noticed_at own None after s = s

-- a timestep is that of the module, or of a port
abbrev pub stepped_at : Names → Option ℕ → ℕ → State → State
stepped_at own (Some n) step s = with_step (1 + port_number own n) step s
stepped_at own None step s = s

abbrev pub step_assigned : Names → Option (List ℕ) → ℕ → State → State
step_assigned own None step s = with_step 0 step s
step_assigned own (Some port) step s = stepped_at own (place_of own port) step s

-- `count` turns of a loop, the first at `from`
abbrev pub repeated : (ℕ → State → State) → (from count : ℕ) → State → State
repeated turn from zero s = s
repeated turn from (suc count) s = turn (from + count) (repeated turn from count s)

-- the state after a statement; the limit of a `for` is its value when the loop starts
abbrev mutual
  pub after : Scope → List OpenLoop → List ℕ → PureStmt → State → State
  after scope loops turns (SAssign line name i e) s =
      assigned scope.own name (target_index loops turns i) (value scope loops turns s e) s
  after scope loops turns (SIf line test a b) s =
      if holds (value scope loops turns s test) then after_all scope loops turns a s
      else after_all scope loops turns b s
  after scope loops turns (SFor line name from end body) s =
      repeated
      (λ i rest. after_all scope (loops ++ opened name from end ∷ []) (turns ++ i ∷ []) body rest)
      from (limit_value scope.own s end - from) s
  after scope loops turns (SNotify line event time) s =
      noticed_at scope.own (place_of scope.own event) time s
  after scope loops turns (SSetRate line name e) s =
      rate_set scope.own (place_of scope.own name) (thing_of scope.own name)
      (value scope loops turns s e) s
  after scope loops turns (SSetStep line port step) s = step_assigned scope.own port step s
  after scope loops turns (SAccept line) s = with_answer true s
  after scope loops turns (SReject line) s = with_answer false s

  pub after_all : Scope → List OpenLoop → List ℕ → PureStmts → State → State
  after_all scope loops turns Done s = s
  after_all scope loops turns (More x xs) s =
      after_all scope loops turns xs (after scope loops turns x s)

-- the state after a body
abbrev pub after_body : Scope → PureStmts → State → State
after_body scope body s = after_all scope [] [] body s
