-- What each assignment keeps of the values of variables and of the samples of ports, bodies keep.
use Rattle.std.proofs.Common.{◌≡◌, ◌∙◌, ℕ, zero, suc, ◌+◌, ◌-◌, ◌/◌, ◌%◌, ◌^◌, ◌<◌, ◌≤◌, ◌&&◌, ◌||◌, Bool, true, false, if◌then◌else◌, nat_eq, nat_le, nat_lt, List, [], ◌∷◌, ◌++◌, Option, Some, None, map, ℤ, pos, negsuc, slice_get, slice_set, refl, sym, ap, subst, arith}
use Rattle.std.proofs.Math.Nat.{mul-le-mul_left}
use Rattle.std.proofs.lemmas.Bool.Decides.{nat_tests}
use Rattle.std.proofs.lemmas.Option.{same_Some}
use Rattle.tdf_base.proofs.Api.{if_none, none_first, none_second}
use Rattle.tdf_base.specs.Limits.{greatest_rate}
use Rattle.tdf_base.specs.declared.codes.Code.TheVariants as code
use Rattle.tdf_expr.proofs.Api.{limits_same}
use Rattle.tdf_expr.specs.Blocks.{PureBlock, body_of, scope_of}
use Rattle.tdf_expr.specs.Compiled.{AreBlocksOf, IsBlockOf}
use Rattle.tdf_expr.specs.Frames.{limits_of_rate}
use Rattle.tdf_expr.specs.Made.{block_rates}
use Rattle.tdf_expr.specs.declared.blocks.Block.{Block}
use Rattle.tdf_expr.specs.declared.bodies.Body.{Body}
use Rattle.tdf_expr_laws.specs.Cells.{AreAtMost}
use Rattle.tdf_expr_semantics.proofs.Api.{IsRateVar, first_element, found, has_element, limits_placed, loops_more, rate_var, target_element, thing_sound}
use Rattle.tdf_expr_semantics.specs.Bodies.{after, after_all, after_body, assigned, assigned_at, limit_value, noticed_at, rate_at, rate_of, rate_set, repeated, step_assigned, stepped_at, target_index, whole_within, with_element, with_whole}
use Rattle.tdf_expr_semantics.specs.Fits.{LoopsFit}
use Rattle.tdf_expr_semantics.specs.Places.{HasElement, RateLimits, rate_limits, rate_number}
use Rattle.tdf_expr_semantics.specs.Value.{holds, value}
use Rattle.tdf_expr_state.specs.State.{State, with_rate}
use Rattle.tdf_expr_symbols.specs.Faults.{expr_faults, limit_faults, multiple_faults, opened, stmt_faults, stmts_faults, target_faults}
use Rattle.tdf_expr_symbols.specs.Index.{kind_faults}
use Rattle.tdf_expr_symbols.specs.Names.{Array, Names, Port, RateVar, Thing, Var, place_of, thing_of}
use Rattle.tdf_expr_symbols.specs.Scope.{OpenLoop, Scope, greatest_of, greatest_rate_of, named}
use Rattle.tdf_expr_symbols.specs.Sound.{IsSound, IsThingSound}
use Rattle.tdf_expr_symbols.specs.declared.kinds.Part.{Part}
use Rattle.tdf_expr_symbols.specs.declared.kinds.Place.TheVariants as place
use Rattle.tdf_fixed.specs.declared.raw.Raw.{Raw}
use Rattle.tdf_lang_tree.specs.Pure.{Done, More, PureStmt, PureStmts, SAccept, SAssign, SFor, SIf, SNotify, SReject, SSetRate, SSetStep}
use Rattle.tdf_lang_tree.specs.declared.expr.Index.{Index}
use Rattle.tdf_lang_tree.specs.declared.stmt.Limit.TheVariants as limit
use Rattle.tdf_lang_tree.specs.declared.stmt.Limit.{Limit}

-- ---- statements

-- this of the values of variables and of samples, and no rate too great
pub record HasKept (own : Names) (Q : (cells samples : List ℤ) → Type 0) (s : State) : Type 0 where
  pub kept : Q s.frame.cells s.ports.samples
  pub most : AreAtMost (rate_limits own) s.frame.rates

-- an element that gets a value, cast to its format, leaves it so
abbrev pub ElementsKeep : (own : Names) → (Q : (cells samples : List ℤ) → Type 0) → Type 0
ElementsKeep own Q = (s : State) (n k : ℕ) (t : Thing) (v : Raw) → Q s.frame.cells s.ports.samples → slice_get own.things n ≡ Some t → IsThingSound own t → HasElement own t k
    → Q (with_element own n t k v s).frame.cells (with_element own n t k v s).ports.samples

most_set : (limits : List RateLimits) (rates : List ℕ) (j v : ℕ) (l : RateLimits) → AreAtMost limits rates → slice_get limits j ≡ Some l → v ≤ l.greatest → AreAtMost limits (slice_set rates j v)
most_set limits [] j v l most at low i m there = most i m there
most_set [] (r ∷ rates) j v l most at low i m there = absurd cc
most_set (x ∷ limits) (r ∷ rates) zero v l most at low zero m there = subst (λ (y : RateLimits). v ≤ y.greatest) (same_Some l m (sym at ∙ there)) low
most_set (x ∷ limits) (r ∷ rates) zero v l most at low (suc i) m there = most (suc i) m there
most_set (x ∷ limits) (r ∷ rates) (suc j) v l most at low zero m there = most 0 m there
most_set (x ∷ limits) (r ∷ rates) (suc j) v l most at low (suc i) m there = most_set limits rates j v l (λ k n a. most (suc k) n a) at low i m there

rate_keeps : (own : Names) (Q : (cells samples : List ℤ) → Type 0) (s : State) (n least greatest start v : ℕ) → HasKept own Q s → slice_get own.things n ≡ Some (RateVar least greatest start) → v ≤ greatest → HasKept own Q (with_rate (rate_number own n) v s)
rate_keeps own Q s n least greatest start v has is low = record {
  kept = has.kept;
  most = most_set (rate_limits own) s.frame.rates (rate_number own n) v (record { least = least; greatest = greatest }) has.most (limits_placed own.things n least greatest start is) low;
}

module _ (scope : Scope) (sound : IsSound scope) (Q : (cells samples : List ℤ) → Type 0) (sets : ElementsKeep scope.own Q) where
  rates_stay : (s : State) (n k : ℕ) (t : Thing) (v : Raw) → (with_element scope.own n t k v s).frame.rates ≡ s.frame.rates
  rates_stay s n k (Var None a) v = refl
  rates_stay s n k (Var (Some shape) a) v = refl
  rates_stay s n k (Array None size a) v = refl
  rates_stay s n k (Array (Some shape) size a) v = refl
  rates_stay s n k (Port word None rate delay) v = refl
  rates_stay s n k (Port word (Some shape) rate delay) v = refl
  rates_stay s n k _ v = refl

  element_keeps : (s : State) (n k : ℕ) (t : Thing) (v : Raw) → HasKept scope.own Q s → slice_get scope.own.things n ≡ Some t → IsThingSound scope.own t → HasElement scope.own t k
      → HasKept scope.own Q (with_element scope.own n t k v s)
  element_keeps s n k t v has is legal below = record {
    kept = sets s n k t v has.kept is legal below;
    most = subst (AreAtMost (rate_limits scope.own)) (sym (rates_stay s n k t v)) has.most;
  }

  assigned_keeps : (s : State) (name : List ℕ) (k : ℕ) (v : Raw) → HasKept scope.own Q s → ((t : Thing) → thing_of scope.own name ≡ Some t → HasElement scope.own t k)
      → HasKept scope.own Q (assigned scope.own name (pos k) v s)
  assigned_keeps s name k v has there = go (place_of scope.own name) refl (thing_of scope.own name) refl
    where
      go : (o : Option ℕ) → place_of scope.own name ≡ o → (x : Option Thing) → thing_of scope.own name ≡ x → HasKept scope.own Q (assigned_at scope.own o x (pos k) v s)
      go None at x is = has
      go (Some n) at None is = has
      go (Some n) at (Some t) is =
          let here = found scope.own.things (place_of scope.own name) t is in
          let same : here.0 ≡ n = same_Some here.0 n (sym here.1 ∙ at) in
          element_keeps s n k t v has (ap (slice_get scope.own.things) (sym same) ∙ here.2) (thing_sound scope sound name t is) (there t is)

  -- a rate variable
  whole_keeps : (s : State) (n least greatest start frac : ℕ) (num : ℤ) → HasKept scope.own Q s → slice_get scope.own.things n ≡ Some (RateVar least greatest start)
      → HasKept scope.own Q (with_whole (rate_number scope.own n) (whole_within least greatest frac num) s)
  whole_keeps s n least greatest start frac (negsuc m) has is = record { kept = has.kept; most = has.most }
  whole_keeps s n least greatest start frac (pos m) has is =
      go (nat_eq (m % 2 ^ frac) 0 && (nat_le least (m / 2 ^ frac) && nat_le (m / 2 ^ frac) greatest)) refl
    where
      go : (b : Bool) → nat_eq (m % 2 ^ frac) 0 && (nat_le least (m / 2 ^ frac) && nat_le (m / 2 ^ frac) greatest) ≡ b
          → HasKept scope.own Q (with_whole (rate_number scope.own n) (if b then Some (m / 2 ^ frac) else None) s)
      go false e = record { kept = has.kept; most = has.most }
      go true e = rate_keeps scope.own Q s n least greatest start (m / 2 ^ frac) has is (high (nat_eq (m % 2 ^ frac) 0) least (m / 2 ^ frac) greatest e)
        where
          high : (a : Bool) (l x g : ℕ) → a && (nat_le l x && nat_le x g) ≡ true → x ≤ g
          high a l x g e = grind (arith, nat_tests)

  set_keeps : (s : State) (name : List ℕ) (v : Raw) → HasKept scope.own Q s → HasKept scope.own Q (rate_set scope.own (place_of scope.own name) (thing_of scope.own name) v s)
  set_keeps s name v has = go (place_of scope.own name) refl (thing_of scope.own name) refl
    where
      go : (o : Option ℕ) → place_of scope.own name ≡ o → (x : Option Thing) → thing_of scope.own name ≡ x → HasKept scope.own Q (rate_set scope.own o x v s)
      go None at x is = has
      go (Some n) at None is = has
      go (Some n) at (Some (RateVar least greatest start)) is =
          let here = found scope.own.things (place_of scope.own name) (RateVar least greatest start) is in
          let same : here.0 ≡ n = same_Some here.0 n (sym here.1 ∙ at) in
          whole_keeps s n least greatest start v.frac v.num has (ap (slice_get scope.own.things) (sym same) ∙ here.2)
      go (Some n) at (Some _) is = has

  -- the limit of a loop
  rate_low : (s : State) → HasKept scope.own Q s → (name : List ℕ) (x : IsRateVar scope name) → rate_of scope.own s name ≤ x.greatest
  rate_low s has name x =
      let bound = has.most (rate_number scope.own x.n) (record { least = x.least; greatest = x.greatest }) (limits_placed scope.own.things x.n x.least x.greatest x.start x.is) in
      subst (λ (o : Option ℕ). rate_at scope.own s o ≤ x.greatest) (sym x.at) bound

  limit_low : (s : State) → HasKept scope.own Q s → (loops : List OpenLoop) (line : ℕ) (end : Limit) → limit_faults scope loops line end ≡ []
      → (limit_value scope.own s end ≤ greatest_of scope.own end) × (greatest_of scope.own end ≤ greatest_rate)
  unfolding greatest_of
  limit_low s has loops line (limit.Int n) none = (omega arith, grind (arith, nat_tests, if_none (nat_lt greatest_rate n) code.Limit line none))
  limit_low s has loops line (limit.Var r) none =
      let x = rate_var scope sound loops r line none in
      let greatest : greatest_rate_of (thing_of scope.own r) ≡ x.greatest = ap greatest_rate_of x.thing in
      let low = rate_low s has r x in
      (omega (arith, low, greatest), omega (arith, x.most, greatest))
  limit_low s has loops line (limit.Times c r) none =
      let x = rate_var scope sound loops r line (none_first _ _ none) in
      let greatest : greatest_rate_of (thing_of scope.own r) ≡ x.greatest = ap greatest_rate_of x.thing in
      let low = rate_low s has r x in
      let few = if_none (nat_lt c 1 || (nat_lt greatest_rate c || nat_lt greatest_rate (greatest_of scope.own (limit.Times c r)))) code.Limit line
      (none_second (kind_faults place.Limit (named scope loops r) line) (multiple_faults scope line c (limit.Times c r)) none) in
      (mul-le-mul_left c (omega (arith, low, greatest)), bound (nat_lt c 1) (nat_lt greatest_rate c) (greatest_of scope.own (limit.Times c r)) few)
    where
      bound : (a b : Bool) (g : ℕ) → a || (b || nat_lt greatest_rate g) ≡ false → g ≤ greatest_rate
      bound a b g e = grind (arith, nat_tests)

  assign_keeps : (loops : List OpenLoop) (turns : List ℕ) (s : State) → HasKept scope.own Q s → LoopsFit scope.own loops turns → (body : Part) (line : ℕ) (name : List ℕ) (o : Option Index) (v : Raw)
      → target_faults scope loops body line (named scope loops name) o ≡ [] → HasKept scope.own Q (assigned scope.own name (target_index loops turns o) v s)
  assign_keeps loops turns s has lf body line name None v none =
      assigned_keeps s name 0 v has (λ t is. first_element scope sound t (thing_sound scope sound name t is))
  assign_keeps loops turns s has lf body line name (Some i) v none =
      let x = target_element scope loops turns sound lf body line name i none in
      subst (λ (z : ℤ). HasKept scope.own Q (assigned scope.own name z v s)) (sym x.value)
      (assigned_keeps s name x.place v has
      (λ t is. subst (λ (u : Thing). HasElement scope.own u x.place) (same_Some x.thing t (sym x.is ∙ is)) (has_element scope x.thing x.size x.place x.sized x.below)))

  noticed_keeps : (s : State) (o : Option ℕ) (time : ℕ) → HasKept scope.own Q s → HasKept scope.own Q (noticed_at scope.own o time s)
  noticed_keeps s None time has = has
  noticed_keeps s (Some n) time has = record { kept = has.kept; most = has.most }

  stepped_keeps : (s : State) (o : Option ℕ) (step : ℕ) → HasKept scope.own Q s → HasKept scope.own Q (stepped_at scope.own o step s)
  stepped_keeps s None step has = has
  stepped_keeps s (Some n) step has = record { kept = has.kept; most = has.most }

  step_keeps : (s : State) (port : Option (List ℕ)) (step : ℕ) → HasKept scope.own Q s → HasKept scope.own Q (step_assigned scope.own port step s)
  step_keeps s None step has = record { kept = has.kept; most = has.most }
  step_keeps s (Some port) step has = stepped_keeps s (place_of scope.own port) step has

  turns_keep : (turn : ℕ → State → State) (from count : ℕ) → ((i : ℕ) (s : State) → from ≤ i → i < from + count → HasKept scope.own Q s → HasKept scope.own Q (turn i s))
      → (s : State) → HasKept scope.own Q s → HasKept scope.own Q (repeated turn from count s)
  turns_keep turn from zero one s has = has
  turns_keep turn from (suc count) one s has =
      one (from + count) (repeated turn from count s) (omega arith) (omega arith) (turns_keep turn from count (λ i t low high. one i t low (omega (arith, high))) s has)

  mutual
    stmt_keeps : (loops : List OpenLoop) (body : Part) (x : PureStmt) (turns : List ℕ) (s : State) → stmt_faults scope body loops x ≡ [] → HasKept scope.own Q s → LoopsFit scope.own loops turns
        → HasKept scope.own Q (after scope loops turns x s)
    stmt_keeps loops body (SAssign line name i e) turns s none has lf = assign_keeps loops turns s has lf body line name i (value scope loops turns s e) (none_first _ _ none)
    stmt_keeps loops body (SIf line test a b) turns s none has lf =
        let rest = none_second (expr_faults scope loops body line test) _ none in
        choose (holds (value scope loops turns s test)) (stmts_keep loops body a turns s (none_first _ _ rest) has lf) (stmts_keep loops body b turns s (none_second (stmts_faults scope body loops a) _ rest) has lf)
      where
        choose : (t : Bool) → HasKept scope.own Q (after_all scope loops turns a s) → HasKept scope.own Q (after_all scope loops turns b s)
            → HasKept scope.own Q (if t then after_all scope loops turns a s else after_all scope loops turns b s)
        choose true p q = p
        choose false p q = q
    stmt_keeps loops body (SFor line name from end inner) turns s none has lf =
        let bound = limit_low s has loops line end (none_first _ _ none) in
        let rest = none_second (limit_faults scope loops line end) _ none in
        turns_keep (λ i t. after_all scope (loops ++ opened name from end ∷ []) (turns ++ i ∷ []) inner t) from (limit_value scope.own s end - from)
        (λ i t low high t_has. stmts_keep (loops ++ opened name from end ∷ []) body inner (turns ++ i ∷ []) t (none_second _ _ rest) t_has
        (loops_more scope.own loops turns name from i end lf low (let b = bound.0 in omega (arith, low, high, b)) bound.1)) s has
    stmt_keeps loops body (SNotify line event time) turns s none has lf = noticed_keeps s (place_of scope.own event) time has
    stmt_keeps loops body (SSetRate line name e) turns s none has lf = set_keeps s name (value scope loops turns s e) has
    stmt_keeps loops body (SSetStep line port step) turns s none has lf = step_keeps s port step has
    stmt_keeps loops body (SAccept line) turns s none has lf = record { kept = has.kept; most = has.most }
    stmt_keeps loops body (SReject line) turns s none has lf = record { kept = has.kept; most = has.most }

    stmts_keep : (loops : List OpenLoop) (body : Part) (xs : PureStmts) (turns : List ℕ) (s : State) → stmts_faults scope body loops xs ≡ [] → HasKept scope.own Q s → LoopsFit scope.own loops turns
        → HasKept scope.own Q (after_all scope loops turns xs s)
    stmts_keep loops body Done turns s none has lf = has
    stmts_keep loops body (More x xs) turns s none has lf =
        stmts_keep loops body xs turns (after scope loops turns x s) (none_second (stmt_faults scope body loops x) _ none) (stmt_keeps loops body x turns s (none_first _ _ none) has lf) lf

-- ---- blocks

-- the block of a model at a place, and what is kept of it
pub record IsKeptBlock (globals : Names) (p : PureBlock) (o : Option Block) : Type 0 where
  pub block : Block
  pub at : o ≡ Some block
  pub is : IsBlockOf (scope_of globals p) p block

pub kept_at : (globals : Names) (ps : List PureBlock) (bs : List Block) (n : ℕ) (p : PureBlock) → AreBlocksOf globals ps bs → slice_get ps n ≡ Some p → IsKeptBlock globals p (slice_get bs n)
kept_at globals [] bs n p are at = absurd cc
kept_at globals (q ∷ ps) [] n p are at = absurd are
kept_at globals (q ∷ ps) (b ∷ bs) zero p are at = subst (λ (x : PureBlock). IsKeptBlock globals x (Some b)) (same_Some q p at) (record { block = b; at = refl; is = are.0 })
kept_at globals (q ∷ ps) (b ∷ bs) (suc n) p are at = kept_at globals ps bs n p are.1 at

no_loops : (own : Names) → LoopsFit own [] []
no_loops own = record { long = refl; each = λ d l at. absurd cc }

-- a body of a block, with no rate too great
module _ (globals : Names) (block : PureBlock) (o : Option Block) (k : IsKeptBlock globals block o) (Q : (cells samples : List ℤ) → Type 0) (sets : ElementsKeep (scope_of globals block).own Q) where
  pub body_keeps : (part : Body) (s : State) → AreAtMost (map limits_of_rate (block_rates o)) s.frame.rates → Q s.frame.cells s.ports.samples
      → Q (after_body (scope_of globals block) (body_of block part) s).frame.cells (after_body (scope_of globals block) (body_of block part) s).ports.samples
  body_keeps part s most fits =
      let own = (scope_of globals block).own in
      let limits : map limits_of_rate (block_rates o) ≡ rate_limits own = ap (λ x. map limits_of_rate (block_rates x)) k.at ∙ ap (map limits_of_rate) k.is.rates ∙ sym (limits_same own.things) in
      let faultless = k.is.faultless part in
      let done = stmts_keep (scope_of globals block) k.is.sound Q sets [] faultless.body (body_of block part) [] s faultless.none
      (record { kept = fits; most = subst (λ l. AreAtMost l s.frame.rates) limits most }) (no_loops own) in
      done.kept
