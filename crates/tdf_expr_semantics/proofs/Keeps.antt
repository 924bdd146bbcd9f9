-- Statements without a fault leave a state that fits.
use Rattle.std.proofs.Common.{◌≡◌, ◌∙◌, ℕ, zero, suc, ◌+◌, ◌-◌, ◌/◌, ◌%◌, ◌^◌, ◌≤◌, ◌<◌, Bool, true, false, List, [], ◌∷◌, ◌++◌, Option, Some, None, length, refl, sym, ap, subst, arith, ℤ, pos, negsuc}
use Rattle.std.proofs.Math.Nat.{mul-le-mul_left}
use Rattle.std.proofs.lemmas.Bool.Decides.{nat_tests}
use Rattle.std.proofs.lemmas.List.{length-set, length-append}
use Rattle.std.specs.Prelude.{◌&&◌, ◌||◌, nat_eq, nat_le, nat_lt, if◌then◌else◌, slice_get, slice_index}
use Rattle.tdf_base.specs.Limits.{greatest_rate as most_rate}
use Rattle.tdf_base.specs.declared.codes.Code.TheVariants as code
use Rattle.tdf_base.proofs.Api.{if_none, none_first, none_second}
use Rattle.tdf_fixed.proofs.Api.{in_range}
use Rattle.tdf_fixed.specs.Overflow.{IsOfWidth}
use Rattle.tdf_fixed.specs.declared.raw.Raw.{Raw}
use Rattle.tdf_expr_semantics.proofs.Found.{found, thing_sound, of_kind}
use Rattle.tdf_expr_semantics.proofs.Indices.{inside}
use Rattle.tdf_expr_semantics.proofs.Placed.{placed, limits_placed}
use Rattle.tdf_expr_semantics.proofs.Sets.{numbers_set, rates_set}
use Rattle.tdf_expr_semantics.proofs.Widths.{own_of, has_element, first_element}
use Rattle.tdf_expr_semantics.specs.Bodies.{with_element, assigned_at, assigned, target_index, rate_at, rate_of, limit_value, whole_within, with_whole, rate_set, noticed_at, stepped_at, step_assigned, repeated, after, after_all}
use Rattle.tdf_expr_semantics.specs.Fits.{StateFits, LoopsFit}
use Rattle.tdf_expr_semantics.specs.Laws.{KeepsFits}
use Rattle.tdf_expr_semantics.specs.Places.{HasElement, cells_of, samples_of, first_cell, first_sample, port_number, rate_number, event_number, cell_shapes, sample_shapes, rate_limits}
use Rattle.tdf_expr_semantics.specs.Value.{value, cast_number, index_value, holds}
use Rattle.tdf_expr_symbols.specs.Faults.{expr_faults, stmts_faults, stmt_faults, target_faults, limit_faults, multiple_faults, opened}
use Rattle.tdf_expr_symbols.specs.Index.{size_of, kind_faults, index_faults}
use Rattle.tdf_expr_symbols.specs.Kinds.{is_allowed}
use Rattle.tdf_expr_symbols.specs.Names.{Names, Thing, Var, Array, Port, RateVar, Loop, found_at, place_of, thing_of, kind_of, shape_of}
use Rattle.std.specs.Option.{option_map}
use Rattle.tdf_expr_symbols.specs.Scope.{Scope, OpenLoop, named, loop_place, as_thing, first_some, greatest_of, greatest_rate_of}
use Rattle.tdf_expr_symbols.specs.Sound.{IsSound, IsThingSound}
use Rattle.tdf_expr_symbols.specs.declared.kinds.Part.{Part}
use Rattle.tdf_expr_symbols.specs.declared.kinds.Part.TheVariants as part
use Rattle.tdf_expr_symbols.specs.declared.kinds.Place.TheVariants as place
use Rattle.tdf_expr_state.specs.State.{State, with_cell, with_sample, with_rate, with_range_fault, with_step, with_answer, with_notice}
use Rattle.tdf_lang_tree.specs.Pure.{PureStmt, SAssign, SIf, SFor, SNotify, SSetRate, SSetStep, SAccept, SReject, Done, More}
use Rattle.tdf_lang_tree.specs.declared.blocks.PortKind.TheVariants.{In, Out, DeIn, DeOut}
use Rattle.tdf_lang_tree.specs.declared.expr.Index.{Index}
use Rattle.tdf_lang_tree.specs.declared.shapes.Shape.{Shape}
use Rattle.tdf_lang_tree.specs.declared.stmt.Limit.{Limit}
use Rattle.tdf_lang_tree.specs.declared.stmt.Limit.TheVariants as limit

-- one change of a state
module _ (own : Names) (s : State) (fits : StateFits own s) where
  pub cell_keeps : (j : ℕ) (num : ℤ) (shape : Shape) → slice_get (cell_shapes own) j ≡ Some (Some shape) → IsOfWidth shape.signed shape.wl num → StateFits own (with_cell j num s)
  cell_keeps j num shape at is_in =
      record { frame = record { cells = numbers_set (cell_shapes own) s.frame.cells j num shape fits.frame.cells at is_in; rates = fits.frame.rates }; ports = fits.ports }

  pub sample_keeps : (port j : ℕ) (num : ℤ) (shape : Shape) → slice_get (sample_shapes own) j ≡ Some (Some shape) → IsOfWidth shape.signed shape.wl num
      → StateFits own (with_sample port j num s)
  sample_keeps port j num shape at is_in = record {
    frame = fits.frame;
    ports = record {
      samples = numbers_set (sample_shapes own) s.ports.samples j num shape fits.ports.samples at is_in;
      assigned = length-set s.ports.assigned port true ∙ fits.ports.assigned;
      notified = fits.ports.notified;
      steps = fits.ports.steps;
    };
  }

  pub range_keeps : StateFits own (with_range_fault s)
  range_keeps = record {
    frame = fits.frame;
    ports = record { samples = fits.ports.samples; assigned = fits.ports.assigned; notified = fits.ports.notified; steps = fits.ports.steps };
  }

  pub answer_keeps : (so : Bool) → StateFits own (with_answer so s)
  answer_keeps so = record {
    frame = fits.frame;
    ports = record { samples = fits.ports.samples; assigned = fits.ports.assigned; notified = fits.ports.notified; steps = fits.ports.steps };
  }

  pub step_keeps : (place step : ℕ) → StateFits own (with_step place step s)
  step_keeps place step = record {
    frame = fits.frame;
    ports = record {
      samples = fits.ports.samples;
      assigned = fits.ports.assigned;
      notified = fits.ports.notified;
      steps = length-set s.ports.steps place (Some step) ∙ fits.ports.steps;
    };
  }

  pub notice_keeps : (event time : ℕ) → StateFits own (with_notice event time s)
  notice_keeps event time = record {
    frame = fits.frame;
    ports = record {
      samples = fits.ports.samples;
      assigned = fits.ports.assigned;
      notified = length-set s.ports.notified event _ ∙ fits.ports.notified;
      steps = fits.ports.steps;
    };
  }

  pub rate_keeps : (n least greatest start v : ℕ) → slice_get own.things n ≡ Some (RateVar least greatest start) → least ≤ v → v ≤ greatest
      → StateFits own (with_rate (rate_number own n) v s)
  rate_keeps n least greatest start v is low high = record {
    frame = record {
      cells = fits.frame.cells;
      rates = rates_set (rate_limits own) s.frame.rates (rate_number own n) v (record { least = least; greatest = greatest }) fits.frame.rates
          (limits_placed own.things n least greatest start is) low high;
    };
    ports = fits.ports;
  }

module _ (scope : Scope) (s : State) (sound : IsSound scope) (fits : StateFits scope.own s) where
  element_keeps : (n k : ℕ) (t : Thing) (v : Raw) → slice_get scope.own.things n ≡ Some t → IsThingSound scope.own t → HasElement scope.own t k
      → StateFits scope.own (with_element scope.own n t k v s)
  element_keeps n k (Var None a) v is holds below = absurd holds.0
  element_keeps n k (Var (Some shape) a) v is holds below =
      cell_keeps scope.own s fits (first_cell scope.own n + k) (cast_number shape v) shape (placed cells_of shape_of scope.own.things n k (Var (Some shape) a) is below)
      (in_range shape.over shape.signed shape.wl _ holds.0.some_bits)
  element_keeps n k (Array None size a) v is holds below = absurd holds.0
  element_keeps n k (Array (Some shape) size a) v is holds below =
      cell_keeps scope.own s fits (first_cell scope.own n + k) (cast_number shape v) shape (placed cells_of shape_of scope.own.things n k (Array (Some shape) size a) is below)
      (in_range shape.over shape.signed shape.wl _ holds.0.some_bits)
  element_keeps n k (Port word None rate delay) v is holds below = absurd holds.0
  element_keeps n k (Port word (Some shape) rate delay) v is holds below =
      sample_keeps scope.own s fits (port_number scope.own n) (first_sample scope.own n + k) (cast_number shape v) shape
      (placed (samples_of scope.own) shape_of scope.own.things n k (Port word (Some shape) rate delay) is below)
      (in_range shape.over shape.signed shape.wl _ holds.0.some_bits)
  element_keeps n k _ v is holds below = fits

  assigned_keeps : (name : List ℕ) (k : ℕ) (v : Raw) → ((t : Thing) → thing_of scope.own name ≡ Some t → HasElement scope.own t k)
      → StateFits scope.own (assigned scope.own name (pos k) v s)
  assigned_keeps name k v has = go (place_of scope.own name) refl (thing_of scope.own name) refl
    where
      go : (o : Option ℕ) → place_of scope.own name ≡ o → (x : Option Thing) → thing_of scope.own name ≡ x → StateFits scope.own (assigned_at scope.own o x (pos k) v s)
      go None at x is = fits
      go (Some n) at None is = fits
      go (Some n) at (Some t) is =
          let here = found scope.own.things (place_of scope.own name) t is in
          let same : here.0 ≡ n = ap (λ (o : Option ℕ). held o) (sym here.1 ∙ at) in
          element_keeps n k t v (ap (slice_get scope.own.things) (sym same) ∙ here.2) (thing_sound scope sound name t is) (has t is)
        where
          held : Option ℕ → ℕ
          held None = n
          held (Some m) = m

  whole_keeps : (n least greatest start frac : ℕ) (num : ℤ) → slice_get scope.own.things n ≡ Some (RateVar least greatest start)
      → StateFits scope.own (with_whole (rate_number scope.own n) (whole_within least greatest frac num) s)
  whole_keeps n least greatest start frac (negsuc m) is = range_keeps scope.own s fits
  whole_keeps n least greatest start frac (pos m) is =
      go (nat_eq (m % 2 ^ frac) 0 && (nat_le least (m / 2 ^ frac) && nat_le (m / 2 ^ frac) greatest)) refl
    where
      go : (b : Bool) → nat_eq (m % 2 ^ frac) 0 && (nat_le least (m / 2 ^ frac) && nat_le (m / 2 ^ frac) greatest) ≡ b
          → StateFits scope.own (with_whole (rate_number scope.own n) (if b then Some (m / 2 ^ frac) else None) s)
      go false e = range_keeps scope.own s fits
      go true e =
          rate_keeps scope.own s fits n least greatest start (m / 2 ^ frac) is (low (nat_eq (m % 2 ^ frac) 0) least (m / 2 ^ frac) greatest e)
          (high (nat_eq (m % 2 ^ frac) 0) least (m / 2 ^ frac) greatest e)
        where
          low : (a : Bool) (l x g : ℕ) → a && (nat_le l x && nat_le x g) ≡ true → l ≤ x
          low a l x g e = grind (arith, nat_tests)

          high : (a : Bool) (l x g : ℕ) → a && (nat_le l x && nat_le x g) ≡ true → x ≤ g
          high a l x g e = grind (arith, nat_tests)

  set_keeps : (name : List ℕ) (v : Raw) → StateFits scope.own (rate_set scope.own (place_of scope.own name) (thing_of scope.own name) v s)
  set_keeps name v = go (place_of scope.own name) refl (thing_of scope.own name) refl
    where
      go : (o : Option ℕ) → place_of scope.own name ≡ o → (x : Option Thing) → thing_of scope.own name ≡ x → StateFits scope.own (rate_set scope.own o x v s)
      go None at x is = fits
      go (Some n) at None is = fits
      go (Some n) at (Some (RateVar least greatest start)) is =
          let here = found scope.own.things (place_of scope.own name) (RateVar least greatest start) is in
          let same : here.0 ≡ n = ap (λ (o : Option ℕ). held o) (sym here.1 ∙ at) in
          whole_keeps n least greatest start v.frac v.num (ap (slice_get scope.own.things) (sym same) ∙ here.2)
        where
          held : Option ℕ → ℕ
          held None = n
          held (Some m) = m
      go (Some n) at (Some _) is = fits

-- the limit of a loop without a fault: at most its greatest value, and that at most 4,096
pub record IsLimit (scope : Scope) (s : State) (end : Limit) : Type 0 where
  pub high : limit_value scope.own s end ≤ greatest_of scope.own end
  pub most : greatest_of scope.own end ≤ most_rate

-- a rate variable that a limit may name
pub rate_kind : (t : Thing) → is_allowed place.Limit (Some (kind_of t)) ≡ true → (least : ℕ) × (greatest : ℕ) × (start : ℕ) × (t ≡ RateVar least greatest start)
unfolding is_allowed
rate_kind (RateVar least greatest start) e = (least, greatest, start, refl)
rate_kind (Port In a b c) e = absurd cc
rate_kind (Port Out a b c) e = absurd cc
rate_kind (Port DeIn a b c) e = absurd cc
rate_kind (Port DeOut a b c) e = absurd cc
rate_kind _ e = absurd cc

-- a rate variable isn't a loop variable
pub rate_own : (scope : Scope) (loops : List OpenLoop) (name : List ℕ) (least greatest start : ℕ) → named scope loops name ≡ Some (RateVar least greatest start)
    → thing_of scope.own name ≡ Some (RateVar least greatest start)
unfolding named
rate_own scope loops name least greatest start is = go (found_at loops (loop_place loops name)) is
  where
    rate_is : Option Thing → Type 0
    rate_is (Some (Loop a b)) = ⊥
    rate_is _ = Unit {0}

    go : (o : Option OpenLoop) → first_some (option_map as_thing o) (thing_of scope.own name) ≡ Some (RateVar least greatest start)
        → thing_of scope.own name ≡ Some (RateVar least greatest start)
    go None e = e
    go (Some l) e = absurd (subst rate_is (sym e) tt)

-- the rate variable of a limit without a fault
pub record IsRateVar (scope : Scope) (name : List ℕ) : Type 0 where
  pub n : ℕ
  pub least : ℕ
  pub greatest : ℕ
  pub start : ℕ
  pub at : place_of scope.own name ≡ Some n
  pub is : slice_get scope.own.things n ≡ Some (RateVar least greatest start)
  pub thing : thing_of scope.own name ≡ Some (RateVar least greatest start)
  pub most : greatest ≤ most_rate
  pub low : 1 ≤ least
  pub order : least ≤ greatest

pub rate_var : (scope : Scope) → IsSound scope → (loops : List OpenLoop) (name : List ℕ) (line : ℕ) → kind_faults place.Limit (named scope loops name) line ≡ []
    → IsRateVar scope name
rate_var scope sound loops name line none =
    let kind = of_kind place.Limit (named scope loops name) line none in
    let rate = rate_kind kind.thing kind.allowed in
    let is = rate_own scope loops name rate.0 rate.1 rate.2 (kind.is ∙ ap (λ (t : Thing). Some t) rate.3) in
    let here = found scope.own.things (place_of scope.own name) (RateVar rate.0 rate.1 rate.2) is in
    let holds = thing_sound scope sound name (RateVar rate.0 rate.1 rate.2) is in
    record {
      n = here.0;
      least = rate.0;
      greatest = rate.1;
      start = rate.2;
      at = here.1;
      is = here.2;
      thing = is;
      most = holds.3;
      low = holds.0;
      order = omega (arith, holds.1, holds.2);
    }

-- the value of a rate variable is within its limits
pub rate_within : (scope : Scope) (s : State) → StateFits scope.own s → (name : List ℕ) (x : IsRateVar scope name)
    → (x.least ≤ rate_of scope.own s name) × (rate_of scope.own s name ≤ x.greatest)
rate_within scope s fits name x =
    let bounds = fits.frame.rates.each (rate_number scope.own x.n) (record { least = x.least; greatest = x.greatest })
    (limits_placed scope.own.things x.n x.least x.greatest x.start x.is) in
    subst (λ (o : Option ℕ). (x.least ≤ rate_at scope.own s o) × (rate_at scope.own s o ≤ x.greatest)) (sym x.at) bounds

pub is_limit : (scope : Scope) (s : State) → IsSound scope → StateFits scope.own s → (loops : List OpenLoop) (line : ℕ) (end : Limit)
    → limit_faults scope loops line end ≡ [] → IsLimit scope s end
unfolding greatest_of
is_limit scope s sound fits loops line (limit.Int n) none = record { high = omega arith; most = grind (arith, nat_tests, if_none (nat_lt most_rate n) code.Limit line none) }
is_limit scope s sound fits loops line (limit.Var r) none =
    let x = rate_var scope sound loops r line none in
    let greatest : greatest_rate_of (thing_of scope.own r) ≡ x.greatest = ap greatest_rate_of x.thing in
    record { high = omega (arith, (rate_within scope s fits r x).1, greatest); most = omega (arith, x.most, greatest) }
is_limit scope s sound fits loops line (limit.Times c r) none =
    let x = rate_var scope sound loops r line (none_first _ _ none) in
    let greatest : greatest_rate_of (thing_of scope.own r) ≡ x.greatest = ap greatest_rate_of x.thing in
    let few = if_none (nat_lt c 1 || (nat_lt most_rate c || nat_lt most_rate (greatest_of scope.own (limit.Times c r)))) code.Limit line
    (none_second (kind_faults place.Limit (named scope loops r) line) (multiple_faults scope line c (limit.Times c r)) none) in
    record {
      high = mul-le-mul_left c (omega (arith, (rate_within scope s fits r x).1, greatest));
      most = bound (nat_lt c 1) (nat_lt most_rate c) (greatest_of scope.own (limit.Times c r)) few;
    }
  where
    bound : (a b : Bool) (g : ℕ) → a || (b || nat_lt most_rate g) ≡ false → g ≤ most_rate
    bound a b g e = grind (arith, nat_tests)

-- what holds of each loop and its turn, with one loop more
each_more : (P : OpenLoop → ℕ → Type 0) (loops : List OpenLoop) (turns : List ℕ) (x : OpenLoop) (i : ℕ) → length turns ≡ length loops
    → ((d : ℕ) (l : OpenLoop) → slice_get loops d ≡ Some l → P l (slice_index turns d)) → P x i
    → (d : ℕ) (l : OpenLoop) → slice_get (loops ++ x ∷ []) d ≡ Some l → P l (slice_index (turns ++ i ∷ []) d)
each_more P [] [] x i long each holds zero l is = subst (λ (y : OpenLoop). P y i) (ap held is) holds
  where
    held : Option OpenLoop → OpenLoop
    held None = x
    held (Some y) = y
each_more P [] [] x i long each holds (suc d) l is = absurd cc
each_more P [] (t ∷ turns) x i long each holds d l is = absurd (omega (arith, long))
each_more P (y ∷ loops) [] x i long each holds d l is = absurd (omega (arith, long))
each_more P (y ∷ loops) (t ∷ turns) x i long each holds zero l is = each zero l is
each_more P (y ∷ loops) (t ∷ turns) x i long each holds (suc d) l is =
    each_more P loops turns x i (omega (arith, long)) (λ e m at. each (suc e) m at) holds d l is

-- a turn more
pub loops_more : (own : Names) (loops : List OpenLoop) (turns : List ℕ) (name : List ℕ) (from i : ℕ) (end : Limit) → LoopsFit own loops turns → from ≤ i
    → i < greatest_of own end → greatest_of own end ≤ most_rate → LoopsFit own (loops ++ opened name from end ∷ []) (turns ++ i ∷ [])
loops_more own loops turns name from i end fits low high most = record {
  long = omega (arith, fits.long, length-append loops (opened name from end ∷ []), length-append turns (i ∷ []));
  each = each_more (λ l n. (l.from ≤ n) × (n < greatest_of own l.end) × (greatest_of own l.end ≤ most_rate)) loops turns (opened name from end) i
      fits.long fits.each (low, high, most);
}

-- turns that each keep what fits keep it together
turns_keep : (own : Names) (turn : ℕ → State → State) (from count : ℕ)
    → ((i : ℕ) (s : State) → from ≤ i → i < from + count → StateFits own s → StateFits own (turn i s))
    → (s : State) → StateFits own s → StateFits own (repeated turn from count s)
turns_keep own turn from zero one s fits = fits
turns_keep own turn from (suc count) one s fits =
    one (from + count) (repeated turn from count s) (omega arith) (omega arith)
    (turns_keep own turn from count (λ i t low high. one i t low (omega (arith, high))) s fits)

stepped_keeps : (own : Names) (s : State) (port : Option (List ℕ)) (step : ℕ) → StateFits own s → StateFits own (step_assigned own port step s)
stepped_keeps own s None step fits = step_keeps own s fits 0 step
stepped_keeps own s (Some port) step fits = go (place_of own port)
  where
    go : (o : Option ℕ) → StateFits own (stepped_at own o step s)
    go None = fits
    go (Some n) = step_keeps own s fits (1 + port_number own n) step

noticed_keeps : (own : Names) (s : State) (o : Option ℕ) (time : ℕ) → StateFits own s → StateFits own (noticed_at own o time s)
noticed_keeps own s None time fits = fits
noticed_keeps own s (Some n) time fits = notice_keeps own s fits (event_number own n) time

-- an array or a port that is assigned with an index
target_element_kind : (body : Part) (t : Thing) → is_allowed (place.TargetElement body) (Some (kind_of t)) ≡ true → (size : Limit) × (size_of (Some t) ≡ Some size)
unfolding is_allowed
target_element_kind body (Array shape size starts) e = (limit.Int size, refl)
target_element_kind body (Port word shape rate delay) e = (rate, refl)
target_element_kind part.Initialize _ e = absurd cc
target_element_kind part.Processing _ e = absurd cc
target_element_kind part.Change _ e = absurd cc
target_element_kind part.Reinitialize _ e = absurd cc
target_element_kind part.Process _ e = absurd cc

-- what an element that is assigned is
pub record IsElement (scope : Scope) (loops : List OpenLoop) (turns : List ℕ) (name : List ℕ) (i : Index) : Type 0 where
  pub thing : Thing
  pub size : Limit
  pub named_is : named scope loops name ≡ Some thing
  pub is : thing_of scope.own name ≡ Some thing
  pub sized : size_of (Some thing) ≡ Some size
  pub place : ℕ
  pub value : index_value loops turns i ≡ pos place
  pub below : place < greatest_of scope.own size

pub target_element : (scope : Scope) (loops : List OpenLoop) (turns : List ℕ) → IsSound scope → LoopsFit scope.own loops turns → (body : Part) (line : ℕ) (name : List ℕ) (i : Index)
    → target_faults scope loops body line (named scope loops name) (Some i) ≡ [] → IsElement scope loops turns name i
target_element scope loops turns sound fits body line name i none =
    let kind = of_kind (place.TargetElement body) (named scope loops name) line (none_first _ _ none) in
    let size = target_element_kind body kind.thing kind.allowed in
    let outside = none_second (kind_faults (place.TargetElement body) (named scope loops name) line) (index_faults scope loops line (named scope loops name) i) none in
    let at = inside scope loops line kind.thing size.0 i turns sound size.1
    (ap (λ (o : Option Thing). index_faults scope loops line o i) (sym kind.is) ∙ outside) fits in
    record {
      thing = kind.thing;
      size = size.0;
      named_is = kind.is;
      is = own_of scope loops name kind.thing size.0 kind.is size.1;
      sized = size.1;
      place = at.place;
      value = at.is;
      below = at.below;
    }

assign_keeps : (scope : Scope) (loops : List OpenLoop) (turns : List ℕ) (s : State) → IsSound scope → StateFits scope.own s → LoopsFit scope.own loops turns
    → (body : Part) (line : ℕ) (name : List ℕ) (o : Option Index) (v : Raw) → target_faults scope loops body line (named scope loops name) o ≡ []
    → StateFits scope.own (assigned scope.own name (target_index loops turns o) v s)
assign_keeps scope loops turns s sound fits lf body line name None v none =
    assigned_keeps scope s sound fits name 0 v (λ t is. first_element scope sound t (thing_sound scope sound name t is))
assign_keeps scope loops turns s sound fits lf body line name (Some i) v none =
    let x = target_element scope loops turns sound lf body line name i none in
    subst (λ (z : ℤ). StateFits scope.own (assigned scope.own name z v s)) (sym x.value)
    (assigned_keeps scope s sound fits name x.place v
    (λ t is. subst (λ (u : Thing). HasElement scope.own u x.place) (held_is t (sym x.is ∙ is)) (has_element scope x.thing x.size x.place x.sized x.below)))
  where
    held_is : (t : Thing) → Some (target_element scope loops turns sound lf body line name i none).thing ≡ Some t → (target_element scope loops turns sound lf body line name i none).thing ≡ t
    held_is t e = ap (λ (o : Option Thing). held o) e
      where
        held : Option Thing → Thing
        held None = t
        held (Some y) = y

mutual
  keeps_stmt : (scope : Scope) (loops : List OpenLoop) (body : Part) (x : PureStmt) (turns : List ℕ) (s : State) → IsSound scope → stmt_faults scope body loops x ≡ []
      → StateFits scope.own s → LoopsFit scope.own loops turns → StateFits scope.own (after scope loops turns x s)
  keeps_stmt scope loops body (SAssign line name i e) turns s sound none fits lf =
      assign_keeps scope loops turns s sound fits lf body line name i (value scope loops turns s e) (none_first _ _ none)
  keeps_stmt scope loops body (SIf line test a b) turns s sound none fits lf =
      let rest = none_second (expr_faults scope loops body line test) _ none in
      go (holds (value scope loops turns s test))
      (keeps scope loops body a turns s sound (none_first _ _ rest) fits lf)
      (keeps scope loops body b turns s sound (none_second (stmts_faults scope body loops a) _ rest) fits lf)
    where
      go : (t : Bool) → StateFits scope.own (after_all scope loops turns a s) → StateFits scope.own (after_all scope loops turns b s)
          → StateFits scope.own (if t then after_all scope loops turns a s else after_all scope loops turns b s)
      go true p q = p
      go false p q = q
  keeps_stmt scope loops body (SFor line name from end inner) turns s sound none fits lf =
      let bound = is_limit scope s sound fits loops line end (none_first _ _ none) in
      let rest = none_second (limit_faults scope loops line end) _ none in
      turns_keep scope.own (λ i t. after_all scope (loops ++ opened name from end ∷ []) (turns ++ i ∷ []) inner t) from (limit_value scope.own s end - from)
      (λ i t low high t_fits. keeps scope (loops ++ opened name from end ∷ []) body inner (turns ++ i ∷ []) t sound (none_second _ _ rest) t_fits
      (loops_more scope.own loops turns name from i end lf low (omega (arith, low, high, bound.high)) bound.most))
      s fits
  keeps_stmt scope loops body (SNotify line event time) turns s sound none fits lf = noticed_keeps scope.own s (place_of scope.own event) time fits
  keeps_stmt scope loops body (SSetRate line name e) turns s sound none fits lf = set_keeps scope s sound fits name (value scope loops turns s e)
  keeps_stmt scope loops body (SSetStep line port step) turns s sound none fits lf = stepped_keeps scope.own s port step fits
  keeps_stmt scope loops body (SAccept line) turns s sound none fits lf = answer_keeps scope.own s fits true
  keeps_stmt scope loops body (SReject line) turns s sound none fits lf = answer_keeps scope.own s fits false

  pub keeps : KeepsFits
  keeps scope loops body Done turns s sound none fits lf = fits
  keeps scope loops body (More x xs) turns s sound none fits lf =
      keeps scope loops body xs turns (after scope loops turns x s) sound (none_second (stmt_faults scope body loops x) _ none)
      (keeps_stmt scope loops body x turns s sound (none_first _ _ none) fits lf) lf
