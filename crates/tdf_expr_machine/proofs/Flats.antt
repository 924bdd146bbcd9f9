-- Flat code for expressions and for statements.
use Rattle.std.proofs.Common.{◌≡◌, ◌∙◌, ℕ, zero, suc, ◌+◌, ◌-◌, ◌*◌, ◌<◌, ◌≤◌, Box, Global, IfOk, Ok, Err, Result, List, [], ◌∷◌, ◌++◌, ℤ, pos, ◌+ℤ◌, ◌-ℤ◌, ◌*ℤ◌, ◌^◌, length, take, take-suc, refl, sym, ap, subst, arith, append_assoc}
use Rattle.std.proofs.Math.ListN.{get_or}
use Rattle.std.proofs.lemmas.Int.{ints, unsigned_abs-mul}
use Rattle.std.proofs.lemmas.List.{take_all}
use Rattle.std.specs.Int.{w64}
use Rattle.std.specs.Prelude.{unsigned_abs, FitsSigned}
use Rattle.tdf_expr_flat.proofs.Api.{steps_append, safe_append}
use Rattle.tdf_expr_flat.specs.Flat.{AreSafeSteps, Hand, IsBoundedCut, IsFit, hand_of, operand_value, after_steps, after_step}
use Rattle.tdf_expr_flat.specs.declared.steps.Fit.{Fit}
use Rattle.tdf_expr_flat.specs.declared.steps.Operand.{Operand}
use Rattle.tdf_expr_flat.specs.declared.steps.Operand.TheVariants as operand
use Rattle.tdf_expr_flat.specs.declared.steps.Operation.{Operation}
use Rattle.tdf_expr_flat.specs.declared.steps.Operation.TheVariants as operation
use Rattle.tdf_expr_machine.proofs.Bits.{fits, has_bits, raised_bits, short_raised}
use Rattle.tdf_expr_machine.proofs.InOrder.{acted_append, safe_first, safe_second}
use Rattle.tdf_expr_machine.specs.Acts.{acted, IsSafeAct}
use Rattle.tdf_expr_machine.specs.Nodes.{IsCastable, IsSafe, node_value}
use Rattle.tdf_expr_machine.specs.Sequences.{acted_all, AreSafeAll, IsSequence}
use Rattle.tdf_expr_machine.specs.declared.acts.Act.{Act}
use Rattle.tdf_expr_machine.specs.declared.acts.Act.TheVariants as variant
use Rattle.tdf_expr_machine.specs.declared.acts.CastNode.{CastNode}
use Rattle.tdf_expr_machine.specs.declared.nodes.Node.{Node}
use Rattle.tdf_expr_machine.specs.declared.nodes.Node.TheVariants as leaf
use Rattle.tdf_expr_machine.specs.declared.nodes.Node.TheViews as view
use Rattle.tdf_expr_machine.specs.declared.spots.Spot.TheVariants as spot
use Rattle.tdf_expr_machine.specs.machine.Flattening.{FitsRaised, GoesOn, IsCodeOf, IsFlatOf, IsOperandOf, TakesCast, TakesValue}
use Rattle.tdf_expr_machine.specs.machine.Steps.{IsNarrow, StepsFit}
use Rattle.tdf_expr_state.specs.State.{State, cell_at, with_cell, with_sample}
use Rattle.tdf_fixed.proofs.Api.{placed_up}
use Rattle.tdf_fixed.specs.Cast.{cast_of, fraction_of}
use Rattle.tdf_fixed.specs.Overflow.{overflowed}
use Rattle.tdf_fixed.specs.declared.format.Format.{Format}

up_none : (n : ℤ) → n *ℤ pos (2 ^ 0) ≡ n
up_none n = omega (arith, ints)

pub if_ok_more : {A E : Type 0} {P Q : A → Type 0} → ((a : A) → P a → Q a) → (r : Result A E) → IfOk r P → IfOk r Q
if_ok_more more (Ok a) told = more a told
if_ok_more more (Err e) told = record {}

-- ---- operands

pub operand_cell : (node : Node) (place bits up most : ℕ) → node ≡ leaf.Cell place bits → bits + up ≤ most → most ≤ 60 → IsOperandOf node up (operand.Cell place up)
operand_cell node place bits up most is low few = subst (λ x. IsOperandOf x up (operand.Cell place up)) (sym is) (record {
  value = λ s loops. refl;
  there = λ s loops safe. (safe.0, short_raised (cell_at s.frame.cells place) bits up most low few (has_bits (cell_at s.frame.cells place) bits safe.1));
})

pub operand_sample : (node : Node) (place bits up most : ℕ) → node ≡ leaf.Sample place bits → bits + up ≤ most → most ≤ 60 → IsOperandOf node up (operand.Sample place up)
operand_sample node place bits up most is low few = subst (λ x. IsOperandOf x up (operand.Sample place up)) (sym is) (record {
  value = λ s loops. refl;
  there = λ s loops safe. (safe.0, short_raised (cell_at s.ports.samples place) bits up most low few (has_bits (cell_at s.ports.samples place) bits safe.1));
})

pub operand_number : (node : Node) (num moved : ℤ) (up : ℕ) → node ≡ leaf.Const num → moved ≡ num *ℤ pos (2 ^ up) → IsOperandOf node up (operand.Number moved)
operand_number node num moved up is same = subst (λ x. IsOperandOf x up (operand.Number moved)) (sym is) (record {
  value = λ s loops. same;
  there = λ s loops safe. record {};
})

-- ---- values

pub take_operand : (node : Node) (up : ℕ) (o : Operand) (old new : List Operation) → IsOperandOf node up o → new ≡ old ++ operation.Take o ∷ [] → GoesOn (TakesValue node up) old new
take_operand node up o old new is more = record {
  steps = operation.Take o ∷ [];
  more = more;
  kind = record {
    value = λ h loops. ap (λ n. hand_of n h.state) (is.value h.state loops);
    safe = λ h loops safe fits. (is.there h.state loops safe, record {});
  };
}

abbrev pub IsThen : Node → ℕ → Operation → List Operation → Type 0
IsThen node up last steps = (first : List Operation) × (steps ≡ first ++ last ∷ []) × TakesValue node up first

pub then_goes : (node : Node) (up : ℕ) (last : Operation) (old mid new : List Operation) → GoesOn (TakesValue node up) old mid → new ≡ mid ++ last ∷ [] → GoesOn (IsThen node up last) old new
then_goes node up last old mid new taken more = record {
  steps = taken.steps ++ last ∷ [];
  more = more ∙ ap (λ xs. xs ++ last ∷ []) taken.more ∙ append_assoc old taken.steps (last ∷ []);
  kind = (taken.steps, refl, taken.kind);
}

pub sum_goes : (node : Node) (a b : Box Node Global) (m n : ℕ) (o : Operand) (old new : List Operation) → node ≡ view.Sum a m b n → IsOperandOf b.value n o
    → GoesOn (IsThen a.value m (operation.Add o)) old new → GoesOn (TakesValue node 0) old new
sum_goes node a b m n o old new is second taken = subst (λ x. GoesOn (TakesValue x 0) old new) (sym is) (record {
  steps = taken.kind.0 ++ operation.Add o ∷ [];
  more = taken.more ∙ ap (λ xs. old ++ xs) taken.kind.1;
  kind = record {
    value = λ h loops. steps_append taken.kind.0 (operation.Add o ∷ []) h ∙ ap (after_step (operation.Add o)) (taken.kind.2.value h loops)
        ∙ ap (λ k. hand_of (node_value a.value h.state loops *ℤ pos (2 ^ m) +ℤ k) h.state) (second.value h.state loops)
        ∙ sym (ap (λ k. hand_of k h.state) (up_none (node_value (view.Sum a m b n) h.state loops)));
    safe = λ h loops safe fits. safe_append taken.kind.0 (operation.Add o ∷ []) h (taken.kind.2.safe h loops safe.0 fits.0)
        (subst (λ x. AreSafeSteps (operation.Add o ∷ []) x) (sym (taken.kind.2.value h loops))
        ((second.there h.state loops safe.1, subst (λ k. FitsSigned w64 (node_value a.value h.state loops *ℤ pos (2 ^ m) +ℤ k)) (sym (second.value h.state loops)) fits.4), record {}));
  };
})

pub difference_goes : (node : Node) (a b : Box Node Global) (m n : ℕ) (o : Operand) (old new : List Operation) → node ≡ view.Difference a m b n → IsOperandOf b.value n o
    → GoesOn (IsThen a.value m (operation.Subtract o)) old new → GoesOn (TakesValue node 0) old new
difference_goes node a b m n o old new is second taken = subst (λ x. GoesOn (TakesValue x 0) old new) (sym is) (record {
  steps = taken.kind.0 ++ operation.Subtract o ∷ [];
  more = taken.more ∙ ap (λ xs. old ++ xs) taken.kind.1;
  kind = record {
    value = λ h loops. steps_append taken.kind.0 (operation.Subtract o ∷ []) h ∙ ap (after_step (operation.Subtract o)) (taken.kind.2.value h loops)
        ∙ ap (λ k. hand_of (node_value a.value h.state loops *ℤ pos (2 ^ m) -ℤ k) h.state) (second.value h.state loops)
        ∙ sym (ap (λ k. hand_of k h.state) (up_none (node_value (view.Difference a m b n) h.state loops)));
    safe = λ h loops safe fits. safe_append taken.kind.0 (operation.Subtract o ∷ []) h (taken.kind.2.safe h loops safe.0 fits.0)
        (subst (λ x. AreSafeSteps (operation.Subtract o ∷ []) x) (sym (taken.kind.2.value h loops))
        ((second.there h.state loops safe.1, subst (λ k. FitsSigned w64 (node_value a.value h.state loops *ℤ pos (2 ^ m) -ℤ k)) (sym (second.value h.state loops)) fits.4), record {}));
  };
})

pub product_goes : (node : Node) (a b : Box Node Global) (o : Operand) (old new : List Operation) → node ≡ view.Product a b → IsOperandOf b.value 0 o
    → GoesOn (IsThen a.value 0 (operation.Multiply o)) old new → GoesOn (TakesValue node 0) old new
product_goes node a b o old new is second taken = subst (λ x. GoesOn (TakesValue x 0) old new) (sym is) (record {
  steps = taken.kind.0 ++ operation.Multiply o ∷ [];
  more = taken.more ∙ ap (λ xs. old ++ xs) taken.kind.1;
  kind = record {
    value = λ h loops. steps_append taken.kind.0 (operation.Multiply o ∷ []) h ∙ ap (after_step (operation.Multiply o)) (first h loops)
        ∙ ap (λ k. hand_of (node_value a.value h.state loops *ℤ k) h.state) (other h loops)
        ∙ sym (ap (λ k. hand_of k h.state) (up_none (node_value (view.Product a b) h.state loops)));
    safe = λ h loops safe fits. safe_append taken.kind.0 (operation.Multiply o ∷ []) h (taken.kind.2.safe h loops safe.0 fits.0)
        (subst (λ x. AreSafeSteps (operation.Multiply o ∷ []) x) (sym (first h loops))
        ((second.there h.state loops safe.1, subst (λ k. FitsSigned w64 (node_value a.value h.state loops *ℤ k)) (sym (other h loops)) fits.2), record {}));
  };
})
  where
    first : (h : Hand) (loops : List ℕ) → after_steps taken.kind.0 h ≡ hand_of (node_value a.value h.state loops) h.state
    first h loops = taken.kind.2.value h loops ∙ ap (λ k. hand_of k h.state) (up_none (node_value a.value h.state loops))

    other : (h : Hand) (loops : List ℕ) → operand_value o h.state ≡ node_value b.value h.state loops
    other h loops = second.value h.state loops ∙ up_none (node_value b.value h.state loops)

-- ---- values moved up

pub one_times : (num : ℤ) (up : ℕ) → num ≡ pos 1 *ℤ pos (2 ^ up) → num ≡ pos (2 ^ up)
one_times num up is = is ∙ go (2 ^ up)
  where
    go : (k : ℕ) → pos 1 *ℤ pos k ≡ pos k
    go k = omega (arith, ints)

pub narrow_raised : (node : Node) (bits up most : ℕ) → IsNarrow node bits → bits + up ≤ most → most ≤ 60 → FitsRaised node up
narrow_raised node bits up most narrow low few = record {
  fits = λ s loops safe. fits (node_value node s loops *ℤ pos (2 ^ up)) most (omega (arith, few)) (raised_bits (node_value node s loops) bits up most low (narrow.small s loops safe));
}

pub raise_goes : (node : Node) (up : ℕ) (old mid new : List Operation) → GoesOn (TakesValue node 0) old mid → FitsRaised node up
    → new ≡ mid ++ operation.Multiply (operand.Number (pos (2 ^ up))) ∷ [] → GoesOn (TakesValue node up) old new
raise_goes node up old mid new taken small more = record {
  steps = taken.steps ++ last ∷ [];
  more = more ∙ ap (λ xs. xs ++ last ∷ []) taken.more ∙ append_assoc old taken.steps (last ∷ []);
  kind = record {
    value = λ h loops. steps_append taken.steps (last ∷ []) h ∙ ap (after_step last) (first h loops);
    safe = λ h loops safe fits. safe_append taken.steps (last ∷ []) h (taken.kind.safe h loops safe fits)
        (subst (λ x. AreSafeSteps (last ∷ []) x) (sym (first h loops)) ((record {}, small.fits h.state loops safe), record {}));
  };
}
  where
    last : Operation
    last = operation.Multiply (operand.Number (pos (2 ^ up)))

    first : (h : Hand) (loops : List ℕ) → after_steps taken.steps h ≡ hand_of (node_value node h.state loops) h.state
    first h loops = taken.kind.value h loops ∙ ap (λ k. hand_of k h.state) (up_none (node_value node h.state loops))

-- a number moved up to the bits after the point that its format has
moved_cast : (f : Format) (num : ℤ) (frac up : ℕ) → up ≡ fraction_of f - frac → cast_of f (num *ℤ pos (2 ^ up)) (frac + up) ≡ cast_of f num frac
unfolding cast_of
moved_cast f num frac zero is = let none : frac + 0 ≡ frac = omega arith in ap (λ k. cast_of f (num *ℤ pos (2 ^ 0)) k) none ∙ ap (λ n. cast_of f n frac) (up_none num)
moved_cast f num frac (suc k) is =
    let up = suc k in
    let none : fraction_of f - (frac + up) ≡ 0 = omega (arith, is) in
    ap (overflowed f.over f.signed f.wl) (placed_up f.quant (num *ℤ pos (2 ^ up)) (frac + up) (fraction_of f) (omega (arith, is))
    ∙ ap (λ e. num *ℤ pos (2 ^ up) *ℤ pos (2 ^ e)) none ∙ up_none (num *ℤ pos (2 ^ up)) ∙ ap (λ e. num *ℤ pos (2 ^ e)) is
    ∙ sym (placed_up f.quant num frac (fraction_of f) (omega (arith, is))))

moved_castable : (f : Format) (num : ℤ) (frac up : ℕ) → up ≡ fraction_of f - frac → IsCastable num frac (fraction_of f) → IsCastable (num *ℤ pos (2 ^ up)) (frac + up) (fraction_of f)
moved_castable f num frac up is castable = (omega (arith, castable.0, is, f.fraction_bits), subst (λ k. k ≤ 2 ^ 120) (sym same) castable.1)
  where
    none : fraction_of f - (frac + up) ≡ 0
    none = omega (arith, is)

    once : (k : ℕ) → k * 2 ^ 0 ≡ k
    once k = omega arith

    same : unsigned_abs (num *ℤ pos (2 ^ up)) * 2 ^ (fraction_of f - (frac + up)) ≡ unsigned_abs num * 2 ^ (fraction_of f - frac)
    same = ap (λ e. unsigned_abs (num *ℤ pos (2 ^ up)) * 2 ^ e) none ∙ once (unsigned_abs (num *ℤ pos (2 ^ up))) ∙ unsigned_abs-mul num (pos (2 ^ up)) ∙ ap (λ e. unsigned_abs num * 2 ^ e) is

pub cast_goes : (cast : CastNode) (fit : Fit) (bits up : ℕ) (old new : List Operation) → IsNarrow cast.value bits → GoesOn (TakesValue cast.value up) old new
    → up ≡ fraction_of cast.format - cast.frac → fit.frac ≡ cast.frac + up → fit.format ≡ cast.format → IsBoundedCut fit → GoesOn (TakesCast cast fit) old new
cast_goes cast fit bits up old new narrow taken rise frac format cut = record {
  steps = taken.steps;
  more = taken.more;
  kind = record {
    up = up;
    value = taken.kind.value;
    safe = λ h loops safe. taken.kind.safe h loops safe (narrow.steps h.state loops safe);
    same = λ num. ap (λ f. cast_of f (num *ℤ pos (2 ^ up)) fit.frac) format ∙ ap (λ k. cast_of cast.format (num *ℤ pos (2 ^ up)) k) frac ∙ moved_cast cast.format num cast.frac up rise;
    fits = λ num castable.
        let moved = subst (λ f. IsCastable (num *ℤ pos (2 ^ up)) fit.frac (fraction_of f)) (sym format)
        (subst (λ k. IsCastable (num *ℤ pos (2 ^ up)) k (fraction_of cast.format)) (sym frac) (moved_castable cast.format num cast.frac up rise castable)) in
        (cut, moved.0, moved.1);
  };
}

-- ---- statements

pub set_cell_goes : (act : Act) (place : ℕ) (cast : CastNode) (fit : Fit) (old mid new : List Operation) → act ≡ variant.SetCell (spot.Fixed place) cast
    → GoesOn (TakesCast cast fit) old mid → new ≡ mid ++ operation.PutCell place fit ∷ [] → GoesOn (IsCodeOf act) old new
set_cell_goes act place cast fit old mid new is taken more = subst (λ x. GoesOn (IsCodeOf x) old new) (sym is) (record {
  steps = taken.steps ++ operation.PutCell place fit ∷ [];
  more = more ∙ ap (λ xs. xs ++ operation.PutCell place fit ∷ []) taken.more ∙ append_assoc old taken.steps (operation.PutCell place fit ∷ []);
  kind = record {
    same = λ h loops. ap (λ x. x.state) (steps_append taken.steps (operation.PutCell place fit ∷ []) h ∙ ap (after_step (operation.PutCell place fit)) (taken.kind.value h loops))
        ∙ ap (λ n. with_cell place n h.state) (taken.kind.same (node_value cast.value h.state loops));
    safe = λ h loops safe. safe_append taken.steps (operation.PutCell place fit ∷ []) h (taken.kind.safe h loops safe.0)
        (subst (λ x. AreSafeSteps (operation.PutCell place fit ∷ []) x) (sym (taken.kind.value h loops))
        ((taken.kind.fits (node_value cast.value h.state loops) safe.1, safe.3), record {}));
  };
})

pub set_sample_goes : (act : Act) (port place : ℕ) (cast : CastNode) (fit : Fit) (old mid new : List Operation) → act ≡ variant.SetSample port (spot.Fixed place) cast
    → GoesOn (TakesCast cast fit) old mid → new ≡ mid ++ operation.PutSample port place fit ∷ [] → GoesOn (IsCodeOf act) old new
set_sample_goes act port place cast fit old mid new is taken more = subst (λ x. GoesOn (IsCodeOf x) old new) (sym is) (record {
  steps = taken.steps ++ operation.PutSample port place fit ∷ [];
  more = more ∙ ap (λ xs. xs ++ operation.PutSample port place fit ∷ []) taken.more ∙ append_assoc old taken.steps (operation.PutSample port place fit ∷ []);
  kind = record {
    same = λ h loops. ap (λ x. x.state) (steps_append taken.steps (operation.PutSample port place fit ∷ []) h ∙ ap (after_step (operation.PutSample port place fit)) (taken.kind.value h loops))
        ∙ ap (λ n. with_sample port place n h.state) (taken.kind.same (node_value cast.value h.state loops));
    safe = λ h loops safe. safe_append taken.steps (operation.PutSample port place fit ∷ []) h (taken.kind.safe h loops safe.0)
        (subst (λ x. AreSafeSteps (operation.PutSample port place fit ∷ []) x) (sym (taken.kind.value h loops))
        ((taken.kind.fits (node_value cast.value h.state loops) safe.1, safe.3, safe.4), record {}));
  };
})

pub notify_goes : (act : Act) (event after : ℕ) (old new : List Operation) → act ≡ variant.Notify event after → new ≡ old ++ operation.Notify event after ∷ [] → GoesOn (IsCodeOf act) old new
notify_goes act event after old new is more = subst (λ x. GoesOn (IsCodeOf x) old new) (sym is) (record {
  steps = operation.Notify event after ∷ [];
  more = more;
  kind = record { same = λ h loops. refl; safe = λ h loops safe. (safe, record {}) };
})

-- ---- lists of statements

pub flat_none : IsFlatOf [] []
flat_none = record { same = λ s loops. refl; safe = λ s loops safe. record {} }

flat_then : (acts : List Act) (act : Act) (code new : List Operation) → IsFlatOf acts code → GoesOn (IsCodeOf act) code new → IsFlatOf (acts ++ act ∷ []) new
flat_then acts act code new flat goes = subst (λ xs. IsFlatOf (acts ++ act ∷ []) xs) (sym goes.more) (record {
  same = λ s loops. ap (λ x. x.state) (steps_append code goes.steps (hand_of (pos 0) s)) ∙ goes.kind.same (after_steps code (hand_of (pos 0) s)) loops ∙ ap (acted act loops) (flat.same s loops)
      ∙ sym (acted_append acts (act ∷ []) loops s);
  safe = λ s loops safe. safe_append code goes.steps (hand_of (pos 0) s) (flat.safe s loops (safe_first acts (act ∷ []) loops s safe))
      (goes.kind.safe (after_steps code (hand_of (pos 0) s)) loops (subst (IsSafeAct act loops) (sym (flat.same s loops)) (safe_second acts (act ∷ []) loops s safe).0));
})

pub flat_more : (acts : List Act) (i : ℕ) (d : Act) (code new : List Operation) → i < length acts → IsFlatOf (take i acts) code → GoesOn (IsCodeOf (get_or acts i d)) code new → IsFlatOf (take (i + 1) acts) new
flat_more acts i d code new within flat goes = let next : take (i + 1) acts ≡ take i acts ++ get_or acts i d ∷ [] = ap (λ n. take n acts) one ∙ take-suc acts i d within in subst (λ xs. IsFlatOf xs new) (sym next) (flat_then (take i acts) (get_or acts i d) code new flat goes)
  where
    one : i + 1 ≡ suc i
    one = omega arith

pub flat_all : (acts : List Act) (i : ℕ) (code : List Operation) → length acts ≤ i → IsFlatOf (take i acts) code → IsFlatOf acts code
flat_all acts i code past flat = subst (λ xs. IsFlatOf xs code) (take_all i acts past) flat

pub ruleset operand_laws = (operand_cell, operand_sample, operand_number)

pub ruleset take_laws = (take_operand, then_goes, sum_goes, difference_goes, product_goes, raise_goes)

pub ruleset rise_laws = (one_times, narrow_raised)

pub ruleset goes_laws = (set_cell_goes, set_sample_goes, notify_goes)

pub ruleset flat_laws = (flat_none, flat_more, flat_all)
