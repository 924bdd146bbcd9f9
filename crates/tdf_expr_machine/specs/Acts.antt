-- What compiled statements do and when they are safe (own). These definitions are about the types
-- of the compiled code; no public clause of a crate above shows them.
use Rattle.std.specs.Prelude.{◌≡◌, ℕ, ◌*◌, ◌/◌, ◌%◌, ◌^◌, ◌<◌, ◌≤◌, ℤ, pos, negsuc, true, false, ◌&&◌, nat_eq, nat_le, if◌then◌else◌, Option, Some, None, List, [], ◌∷◌, ◌++◌, length, slice_index}
use Rattle.tdf_fixed.specs.Cast.{cast_of, fraction_of}
use Rattle.tdf_expr_flat.specs.Flat.{AreSafeSteps, hand_of, after_steps}
use Rattle.tdf_expr_machine.specs.Nodes.{node_value, spot_place, is_true, IsSafe, IsSpot, IsCastable}
use Rattle.tdf_expr_machine.specs.Turns.{turned, AreTurnsSafe}
use Rattle.tdf_expr_machine.specs.declared.acts.Act.{Act}
use Rattle.tdf_expr_machine.specs.declared.acts.Act.TheVariants as act
use Rattle.tdf_expr_machine.specs.declared.acts.Bounds.{Bounds}
use Rattle.tdf_expr_machine.specs.declared.acts.Turns.{Turns}
use Rattle.tdf_expr_machine.specs.declared.acts.Turns.TheVariants as turns
use Rattle.tdf_expr_state.specs.State.{State, with_cell, with_sample, with_rate, with_range_fault, with_step, with_answer, with_notice}

-- where a loop ends: a number, or a number times the value of a rate variable
abbrev pub turns_end : Turns → List ℕ → ℕ
turns_end (turns.Fixed end) rates = end
turns_end (turns.Times factor rate) rates = factor * slice_index rates rate

abbrev pub AreTurns : Turns → List ℕ → Type 0
AreTurns (turns.Fixed end) rates = Unit {0}
AreTurns (turns.Times factor rate) rates =
    (rate < length rates) × (factor * slice_index rates rate < 2 ^ 32)

-- the rate num / 2 ^ frac, where that is a whole number within bounds
abbrev pub rate_within : Bounds → (frac : ℕ) → ℤ → Option ℕ
rate_within bounds frac (pos num) =
    if nat_eq (num % 2 ^ frac) 0
    && (nat_le bounds.least (num / 2 ^ frac) && nat_le (num / 2 ^ frac) bounds.greatest)
    then Some (num / 2 ^ frac) else None
rate_within bounds frac (negsuc num) = None

-- a rate variable gets its rate; one that isn't allowed is noted and changes nothing else
abbrev pub with_rate_of : ℕ → Option ℕ → State → State
with_rate_of number (Some value) s = with_rate number value s
with_rate_of number None s = with_range_fault s

-- the state that a statement leaves
abbrev pub acted : Act → List ℕ → State → State
acted act.Skip loops s = s
acted (act.SetCell at c) loops s =
    with_cell (spot_place at loops) (cast_of c.format (node_value c.value s loops) c.frac) s
acted (act.SetSample port at c) loops s =
    with_sample port (spot_place at loops) (cast_of c.format (node_value c.value s loops) c.frac) s
acted (act.SetRate number value frac bounds) loops s =
    with_rate_of number (rate_within bounds frac (node_value value s loops)) s
acted (act.SetStep place step) loops s = with_step place step s
acted (act.Notify event after) loops s = with_notice event after s
acted (act.Answer accepted) loops s = with_answer accepted s
acted (act.If' test p a q b) loops s =
    if is_true (node_value test s loops) then acted a loops s else acted b loops s
acted (act.For' from end p body) loops s =
    turned (λ i rest. acted body (loops ++ i ∷ []) rest) from (turns_end end s.frame.rates) s
acted (act.Seq' p a q b) loops s = acted b loops (acted a loops s)
acted (act.Flat code) loops s = (after_steps code.items (hand_of (pos 0) s)).state

-- no step passes 2 ^ 120, no place lies outside, and no loop is more than 8 deep
abbrev pub IsSafeAct : Act → List ℕ → State → Type 0
IsSafeAct act.Skip loops s = Unit {0}
IsSafeAct (act.SetCell at c) loops s = IsSafe c.value s loops
    × IsCastable (node_value c.value s loops) c.frac (fraction_of c.format)
    × IsSpot at loops × (spot_place at loops < length s.frame.cells)
IsSafeAct (act.SetSample port at c) loops s = IsSafe c.value s loops
    × IsCastable (node_value c.value s loops) c.frac (fraction_of c.format)
    × IsSpot at loops × (spot_place at loops < length s.ports.samples)
    × (port < length s.ports.assigned)
IsSafeAct (act.SetRate number value frac bounds) loops s =
    IsSafe value s loops × (frac ≤ 120) × (number < length s.frame.rates)
IsSafeAct (act.SetStep place step) loops s = place < length s.ports.steps
IsSafeAct (act.Notify event after) loops s = event < length s.ports.notified
IsSafeAct (act.Answer accepted) loops s = Unit {0}
IsSafeAct (act.If' test p a q b) loops s = IsSafe test s loops
    × (is_true (node_value test s loops) ≡ true → IsSafeAct a loops s)
    × (is_true (node_value test s loops) ≡ false → IsSafeAct b loops s)
IsSafeAct (act.For' from end p body) loops s = (length loops < 8) × AreTurns end s.frame.rates
    × AreTurnsSafe (λ i rest. acted body (loops ++ i ∷ []) rest)
    (λ i rest. IsSafeAct body (loops ++ i ∷ []) rest) from (turns_end end s.frame.rates) s
IsSafeAct (act.Seq' p a q b) loops s = IsSafeAct a loops s × IsSafeAct b loops (acted a loops s)
IsSafeAct (act.Flat code) loops s = AreSafeSteps code.items (hand_of (pos 0) s)

-- one turn of a loop, inside these loop variables, and whether it is safe
abbrev pub act_turn : Act → List ℕ → ℕ → State → State
act_turn body loops i s = acted body (loops ++ i ∷ []) s

abbrev pub IsTurnSafe : Act → List ℕ → ℕ → State → Type 0
IsTurnSafe body loops i s = IsSafeAct body (loops ++ i ∷ []) s
