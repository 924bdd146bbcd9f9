use Rattle.std.proofs.Common.{◌≡◌, drop, pos}
use Rattle.tdf_expr_flat.specs.Flat.{AreSafeSteps, hand_of, after_steps}
use Rattle.tdf_expr_state.specs.State.{state_of}
use Rattle.tdf_expr_flat.proofs.steps.run_flat.Given as goal

abbrev pub invariant-loop-at : goal.invariant-loop-at
invariant-loop-at l = record {
  same : after_steps (drop l.at l.code) (hand_of l.number (state_of l.cells l.signals)) ≡ after_steps l.code (hand_of (pos 0) (state_of l.initial.cells l.initial.signals));
  safe : AreSafeSteps (drop l.at l.code) (hand_of l.number (state_of l.cells l.signals));
}
