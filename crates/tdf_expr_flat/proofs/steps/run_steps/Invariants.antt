use Rattle.std.proofs.Common.{◌≡◌, drop}
use Rattle.tdf_expr_flat.specs.Flat.{AreSafeSteps, hand_of, after_steps}
use Rattle.tdf_expr_state.specs.State.{state_of}
use Rattle.tdf_expr_flat.proofs.steps.run_steps.Given as goal

abbrev pub invariant-loop-operation : goal.invariant-loop-operation
invariant-loop-operation l = record {
  same : after_steps (drop l.operation-index l.code) (hand_of l.number (state_of l.cells l.signals)) ≡ after_steps l.code (hand_of l.first (state_of l.initial.cells l.initial.signals));
  safe : AreSafeSteps (drop l.operation-index l.code) (hand_of l.number (state_of l.cells l.signals));
}
