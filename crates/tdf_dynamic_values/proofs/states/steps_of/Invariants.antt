use Rattle.std.proofs.Common.{◌≡◌, take}
use Rattle.tdf_dynamic_values.specs.States.{state_steps}
use Rattle.tdf_dynamic_values.proofs.states.steps_of.Given as goal

abbrev pub invariant-loop-i : goal.invariant-loop-i
invariant-loop-i l = l.steps.items ≡ state_steps (take l.i l.modules)
