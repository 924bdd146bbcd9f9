use Rattle.std.proofs.Common.{◌≡◌, drop}
use Rattle.tdf_bind_attributes.proofs.steps.module_step.Given as goal
use Rattle.tdf_bind_attributes.specs.Standing.{last_of, module_step}

abbrev pub invariant-loop-attr : goal.invariant-loop-attr
invariant-loop-attr l = last_of module_step l.step (drop l.attr-index l.attr-items) ≡ last_of module_step 0 l.attr-items
