use Rattle.std.proofs.Common.{◌≡◌, take}
use Rattle.tdf_dynamic.specs.Asked.{steps_after}
use Rattle.tdf_dynamic.proofs.tables.put_steps.Given as goal

abbrev pub invariant-loop-place : goal.invariant-loop-place
invariant-loop-place l = l.steps.items ≡ steps_after (take l.place l.before) l.ports.state.steps
