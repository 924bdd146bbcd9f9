use Rattle.std.proofs.Common.{◌<◌}
use Rattle.tdf_base.specs.Limits.{time_end}
use Rattle.tdf_exec_parts.proofs.Fits.{PassBelow}
use Rattle.tdf_exec_parts.proofs.fitting.are_steps.Given as goal

abbrev pub invariant-loop-i : goal.invariant-loop-i
invariant-loop-i l = PassBelow (λ step. step < time_end) l.steps l.i
