use Rattle.std.proofs.Common.{subst}
use Rattle.tdf_sim.specs.Ends.{IfPaused, IsPaused, Part}
use Rattle.tdf_tests_runs.proofs.tests.pauses.waiting.Goals as goal

pub returns-in-Paused : goal.returns-in-Paused
returns-in-Paused c = record { paused = subst (λ (x : Part). IfPaused x IsPaused) c.in-Paused.is c.in-Ok-run_part.ensures.paused }
