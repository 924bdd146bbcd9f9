use Rattle.std.proofs.Common.{◌≡◌, ◌<◌, ℕ, length}
use Rattle.std.specs.Prelude.{slice_index}
use Rattle.tdf_timestep.specs.views.Answers.{step_of}
use Rattle.tdf_timestep.proofs.period.actor_steps.Given as goal

abbrev pub invariant-loop-actor : goal.invariant-loop-actor
invariant-loop-actor l = record {
  long : length l.steps.items ≡ l.actor;
  each : (a : ℕ) → a < l.actor → slice_index l.steps.items a ≡ step_of l.period (slice_index l.counts a);
}
