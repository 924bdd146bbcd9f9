use Rattle.std.proofs.Common.{◌≡◌, ◌<◌, ℕ, length}
use Rattle.std.specs.Prelude.{slice_index}
use Rattle.tdf_schedule.specs.Plan.{pace_of}
use Rattle.tdf_schedule.proofs.faults.paces_of.Given as goal

abbrev pub invariant-loop-actor : goal.invariant-loop-actor
invariant-loop-actor l = record {
  long : length l.paces.items ≡ length l.actors;
  each : (m : ℕ) → m < l.actor → slice_index l.paces.items m ≡ pace_of l.actors l.steps.items m;
}
