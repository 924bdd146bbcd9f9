use Rattle.tdf_sim_runs.proofs.Telling.{AreFirstStates}
use Rattle.tdf_sim_runs.proofs.saving.cluster_states.Given as goal

abbrev pub invariant-loop-place : goal.invariant-loop-place
invariant-loop-place l = AreFirstStates l.place l.since.items l.clusters.items l.states.items
