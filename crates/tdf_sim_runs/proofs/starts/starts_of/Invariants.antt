use Rattle.std.proofs.Common.{◌≡◌, map, take}
use Rattle.tdf_saved.specs.State.{ClusterStateOf}
use Rattle.tdf_sim_runs.proofs.starts.starts_of.Given as goal

abbrev pub invariant-loop-n : goal.invariant-loop-n
invariant-loop-n l = l.starts.items ≡ map (λ (s : ClusterStateOf). s.start) (take l.n l.states)
