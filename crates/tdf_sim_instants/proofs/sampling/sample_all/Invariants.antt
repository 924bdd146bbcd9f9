use Rattle.tdf_sim_instants.proofs.sampling.sample_all.Given as goal
use Rattle.tdf_sim_instants.specs.Sampling.{HaveSampled, sampling_at}

abbrev pub invariant-loop-n : goal.invariant-loop-n
invariant-loop-n l = HaveSampled (sampling_at l.time l.since l.clusters l.links l.values) l.n l.initial.inputs.items l.inputs.items
