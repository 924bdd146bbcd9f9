use Rattle.tdf_sim_refinement.proofs.Arriving.{firings_keep_at}
use Rattle.tdf_sim_refinement.proofs.Sampling.{sampler_reads}
use Rattle.tdf_sim_refinement.proofs.Taking.{sinks_take_one}
use Rattle.tdf_sim_refinement.proofs.Writing.{sinks_write}
use Rattle.tdf_sim_refinement.proofs.laws.law_cluster.Goals as goal

pub returns-clause-read : goal.returns-clause-read
returns-clause-read c = λ flat values h k m within is inside. sampler_reads flat.tables values h m is inside k within

pub returns-clause-at : goal.returns-clause-at
returns-clause-at c = firings_keep_at

pub returns-clause-written : goal.returns-clause-written
returns-clause-written c = sinks_write

pub returns-clause-one : goal.returns-clause-one
returns-clause-one c = sinks_take_one
