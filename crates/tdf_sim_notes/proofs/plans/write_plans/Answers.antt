use Rattle.std.proofs.Common.{arith}
use Rattle.tdf_sim_notes.proofs.plans.write_plans.Goals as goal

pub of-requires-clause-count : goal.of-requires-clause-count
of-requires-clause-count g c = let count = c.cluster_count.ensures in omega (arith, count)
