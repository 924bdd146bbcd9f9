use Rattle.tdf_dynamic_plans.proofs.Api.{modules_few}
use Rattle.tdf_dynamic.proofs.next.timing_of.Goals as goal

pub cluster_timing-found-requires-clause-modules : goal.cluster_timing-found-requires-clause-modules
cluster_timing-found-requires-clause-modules c = modules_few c.args.at.now.flat.now.tables c.requires.wired
