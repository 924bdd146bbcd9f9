use Rattle.tdf_expr_laws.proofs.Samples.{bodies_keep_samples, ports_lie}
use Rattle.tdf_expr_laws.proofs.laws.law_samples.Goals as goal

pub returns-clause-keep : goal.returns-clause-keep
returns-clause-keep c = bodies_keep_samples

pub returns-clause-placed : goal.returns-clause-placed
returns-clause-placed c = ports_lie
