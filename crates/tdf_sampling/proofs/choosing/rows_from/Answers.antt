use Rattle.tdf_sampling.proofs.Stepping.{left_of}
use Rattle.tdf_sampling.proofs.choosing.rows_from.Goals as goal

pub returns-clause-rest : goal.returns-clause-rest
returns-clause-rest c = left_of c.args.rows.now c.args.time c.count_upto-passed.result c.requires c.count_upto-passed.ensures.count
