use Rattle.tdf_exec_firing.proofs.Begins.{cleared}
use Rattle.tdf_exec_firing.proofs.taking.clear.Goals as goal

pub returns-clause-cleared : goal.returns-clause-cleared
returns-clause-cleared c = cleared c.args.ports.now c.reset.new.self c.law_fit.ensures c.reset.ensures
