use Rattle.tdf_exec_firing.proofs.Fills.{fill_one}
use Rattle.tdf_exec_firing.proofs.taking.take_from.Goals as goal

pub returns-then-n-eq1-clause-filled : goal.returns-then-n-eq1-clause-filled
returns-then-n-eq1-clause-filled c =
    fill_one c.args.port c.args.n c.args.ring.now.samples c.pop.result c.args.ports.now c.set.new.self c.requires.can c.if-n-eq1.true c.pop.ensures.value c.set.ensures
