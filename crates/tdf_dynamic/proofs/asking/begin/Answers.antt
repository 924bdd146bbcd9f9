use Rattle.tdf_dynamic.proofs.Begins.{begun}
use Rattle.tdf_dynamic.proofs.asking.begin.Goals as goal

pub returns : goal.returns
returns c = begun c.args.ports.now c.reset.new.self c.clear_all.new.ports c.law_fit.ensures c.reset.ensures c.law_fit-2.ensures c.clear_all.ensures
