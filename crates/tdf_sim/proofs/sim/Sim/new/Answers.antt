use Rattle.tdf_sim.proofs.Refusing.{plans_err_always}
use Rattle.tdf_sim.proofs.sim.Sim.new.Goals as goal

pub returns-in-Ok-clause-always : goal.returns-in-Ok-clause-always
returns-in-Ok-clause-always c = λ fault is. absurd (c.law_plans_fault.ensures.apart c.args.flat fault c.in-Ok.firsts.items c.requires.plannable is c.in-Ok.ensures.plans)

pub returns-in-Err-clause-always : goal.returns-in-Err-clause-always
returns-in-Err-clause-always c = plans_err_always c.args.flat c.in-Err.error c.law_plans_fault.ensures.one c.requires.plannable c.in-Err.ensures.refused
