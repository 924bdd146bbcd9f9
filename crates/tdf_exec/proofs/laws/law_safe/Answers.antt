use Rattle.tdf_exec.proofs.Safe.{heads_hold, plans_safe}
use Rattle.tdf_exec.proofs.laws.law_safe.Goals as goal

pub returns-clause-safe : goal.returns-clause-safe
returns-clause-safe c = plans_safe c.law_present.ensures.present

pub returns-clause-heads : goal.returns-clause-heads
returns-clause-heads c = heads_hold
