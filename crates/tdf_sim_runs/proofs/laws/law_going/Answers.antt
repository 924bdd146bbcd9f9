use Rattle.tdf_sim_runs.proofs.Leading.{instant_leads_on, instant_spends, instant_stops, stop_reached}
use Rattle.tdf_sim_runs.proofs.laws.law_going.Goals as goal

pub returns-clause-leads : goal.returns-clause-leads
returns-clause-leads c = instant_leads_on c.law_instant.ensures.along

pub returns-clause-spends : goal.returns-clause-spends
returns-clause-spends c = instant_spends c.law_instant.ensures.along c.law_instant.ensures.spent

pub returns-clause-stops : goal.returns-clause-stops
returns-clause-stops c = instant_stops c.law_instant.ensures.along c.law_instant.ensures.stopped

pub returns-clause-reached : goal.returns-clause-reached
returns-clause-reached c = stop_reached
