use Rattle.tdf_exec_layout.proofs.Rates.{ports_set_rates, samplers_put_one, sinks_take_one}
use Rattle.tdf_exec_layout.proofs.laws.law_rates.Goals as goal

pub returns-clause-ports : goal.returns-clause-ports
returns-clause-ports c = ports_set_rates

pub returns-clause-samplers : goal.returns-clause-samplers
returns-clause-samplers c = samplers_put_one

pub returns-clause-sinks : goal.returns-clause-sinks
returns-clause-sinks c = sinks_take_one
