use Rattle.tdf_exec_layout.proofs.Rates.{rates_are_within}
use Rattle.tdf_exec_layout.proofs.laws.law_rates_within.Goals as goal

pub returns : goal.returns
returns c = rates_are_within c.law_formats.ensures c.law_limits.ensures
