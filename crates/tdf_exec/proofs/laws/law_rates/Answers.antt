use Rattle.tdf_exec.proofs.Rates.{rates_are_begun, rates_are_kept}
use Rattle.tdf_exec.proofs.laws.law_rates.Goals as goal

pub returns-clause-begun : goal.returns-clause-begun
returns-clause-begun c = rates_are_begun

pub returns-clause-kept : goal.returns-clause-kept
returns-clause-kept c = rates_are_kept
