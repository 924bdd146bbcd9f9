use Rattle.tdf_bind.proofs.OneAnswer.{fault_is_one, fault_or_flat, tables_are_one}
use Rattle.tdf_bind.proofs.laws.law_one_fault.Goals as goal

pub returns-clause-one_fault : goal.returns-clause-one_fault
returns-clause-one_fault c = fault_is_one

pub returns-clause-fault_or_flat : goal.returns-clause-fault_or_flat
returns-clause-fault_or_flat c = fault_or_flat

pub returns-clause-one_flat : goal.returns-clause-one_flat
returns-clause-one_flat c = tables_are_one
