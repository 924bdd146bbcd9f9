-- Each clause is a lemma.
use Rattle.tdf_tables.proofs.Wholes.{fault_is_one, table_is_one, table_or_fault}
use Rattle.tdf_tables.proofs.laws.law_tables.Goals as goal

pub returns-clause-one_table : goal.returns-clause-one_table
returns-clause-one_table c = table_is_one

pub returns-clause-one_fault : goal.returns-clause-one_fault
returns-clause-one_fault c = fault_is_one

pub returns-clause-not_both : goal.returns-clause-not_both
returns-clause-not_both c = table_or_fault
