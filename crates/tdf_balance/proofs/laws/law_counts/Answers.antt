use Rattle.tdf_balance.proofs.Solutions.{multiples}
use Rattle.tdf_balance.proofs.Whole.{same_counts, exclude}
use Rattle.tdf_balance.proofs.laws.law_counts.Goals as goal

pub returns-clause-multiples : goal.returns-clause-multiples
returns-clause-multiples c = multiples

pub returns-clause-unique : goal.returns-clause-unique
returns-clause-unique c count edges clusters cluster one other fit are has one_is other_is = same_counts count edges clusters cluster fit are one other has one_is other_is

pub returns-clause-apart : goal.returns-clause-apart
returns-clause-apart c = exclude
