-- Each clause is a lemma.
use Rattle.tdf_fixed.proofs.ExactReaders.{reads_exactly}
use Rattle.tdf_fixed.proofs.Readers.{reads_literals}
use Rattle.tdf_fixed.proofs.ValueLaws.{casts_exactly}
use Rattle.tdf_fixed.proofs.laws.law_readers.Goals as goal

pub returns-clause-literals : goal.returns-clause-literals
returns-clause-literals c = reads_literals

pub returns-clause-exactly : goal.returns-clause-exactly
returns-clause-exactly c = reads_exactly

pub returns-clause-casts : goal.returns-clause-casts
returns-clause-casts c = casts_exactly
