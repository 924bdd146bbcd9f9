-- Each clause is a lemma.
use Rattle.tdf_base.proofs.DecimalDigits.{int_decimal, time_of_count, time_at_picoseconds, time_at_femtoseconds}
use Rattle.tdf_base.proofs.NumeralReaders.{reads_numerals}
use Rattle.tdf_base.proofs.TimeReaders.{reads_times, reads_times_at, reads_both}
use Rattle.tdf_base.proofs.laws.law_spelling.Goals as goal

pub returns-clause-numerals : goal.returns-clause-numerals
returns-clause-numerals c = reads_numerals

pub returns-clause-times : goal.returns-clause-times
returns-clause-times c = reads_times

pub returns-clause-times_at : goal.returns-clause-times_at
returns-clause-times_at c = reads_times_at

pub returns-clause-both : goal.returns-clause-both
returns-clause-both c = reads_both

pub returns-clause-counts : goal.returns-clause-counts
returns-clause-counts c = λ n small. record {
  int = int_decimal n small;
  picoseconds = time_of_count n small;
  at_picoseconds = time_at_picoseconds n small;
  at_femtoseconds = time_at_femtoseconds n small;
}
