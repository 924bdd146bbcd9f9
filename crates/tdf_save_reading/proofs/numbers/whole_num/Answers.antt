use Rattle.tdf_save_reading.proofs.Readings.{below_zero}
use Rattle.tdf_save_reading.proofs.numbers.whole_num.Goals as goal

pub returns-in-Some-clause-always : goal.returns-in-Some-clause-always
returns-in-Some-clause-always c = below_zero c.args.word.now c.in-Some.digits.now c.negated.result c.in-Some.ensures c.negated.ensures.always
