use Rattle.std.proofs.Common.{refl}
use Rattle.tdf_save_reading.proofs.Readings.{no_rate, rate_large}
use Rattle.tdf_save_reading.proofs.numbers.read_rate.Goals as goal

pub returns-in_default-clause-none : goal.returns-in_default-clause-none
returns-in_default-clause-none c = λ _. no_rate c.args.text.now (c.in_default.ensures.none refl)

pub returns-then-number-gt4294967295-clause-none : goal.returns-then-number-gt4294967295-clause-none
returns-then-number-gt4294967295-clause-none c = λ _. rate_large c.args.text.now c.in-Some.number c.in-Some.rest.now c.in-Some.ensures.is c.if-number-gt4294967295.true
