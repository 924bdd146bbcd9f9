use Rattle.std.proofs.Math.Nat.{div-mul_cancel}
use Rattle.tdf_balance.proofs.Divides.{factor_some}
use Rattle.tdf_balance.proofs.divisor.times.Goals as goal

pub returns-clause-value : goal.returns-clause-value
returns-clause-value c = div-mul_cancel c.args.divisor c.requires.divides

pub returns-clause-some : goal.returns-clause-some
returns-clause-some c = factor_some _ c.args.divisor c.args.number (div-mul_cancel c.args.divisor c.requires.divides) c.requires.some
