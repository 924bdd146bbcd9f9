-- A mask of `count` ones leaves the rest of a division.
use Rattle.std.proofs.Common.{◌<◌, arith}
use Rattle.std.proofs.lemmas.Nat.{and_mask, one_shl}
use Rattle.tdf_fixed.proofs.bits.low.Goals as goal

pub returns-clause-value : goal.returns-clause-value
returns-clause-value c =
    let within : c.args.count < 128 = omega arith in rw (one_shl c.args.count 128 within) (and_mask c.args.number c.args.count)
