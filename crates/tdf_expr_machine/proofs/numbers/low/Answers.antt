-- A mask of `bits` ones leaves the rest of a division.
use Rattle.std.proofs.Common.{◌<◌, arith}
use Rattle.std.proofs.lemmas.Nat.{and_mask, one_shl}
use Rattle.tdf_expr_machine.proofs.numbers.low.Goals as goal

pub returns : goal.returns
returns c =
    let within : c.args.bits < 128 = omega arith in rw (one_shl c.args.bits 128 within) (and_mask c.args.num c.args.bits)
