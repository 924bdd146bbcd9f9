use Rattle.std.proofs.Common.{arith, ◌≡◌, ◌-◌, max}
use Rattle.tdf_expr_compiler.proofs.Operators.{computes_binary}
use Rattle.tdf_expr_compiler.proofs.exprs.binary.Goals as goal
use Rattle.tdf_expr_compiler.specs.machine.Combined.{IsCombined}

pub returns : goal.returns
returns c scope loops x y left right =
    let f = c.args.a.part in
    let g = c.args.b.part in
    let turned : max g f - g ≡ max f g - g = omega arith in
    let combines : IsCombined c.args.op c.args.a.node (max f g - f) c.args.b.node (max f g - g) c.combined-node.result =
    rw (c.in_ok-first.ensures.0, c.in_ok-first.ensures.1, c.rise-m.ensures, c.rise-n.ensures, turned) at c.combined-node.ensures in
    rw c.joint_part-part.ensures (computes_binary scope loops x y c.args.a.node c.args.b.node f g c.args.op c.combined-node.result combines left right)
