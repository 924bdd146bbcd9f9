use Rattle.std.proofs.Common.{arith, ◌≡◌, ◌-◌, max}
use Rattle.tdf_expr_compiler.proofs.Operators.{computes_choice}
use Rattle.tdf_expr_compiler.proofs.exprs.choice.Goals as goal
use Rattle.tdf_expr_compiler.specs.machine.Combined.{IsChoice}

pub returns-in_ok-node-in-Ok : goal.returns-in_ok-node-in-Ok
returns-in_ok-node-in-Ok c scope loops z x y test left right =
    let f = c.args.a.part in
    let g = c.args.b.part in
    let turned : max g f - g ≡ max f g - g = omega arith in
    let chooses : IsChoice c.args.test.node c.args.a.node (max f g - f) c.args.b.node (max f g - g) c.in_ok-node-in-Ok.node =
    rw (c.in-Ok.ensures.0, c.in-Ok.ensures.1, c.rise-m.ensures, c.rise-n.ensures, turned) at c.in_ok-node-in-Ok.ensures in
    rw c.max-part.ensures (computes_choice scope loops z x y c.args.test.node c.args.a.node c.args.b.node _ c.args.test.part f g chooses test left right)
