use Rattle.std.proofs.Common.{map, ap, ◌∙◌}
use Rattle.tdf_expr_compiler.proofs.Assigned.{sets_var, sets_array, sets_port}
use Rattle.tdf_expr_compiler.proofs.targets.set.Goals as goal
use Rattle.tdf_expr_symbols.specs.Names.{shape_of}
use Rattle.tdf_expr_symbols.specs.Seen.{seen, seen_loop}

pub set_cell-requires : goal.set_cell-requires
set_cell-requires c shape e = c.requires.shaped shape (ap (λ t. shape_of (seen t)) c.in-Var.is ∙ e)

pub set_cell-requires-in-Array : goal.set_cell-requires-in-Array
set_cell-requires-in-Array c shape e = c.requires.shaped shape (ap (λ t. shape_of (seen t)) c.in-Array.is ∙ e)

pub set_sample-requires : goal.set_sample-requires
set_sample-requires c shape e = c.requires.shaped shape (ap (λ t. shape_of (seen t)) c.in-Port.is ∙ e)

pub returns-in-Var : goal.returns-in-Var
returns-in-Var c scope n numbered =
    rw c.in-Var.is (sets_var scope (map seen_loop c.args.loops.now) c.args.index.now c.args.value.node c.args.value.part c.set_cell.result n c.args.numbers _ _ _ numbered c.target.ensures c.set_cell.ensures)

pub returns-in-Array : goal.returns-in-Array
returns-in-Array c scope n numbered =
    rw c.in-Array.is (sets_array scope (map seen_loop c.args.loops.now) c.args.index.now c.args.value.node c.args.value.part c.set_cell-in-Array.result n c.args.numbers _ _ _ _ numbered c.target-in-Array.ensures c.set_cell-in-Array.ensures)

pub returns-in-Port : goal.returns-in-Port
returns-in-Port c scope n numbered =
    rw c.in-Port.is (sets_port scope (map seen_loop c.args.loops.now) c.args.index.now c.args.value.node c.args.value.part c.set_sample.result n c.args.numbers _ _ _ _ _ numbered c.target-spot.ensures c.set_sample.ensures)
