use Rattle.std.proofs.Common.{map, subst}
use Rattle.tdf_expr_compiler.specs.machine.Found.{IsCellAt, IsSampleAt}
use Rattle.tdf_expr_compiler.proofs.Elements.{indexed_array, indexed_port, indexed_other}
use Rattle.tdf_expr_compiler.proofs.names.indexed.Goals as goal
use Rattle.tdf_expr_symbols.specs.Seen.{seen_loop}

pub returns-in-Array : goal.returns-in-Array
returns-in-Array c scope n numbered =
    let code = subst (λ b. IsCellAt c.spot_of.result b c.cell_at.result) c.bits_in.ensures c.cell_at.ensures in
    rw c.in-Array.is (indexed_array scope (map seen_loop c.args.loops.now) n c.args.numbers _ _ _ c.args.index.now c.spot_of.result c.cell_at.result numbered c.spot_of.ensures code)

pub returns-in-Port : goal.returns-in-Port
returns-in-Port c scope n numbered =
    let code = subst (λ b. IsSampleAt c.spot_of-in-Port.result b c.sample_at.result) c.bits_in-in-Port.ensures c.sample_at.ensures in
    rw c.in-Port.is (indexed_port scope (map seen_loop c.args.loops.now) n c.args.numbers _ _ _ _ c.args.index.now c.spot_of-in-Port.result c.sample_at.result numbered c.spot_of-in-Port.ensures code)

pub returns-in_default : goal.returns-in_default
returns-in_default c scope n numbered = indexed_other scope (map seen_loop c.args.loops.now) n c.args.thing c.args.index.now _ c.in_default.not-Array c.in_default.not-Port
