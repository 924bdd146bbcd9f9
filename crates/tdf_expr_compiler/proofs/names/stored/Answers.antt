use Rattle.tdf_expr_compiler.proofs.Stored.{computes_stored, computes_missing}
use Rattle.tdf_expr_compiler.proofs.names.stored.Goals as goal
use Rattle.tdf_expr_symbols.specs.Seen.{seen}

pub returns-in-None : goal.returns-in-None
returns-in-None c loops free = computes_missing c.args.scope.now loops c.args.name.now (c.in-None.ensures) free

pub returns-in_ok-node-in-Some : goal.returns-in_ok-node-in-Some
returns-in_ok-node-in-Some c loops free =
    let found = c.in-Some.ensures in
    rw (c.part_of-part.ensures, c.shape.ensures) (computes_stored c.args.scope.now loops c.args.name.now (seen c.in-Some.found.thing) c.in-Some.found.numbers c.in_ok-node-in-Some.node found free
    (c.in_ok-node-in-Some.ensures c.args.scope.now loops found.place found.numbered))
