use Rattle.std.proofs.Common.{map}
use Rattle.tdf_expr_compiler.proofs.Elements.{computes_element, computes_absent}
use Rattle.tdf_expr_compiler.proofs.names.element.Goals as goal
use Rattle.tdf_expr_symbols.specs.Seen.{seen, seen_loop}

pub returns-in-None : goal.returns-in-None
returns-in-None c = computes_absent c.args.scope.now (map seen_loop c.args.loops.now) c.args.name.now c.args.index.now (c.in-None.ensures)

pub returns-in-Some : goal.returns-in-Some
returns-in-Some c =
    let found = c.in-Some.ensures in
    rw (c.part_of.ensures, c.shape.ensures) (computes_element c.args.scope.now (map seen_loop c.args.loops.now) c.args.name.now c.args.index.now (seen c.in-Some.found.thing) c.in-Some.found.numbers c.indexed.result found
    (c.indexed.ensures c.args.scope.now found.place found.numbered))
