use Rattle.std.proofs.Common.{map}
use Rattle.tdf_expr_compiler.proofs.Acting.{acts_rate, acts_no_rate}
use Rattle.tdf_expr_compiler.proofs.stmts.set_rate.Goals as goal
use Rattle.tdf_expr_symbols.specs.Seen.{seen, seen_loop}
use Rattle.tdf_lang_tree.specs.Views.{pure_expr}

pub returns-in-None : goal.returns-in-None
returns-in-None c line = acts_no_rate c.args.scope.now (map seen_loop c.args.loops.now) line c.args.name.now (pure_expr c.args.value.now) c.in-None.ensures

pub returns-in-Some : goal.returns-in-Some
returns-in-Some c line =
    let found = c.in-Some.ensures in
    acts_rate c.args.scope.now (map seen_loop c.args.loops.now) line c.args.name.now (pure_expr c.args.value.now) (seen c.in-Some.found.thing) c.in-Some.found.numbers
    c.in_ok-value.value.node c.in_ok-value.value.part c.rate.result found c.in_ok-value.ensures (c.rate.ensures c.args.scope.now (map seen_loop c.args.loops.now) found.place found.numbered)
