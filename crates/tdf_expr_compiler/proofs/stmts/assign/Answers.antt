use Rattle.std.proofs.Common.{map}
use Rattle.tdf_expr_compiler.proofs.Acting.{acts_assign, acts_no_assign, shaped_of}
use Rattle.tdf_expr_compiler.proofs.stmts.assign.Goals as goal
use Rattle.tdf_expr_symbols.specs.Seen.{seen, seen_loop}
use Rattle.tdf_lang_tree.specs.Views.{pure_expr}

pub set-requires : goal.set-requires
set-requires c = record { places = c.in-Some.ensures.numbered.few; shaped = shaped_of c.args.scope.now.own (seen c.in-Some.found.thing) c.in-Some.ensures.sound }

pub returns-in-None : goal.returns-in-None
returns-in-None c line = acts_no_assign c.args.scope.now (map seen_loop c.args.loops.now) line c.args.target.now.name.now c.args.target.now.index.now (pure_expr c.args.value.now) c.in-None.ensures

pub returns-in-Some : goal.returns-in-Some
returns-in-Some c line =
    let found = c.in-Some.ensures in
    acts_assign c.args.scope.now (map seen_loop c.args.loops.now) line c.args.target.now.name.now c.args.target.now.index.now (pure_expr c.args.value.now) (seen c.in-Some.found.thing) c.in-Some.found.numbers
    c.in_ok-value.value.node c.in_ok-value.value.part c.set.result found c.in_ok-value.ensures (c.set.ensures c.args.scope.now found.place found.numbered)
