use Rattle.std.proofs.Common.{sym, ◌∙◌}
use Rattle.tdf_expr_compiler.proofs.Operators.{cast_legal, computes_no_cast}
use Rattle.tdf_expr_compiler.proofs.exprs.cast.Goals as goal

pub fitted-requires : goal.fitted-requires
fitted-requires c = cast_legal c.args.scope.now c.args.name.now c.in-Some.shape c.requires (sym c.type_of.ensures ∙ c.in-Some.is)

pub returns-in-Some : goal.returns-in-Some
returns-in-Some c loops x inner = c.fitted.ensures c.args.scope.now loops c.args.name.now x (sym c.type_of.ensures ∙ c.in-Some.is) inner

pub returns-in-None : goal.returns-in-None
returns-in-None c loops x inner = computes_no_cast c.args.scope.now loops x c.args.a.node c.args.a.part c.args.name.now (sym c.type_of.ensures ∙ c.in-None.is)
