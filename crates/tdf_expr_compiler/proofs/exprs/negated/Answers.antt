use Rattle.std.proofs.Common.{rules, ◌≡◌, of_z, to_z}
use Rattle.std.proofs.lemmas.Int.{to_z-of_z}
use Rattle.std.specs.Int.{w128}
use Rattle.std.specs.Prelude.{FitsSigned}
use Rattle.tdf_expr_compiler.proofs.Operators.{computes_negative, computes_opposite}
use Rattle.tdf_expr_compiler.proofs.exprs.negated.Goals as goal

pub returns-in-Some : goal.returns-in-Some
returns-in-Some c scope loops x inner =
    let fits : FitsSigned w128 c.in-Some.num = search rules in
    let same : to_z w128 (of_z w128 c.in-Some.num) ≡ c.in-Some.num = to_z-of_z w128 c.in-Some.num fits in
    rw same (computes_opposite scope loops x c.args.a.node c.args.a.part c.in-Some.num c.in-Some.ensures inner)

pub returns-in_ok-inner-in-None : goal.returns-in_ok-inner-in-None
returns-in_ok-inner-in-None c scope loops x inner = rw c.in_ok-inner-in-None.ensures.ok (computes_negative scope loops x _ _ _ inner)
