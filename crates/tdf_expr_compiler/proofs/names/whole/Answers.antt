use Rattle.tdf_expr_compiler.proofs.Stored.{other_none, whole_other}
use Rattle.tdf_expr_compiler.proofs.names.whole.Goals as goal
use Rattle.tdf_expr_symbols.specs.Seen.{seen}

pub returns-in_default : goal.returns-in_default
returns-in_default c scope loops n numbered = whole_other scope loops n (seen c.args.thing)
    (λ own s. other_none c.args.thing c.in_default.not-Const c.in_default.not-Var c.in_default.not-Array c.in_default.not-Port c.in_default.not-RateVar own s n 0)
