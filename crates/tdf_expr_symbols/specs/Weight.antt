-- The weight of statements (own): a bound of the statements that a body runs.
use Rattle.std.specs.Prelude.{ℕ, ◌+◌, ◌-◌, ◌*◌, nat_lt, List}
use Rattle.tdf_base.specs.Limits.{heaviest_body}
use Rattle.tdf_base.specs.declared.codes.Code.TheVariants as code
use Rattle.tdf_base.specs.First.{fault_if}
use Rattle.tdf_base.specs.declared.first.LineFault.{LineFault}
use Rattle.tdf_expr_symbols.specs.Names.{Names}
use Rattle.tdf_expr_symbols.specs.Scope.{greatest_of}
use Rattle.tdf_lang_tree.specs.Pure.{PureStmt, SIf, SFor, PureStmts, Done, More, PureBody}

abbrev mutual
  pub weight : Names → PureStmt → ℕ
  weight own (SIf line test a b) = 1 + (weights own a + weights own b)
  weight own (SFor line name from end body) = 1 + (greatest_of own end - from) * weights own body
  weight own _ = 1

  pub weights : Names → PureStmts → ℕ
  weights own Done = 0
  weights own (More s ss) = weight own s + weights own ss

abbrev pub heavy_faults : Names → PureBody → List LineFault
heavy_faults own body = fault_if (nat_lt heaviest_body (weights own body.list)) code.Heavy body.end
