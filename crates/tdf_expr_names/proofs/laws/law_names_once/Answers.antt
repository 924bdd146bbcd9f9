use Rattle.tdf_expr_names.proofs.NamesOnce.{names_once}
use Rattle.tdf_expr_names.proofs.laws.law_names_once.Goals as goal

pub returns : goal.returns
returns c = names_once
