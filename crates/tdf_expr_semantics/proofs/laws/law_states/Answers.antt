use Rattle.tdf_expr_semantics.proofs.Keeps.{keeps}
use Rattle.tdf_expr_semantics.proofs.laws.law_states.Goals as goal

pub returns : goal.returns
returns c = keeps
