use Rattle.tdf_expr_laws.proofs.Indices.{inside}
use Rattle.tdf_expr_laws.proofs.laws.law_indices_in_force.Goals as goal

pub returns : goal.returns
returns c = record { inside = inside }
