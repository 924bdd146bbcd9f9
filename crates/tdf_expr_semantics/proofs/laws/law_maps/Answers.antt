use Rattle.tdf_expr_semantics.proofs.Maps.{maps}
use Rattle.tdf_expr_semantics.proofs.laws.law_maps.Goals as goal

pub returns : goal.returns
returns c = maps
