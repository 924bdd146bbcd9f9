use Rattle.tdf_expr_laws.proofs.Cells.{bodies_keep_cells, starts_fit}
use Rattle.tdf_expr_laws.proofs.laws.law_cells.Goals as goal

pub returns : goal.returns
returns c = record { keep = bodies_keep_cells; start = starts_fit }
