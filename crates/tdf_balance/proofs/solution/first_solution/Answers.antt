use Rattle.std.proofs.Common.{subst, sym, []}
use Rattle.tdf_balance.proofs.Steps.{first_counts}
use Rattle.tdf_balance.specs.views.Solution.{AreLeast}
use Rattle.tdf_balance.proofs.solution.first_solution.Goals as goal

pub returns : goal.returns
returns c = subst (AreLeast c.args.count [] c.in_ok-parts.parts) (sym c.in_ok-counts.ensures) (first_counts c.args.count c.in_ok-parts.parts c.in_ok-parts.ensures)
