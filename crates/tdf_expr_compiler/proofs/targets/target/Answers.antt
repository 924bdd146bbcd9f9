use Rattle.std.proofs.Common.{map}
use Rattle.tdf_expr_compiler.proofs.Assigned.{target_spot}
use Rattle.tdf_expr_compiler.proofs.targets.target.Goals as goal
use Rattle.tdf_expr_symbols.specs.Seen.{seen_loop}

pub returns-in-Some : goal.returns-in-Some
returns-in-Some c = rw c.in-Some.is (target_spot (map seen_loop c.args.loops.now) c.args.at _ c.spot_of.result c.spot_of.ensures)
