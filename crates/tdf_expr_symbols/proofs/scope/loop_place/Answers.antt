use Rattle.std.proofs.Common.{◌∙◌}
use Rattle.tdf_expr_symbols.proofs.Loops.{place_seen}
use Rattle.tdf_expr_symbols.proofs.scope.loop_place.Goals as goal

pub returns : goal.returns
returns c = c.place_of_loop.ensures ∙ place_seen c.args.loops.now c.args.name.now
