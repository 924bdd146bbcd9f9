use Rattle.std.proofs.Common.{◌≡◌, take, length}
use Rattle.tdf_expr_machine.proofs.acts.copied.Given as goal

abbrev pub invariant-loop-depth : goal.invariant-loop-depth
invariant-loop-depth l = record { long : length l.all ≡ 8; same : take l.depth l.all ≡ take l.depth l.loops }
