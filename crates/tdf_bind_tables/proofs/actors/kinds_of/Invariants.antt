use Rattle.std.proofs.Common.{◌≡◌, length}
use Rattle.tdf_bind_tables.proofs.actors.kinds_of.Given as goal

abbrev pub invariant-loop-i : goal.invariant-loop-i
invariant-loop-i l = length l.kinds.items ≡ l.i
