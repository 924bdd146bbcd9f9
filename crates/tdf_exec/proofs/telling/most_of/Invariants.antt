use Rattle.tdf_exec.specs.machine.Telling.{AreRooms}
use Rattle.tdf_exec.proofs.telling.most_of.Given as goal

abbrev pub invariant-loop-i : goal.invariant-loop-i
invariant-loop-i l = AreRooms l.actors.runners l.entries l.i l.rooms
