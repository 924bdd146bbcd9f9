use Rattle.std.proofs.Common.{◌≡◌, take}
use Rattle.tdf_sim_instants.proofs.making_room.whole_room.Given as goal
use Rattle.tdf_sim_instants.specs.machine.Making.{whole_room}

abbrev pub invariant-loop-n : goal.invariant-loop-n
invariant-loop-n l = l.room ≡ whole_room (take l.n l.rooms)
