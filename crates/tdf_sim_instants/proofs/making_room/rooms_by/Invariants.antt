use Rattle.tdf_sim_instants.proofs.making_room.rooms_by.Given as goal
use Rattle.tdf_sim_instants.specs.machine.Making.{AreRoomsUpTo}

abbrev pub invariant-loop-n : goal.invariant-loop-n
invariant-loop-n l = AreRoomsUpTo l.clusters l.n l.rooms.items
