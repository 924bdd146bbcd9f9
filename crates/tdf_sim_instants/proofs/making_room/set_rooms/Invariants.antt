use Rattle.tdf_sim_instants.proofs.making_room.set_rooms.Given as goal
use Rattle.tdf_sim_instants.specs.machine.Making.{AreRoomsFrom}

abbrev pub invariant-loop-k : goal.invariant-loop-k
invariant-loop-k l = AreRoomsFrom l.places l.k l.clusters l.rooms.items
