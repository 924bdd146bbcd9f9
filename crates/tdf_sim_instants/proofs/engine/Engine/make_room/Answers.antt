use Rattle.std.proofs.Common.{◌≡◌, List, [], subst}
use Rattle.tdf_sim_instants.proofs.Beginning.{rooms_made}
use Rattle.tdf_sim_instants.proofs.Spending.{on_is}
use Rattle.tdf_sim_instants.specs.Engine.{AreRoomsBut}
use Rattle.tdf_sim_instants.specs.machine.Making.{whole_room}
use Rattle.tdf_sim_refinement.specs.Below.{ClusterOf, Room}
use Rattle.tdf_sim_instants.proofs.engine.Engine.make_room.Goals as goal

pub returns-clause-roomy : goal.returns-clause-roomy
returns-clause-roomy c =
    let are : AreRoomsBut [] c.args.self.now.clusters.items c.set_rooms.new.rooms.items =
    subst (λ (l : List ClusterOf). AreRoomsBut [] l c.set_rooms.new.rooms.items) c.deref.ensures.value (on_is c.set_rooms.result c.in_ok-set_rooms.was c.set_rooms.ensures) in
    let is : c.in_ok-room.room ≡ whole_room c.set_rooms.new.rooms.items = subst (λ (l : List Room). c.in_ok-room.room ≡ whole_room l) c.deref-3.ensures.value c.in_ok-room.ensures in
    rooms_made c.args.self.now.clusters.items c.set_rooms.new.rooms.items c.in_ok-room.room c.in_ok-self.field-0 c.in_ok-self-2.field-0 are is c.in_ok-self.ensures c.in_ok-self-2.ensures

pub returns-clause-rooms : goal.returns-clause-rooms
returns-clause-rooms c =
    subst (λ (l : List ClusterOf). AreRoomsBut [] l c.set_rooms.new.rooms.items) c.deref.ensures.value (on_is c.set_rooms.result c.in_ok-set_rooms.was c.set_rooms.ensures)
