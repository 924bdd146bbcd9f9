use Rattle.std.proofs.Common.{◌≡◌, List, length, subst}
use Rattle.tdf_convert.specs.declared.links.Links.{Links}
use Rattle.tdf_sim_instants.proofs.Beginning.{rooms_made}
use Rattle.tdf_sim_instants.specs.machine.Making.{AreGivenUpTo, whole_room}
use Rattle.tdf_sim_refinement.specs.Below.{Room}
use Rattle.tdf_sim_instants.proofs.making.lines_of.Goals as goal

pub returns-clause-given : goal.returns-clause-given
returns-clause-given c = subst (λ (l : List Links). AreGivenUpTo l (length l) c.in_ok-inputs.inputs.items) c.deref-2.ensures.value c.in_ok-inputs.ensures

pub returns-clause-roomy : goal.returns-clause-roomy
returns-clause-roomy c =
    let is : c.in_ok-room.room ≡ whole_room c.in_ok-rooms.rooms.items = subst (λ (l : List Room). c.in_ok-room.room ≡ whole_room l) c.deref.ensures.value c.in_ok-room.ensures in
    rooms_made c.args.clusters.now c.in_ok-rooms.rooms.items c.in_ok-room.room c.in_ok-outputs.outputs c.in_ok-writes.writes c.in_ok-rooms.ensures is
    c.in_ok-outputs.ensures c.in_ok-writes.ensures
