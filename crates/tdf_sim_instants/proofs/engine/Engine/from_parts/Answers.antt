use Rattle.std.proofs.Common.{[], List, length, subst}
use Rattle.tdf_sim_instants.proofs.Beginning.{engine_made}
use Rattle.tdf_sim_instants.specs.Engine.{AreRoomsBut, AreRoomy}
use Rattle.tdf_sim_instants.specs.machine.Making.{AreLinkedUpTo}
use Rattle.tdf_sim_refinement.specs.Below.{ClusterOf}
use Rattle.tdf_sim_instants.proofs.engine.Engine.from_parts.Goals as goal

pub lines_of-requires : goal.lines_of-requires
lines_of-requires c = record { sound = c.requires.sound; ports = c.law_ports.ensures c.requires.sound.model c.args.flat.now c.requires.sound.sound c.requires.sound.is }

pub returns-in-Ok-clause-engine : goal.returns-in-Ok-clause-engine
returns-in-Ok-clause-engine c =
    engine_made c.args.flat.now _ c.requires.since c.requires.clusters
    (subst (λ (l : List ClusterOf). AreLinkedUpTo c.args.flat.now.tables (length l) c.in-Ok.lines.links.items) c.deref.ensures.value c.in-Ok.ensures.linked)
    c.in-Ok.ensures.given c.in-Ok.ensures.sinks
    (subst (λ (l : List ClusterOf). AreRoomy l c.in-Ok.lines.outputs c.in-Ok.lines.writes) c.deref.ensures.value c.in-Ok.ensures.roomy)
    (subst (λ (l : List ClusterOf). AreRoomsBut [] l c.in-Ok.lines.rooms.items) c.deref.ensures.value c.in-Ok.ensures.rooms) c.in-Ok.ensures.groups c.requires.kernel
