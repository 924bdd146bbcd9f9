use Rattle.std.proofs.Common.{length, subst, sym}
use Rattle.tdf_sim_instants.proofs.Acting.{can_cross}
use Rattle.tdf_sim_instants.specs.Crossing.{CanCross, HasNoTurn, HasStopped, HaveCrossed, crossing_of}
use Rattle.tdf_sim_instants.proofs.engine.Engine.cross.Goals as goal

pub cross_all-requires-clause-can : goal.cross_all-requires-clause-can
cross_all-requires-clause-can c =
    let e = c.args.self.now in
    subst (λ planned. CanCross c.args.flat.now c.args.time (crossing_of e.clusters.items e.since.items c.args.left.now planned)) (sym c.clear.ensures.items)
    (can_cross c.args.flat.now c.args.time c.args.left.now e c.requires.engine c.requires.ready)

pub returns-clause-all : goal.returns-clause-all
returns-clause-all c = λ same.
    (let e = c.args.self.now in
    subst (λ planned. HaveCrossed c.args.flat.now c.args.time (length e.clusters.items) (crossing_of e.clusters.items e.since.items c.args.left.now planned)
    (crossing_of c.cross_all.new.clusters.items c.cross_all.new.since.items c.cross_all.new.left c.cross_all.new.planned.items)) c.clear.ensures.items (c.cross_all.ensures.all same))

pub returns-clause-part : goal.returns-clause-part
returns-clause-part c = λ same.
    (let e = c.args.self.now in
    subst (λ planned. HasNoTurn c.args.flat.now c.args.time (crossing_of e.clusters.items e.since.items c.args.left.now planned)
    (crossing_of c.cross_all.new.clusters.items c.cross_all.new.since.items c.cross_all.new.left c.cross_all.new.planned.items)) c.clear.ensures.items (c.cross_all.ensures.part same))

pub returns-clause-stopped : goal.returns-clause-stopped
returns-clause-stopped c = λ number fault same.
    (let e = c.args.self.now in
    subst (λ planned. HasStopped c.args.flat.now c.args.time number fault.value (crossing_of e.clusters.items e.since.items c.args.left.now planned)
    (crossing_of c.cross_all.new.clusters.items c.cross_all.new.since.items c.cross_all.new.left c.cross_all.new.planned.items)) c.clear.ensures.items (c.cross_all.ensures.stopped number fault same))

pub cross_all-requires-clause-groups : goal.cross_all-requires-clause-groups
cross_all-requires-clause-groups c = c.requires.engine.groups
