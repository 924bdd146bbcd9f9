use Rattle.std.proofs.Common.{◌≡◌, ◌≤◌, ◌+◌, Some, arith, length, refl, subst, sym}
use Rattle.std.proofs.lemmas.Option.{slice_get_read}
use Rattle.std.specs.Prelude.{slice_get}
use Rattle.tdf_sim_instants.proofs.Beginning.{room_more, rooms_all}
use Rattle.tdf_sim_instants.specs.machine.Making.{AreRoomsUpTo}
use Rattle.tdf_sim_refinement.specs.Below.{ClusterOf}
use Rattle.tdf_sim_instants.proofs.making_room.rooms_by.Goals as goal

pub loop-n-preserved : goal.loop-n-preserved
loop-n-preserved c =
    let here : ClusterOf = c.index-clusters-n.result in
    let at : slice_get c.args.clusters.now c.loop-n.n ≡ Some here = slice_get_read c.args.clusters.now (length c.args.clusters.now) c.loop-n.n here refl c.loop-n-test.true c.index-clusters-n.is in
    subst (AreRoomsUpTo c.args.clusters.now (c.loop-n.n + 1)) (sym c.in_ok-push.ensures.items)
    (room_more c.args.clusters.now c.loop-n.n c.loop-n.rooms.items here c.in_ok-room.room c.loop-n.invariant at c.in_ok-room.ensures.sent c.in_ok-room.ensures.traced)

pub returns : goal.returns
returns c =
    let past : length c.args.clusters.now ≤ c.loop-n.n = omega (arith, c.loop-n-test.false) in
    rooms_all c.args.clusters.now c.loop-n.n c.loop-n.rooms.items c.loop-n.invariant past
