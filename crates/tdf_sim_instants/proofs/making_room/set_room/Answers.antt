use Rattle.std.proofs.Common.{◌≡◌, ◌≤◌, ◌<◌, Some, arith, length, refl}
use Rattle.std.proofs.lemmas.Option.{slice_get_read}
use Rattle.std.specs.Prelude.{slice_get}
use Rattle.tdf_sim_instants.proofs.Beginning.{none_set, one_set}
use Rattle.tdf_sim_refinement.specs.Below.{ClusterOf}
use Rattle.tdf_sim_instants.proofs.making_room.set_room.Goals as goal

pub returns-then-n-clusters : goal.returns-then-n-clusters
returns-then-n-clusters c =
    let past : length c.args.clusters.now ≤ c.args.n = omega (arith, c.if-n-clusters.true) in
    none_set c.args.clusters.now c.args.n c.args.rooms.now.items past

pub returns : goal.returns
returns c =
    let here : ClusterOf = c.index-clusters-n.result in
    let below : c.args.n < length c.args.clusters.now = omega (arith, c.if-n-clusters.false) in
    let at : slice_get c.args.clusters.now c.args.n ≡ Some here = slice_get_read c.args.clusters.now (length c.args.clusters.now) c.args.n here refl below c.index-clusters-n.is in
    one_set c.args.clusters.now c.args.n c.args.rooms.now.items here c.in_ok-room.room c.requires at c.in_ok-room.ensures.sent c.in_ok-room.ensures.traced
