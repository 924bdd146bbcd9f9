use Rattle.std.proofs.Common.{◌≡◌, ◌≤◌, Some, ℕ, arith, length}
use Rattle.std.proofs.lemmas.Option.{slice_get-get_or}
use Rattle.std.specs.Prelude.{slice_get, slice_index}
use Rattle.tdf_sim_instants.proofs.Beginning.{room_set, rooms_first, rooms_last}
use Rattle.tdf_sim_instants.proofs.Spending.{on_is}
use Rattle.tdf_sim_instants.proofs.making_room.set_rooms.Goals as goal

pub loop-k-init : goal.loop-k-init
loop-k-init c = rooms_first c.args.places.now 0 c.args.clusters.now c.args.rooms.now.items c.requires

pub set_room-requires : goal.set_room-requires
set_room-requires c = c.loop-k.invariant.same

pub loop-k-preserved : goal.loop-k-preserved
loop-k-preserved c =
    let n : ℕ = slice_index c.args.places.now c.loop-k.k in
    let at : slice_get c.args.places.now c.loop-k.k ≡ Some n = slice_get-get_or c.args.places.now c.loop-k.k 0 c.loop-k-test.true in
    room_set c.args.places.now c.loop-k.k c.args.clusters.now c.loop-k.rooms.items n c.set_room.new.rooms.items at (on_is c.set_room.result c.in_ok-set_room.was c.set_room.ensures) c.loop-k.invariant

pub returns : goal.returns
returns c =
    let past : length c.args.places.now ≤ c.loop-k.k = omega (arith, c.loop-k-test.false) in
    rooms_last c.args.places.now c.loop-k.k c.args.clusters.now c.loop-k.rooms.items c.loop-k.invariant past
