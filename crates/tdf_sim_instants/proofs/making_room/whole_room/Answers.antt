use Rattle.std.proofs.Common.{◌≡◌, ◌∙◌, ◌∷◌, ◌++◌, ◌<◌, ◌≤◌, ◌+◌, [], ap, arith, length, sym, take}
use Rattle.std.proofs.lemmas.List.{take_all, take_more}
use Rattle.std.specs.Prelude.{slice_index_or}
use Rattle.tdf_sim_instants.proofs.Beginning.{whole_push}
use Rattle.tdf_sim_instants.specs.machine.Making.{room_of, whole_room}
use Rattle.tdf_sim_refinement.specs.Below.{Room}
use Rattle.tdf_sim_instants.proofs.making_room.whole_room.Goals as goal

abbrev none : Room
none = record { sent = 0; traced = 0 }

pub loop-n-preserved : goal.loop-n-preserved
loop-n-preserved c =
    let r : Room = slice_index_or c.args.rooms.now c.loop-n.n none in
    let less : c.loop-n.n < length c.args.rooms.now = c.loop-n-test.true in
    let more : take (c.loop-n.n + 1) c.args.rooms.now ≡ take c.loop-n.n c.args.rooms.now ++ r ∷ [] = take_more c.args.rooms.now c.loop-n.n none less in
    c.in_ok-room.ensures ∙ ap (λ (x : Room). room_of (x.sent + r.sent) (x.traced + r.traced)) c.loop-n.invariant
    ∙ sym (ap whole_room more ∙ whole_push (take c.loop-n.n c.args.rooms.now) r)

pub returns : goal.returns
returns c =
    let past : length c.args.rooms.now ≤ c.loop-n.n = omega (arith, c.loop-n-test.false) in
    c.loop-n.invariant ∙ ap whole_room (take_all c.loop-n.n c.args.rooms.now past)
