use Rattle.std.proofs.Common.{◌≡◌, ◌∙◌, ◌-◌, ◌<◌, Some, suc, ap, arith, length, subst, sym}
use Rattle.std.specs.Prelude.{slice_get}
use Rattle.tdf_cluster_net.specs.Numbers.{IsAmong}
use Rattle.tdf_dynamic_plans.specs.Attributes.{AttrsOf}
use Rattle.tdf_exec.proofs.Moves.{back_step, fewer, number_at}
use Rattle.tdf_exec.proofs.Owned.{again}
use Rattle.tdf_exec.specs.machine.Moving.{numbers_of}
use Rattle.tdf_exec.specs.views.Actors.{ActorsOf}
use Rattle.tdf_exec.proofs.moving.put_back.Goals as goal

pub put_row-requires-clause-number : goal.put_row-requires-clause-number
put_row-requires-clause-number c =
    let below : c.loop-left.left - 1 < length c.args.rows.now = (let t = c.loop-left-test.true in let f = c.loop-left.invariant.few in omega (arith, t, f)) in
    let at : slice_get (numbers_of c.args.rows.now) (c.loop-left.left - 1) ≡ Some c.row.inside.number =
    number_at c.args.rows.now (c.loop-left.left - 1) c.index-rows-left.result c.row.inside.number below c.index-rows-left.is (ap (λ (a : AttrsOf). a.number) c.row.view_is) in
    subst (λ (a : ActorsOf). IsAmong a.places.numbers c.row.inside.number) (sym c.loop-left.invariant.rest) (c.requires.own (c.loop-left.left - 1) c.row.inside.number at)

pub loop-left-preserved : goal.loop-left-preserved
loop-left-preserved c =
    let next : c.loop-left.left ≡ suc (c.loop-left.left - 1) = (let t = c.loop-left-test.true in omega (arith, t)) in
    let below : c.loop-left.left - 1 < length c.args.rows.now = (let t = c.loop-left-test.true in let f = c.loop-left.invariant.few in omega (arith, t, f)) in
    let at : slice_get (numbers_of c.args.rows.now) (c.loop-left.left - 1) ≡ Some c.row.inside.number =
    number_at c.args.rows.now (c.loop-left.left - 1) c.index-rows-left.result c.row.inside.number below c.index-rows-left.is (ap (λ (a : AttrsOf). a.number) c.row.view_is) in
    let frames_below : c.loop-left.left - 1 < length c.args.frames.now.items = (let l = c.requires.frames_long in omega (arith, below, l)) in
    let rests_below : c.loop-left.left - 1 < length c.args.rests.now.items = (let l = c.requires.rests_long in omega (arith, below, l)) in
    let f = c.loop-left.invariant.frames_room in let g = c.put_row.ensures.frames_room in let r = c.loop-left.invariant.rests_room in let s = c.put_row.ensures.rests_room in
    record {
      rest = again c.args.actors.now c.loop-left.actors c.put_row.new.actors c.put_row.new.actors.runners c.loop-left.invariant.rest c.put_row.ensures.rest;
      few = omega (arith, below);
      back = back_step (numbers_of c.args.rows.now) c.loop-left.left (c.loop-left.left - 1) c.row.inside.number c.args.actors.now.runners c.loop-left.actors.runners c.put_row.new.actors.runners
          c.args.frames.now.items c.loop-left.frames.items c.args.rests.now.items c.loop-left.rests.items next c.requires.once at
          (c.requires.inside (c.loop-left.left - 1) c.row.inside.number at) frames_below rests_below c.loop-left.invariant.frames c.loop-left.invariant.rests (λ f r f_at r_at. ap (λ (a : ActorsOf). a.runners) (c.put_row.ensures.back f r f_at r_at))
          c.loop-left.invariant.back;
      frames = fewer c.loop-left.left (c.loop-left.left - 1) c.args.frames.now.items c.loop-left.frames.items next frames_below c.loop-left.invariant.frames c.put_row.new.frames.items
          c.put_row.ensures.frames;
      rests = fewer c.loop-left.left (c.loop-left.left - 1) c.args.rests.now.items c.loop-left.rests.items next rests_below c.loop-left.invariant.rests c.put_row.new.rests.items
          c.put_row.ensures.rests;
      frames_room = omega (arith, f, g);
      rests_room = omega (arith, r, s);
    }
