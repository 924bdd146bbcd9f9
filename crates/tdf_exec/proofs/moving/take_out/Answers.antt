use Rattle.std.proofs.Common.{◌≡◌, ◌∙◌, Some, ap, arith, subst, sym}
use Rattle.std.proofs.lemmas.Option.{slice_get_within}
use Rattle.std.specs.Prelude.{slice_get, slice_set}
use Rattle.tdf_cluster_net.specs.Numbers.{IsAmong}
use Rattle.tdf_dynamic_plans.specs.Attributes.{AttrsOf}
use Rattle.tdf_exec.proofs.Moves.{number_at, out_step, still_there}
use Rattle.tdf_exec.proofs.Owned.{again}
use Rattle.tdf_exec.specs.declared.runners.Runner.TheVariants.{Module, Outside}
use Rattle.tdf_exec.specs.machine.Moving.{numbers_of}
use Rattle.tdf_exec.specs.views.Actors.{ActorsOf}
use Rattle.tdf_exec.proofs.moving.take_out.Goals as goal

pub take_row-requires-clause-number : goal.take_row-requires-clause-number
take_row-requires-clause-number c =
    let at : slice_get (numbers_of c.args.rows.now) c.loop-i.i ≡ Some c.row.inside.number =
    number_at c.args.rows.now c.loop-i.i c.index-rows-i.result c.row.inside.number c.loop-i-test.true c.index-rows-i.is (ap (λ (a : AttrsOf). a.number) c.row.view_is) in
    subst (λ (a : ActorsOf). IsAmong a.places.numbers c.row.inside.number) (sym c.loop-i.invariant.rest) (c.requires.own c.loop-i.i c.row.inside.number at)

pub take_row-requires-clause-is : goal.take_row-requires-clause-is
take_row-requires-clause-is c =
    let at : slice_get (numbers_of c.args.rows.now) c.loop-i.i ≡ Some c.row.inside.number =
    number_at c.args.rows.now c.loop-i.i c.index-rows-i.result c.row.inside.number c.loop-i-test.true c.index-rows-i.is (ap (λ (a : AttrsOf). a.number) c.row.view_is) in
    let x = c.requires.modules.each c.loop-i.i c.row.inside.number at in (
      x.0,
      still_there (numbers_of c.args.rows.now) c.loop-i.i c.row.inside.number c.args.actors.now.runners c.loop-i.actors.runners c.loop-i.frames.items c.loop-i.rests.items c.requires.modules at
          c.loop-i.invariant.out x.0 x.1,
    )

pub loop-i-preserved : goal.loop-i-preserved
loop-i-preserved c =
    let at : slice_get (numbers_of c.args.rows.now) c.loop-i.i ≡ Some c.row.inside.number =
    number_at c.args.rows.now c.loop-i.i c.index-rows-i.result c.row.inside.number c.loop-i-test.true c.index-rows-i.is (ap (λ (a : AttrsOf). a.number) c.row.view_is) in
    let x = c.requires.modules.each c.loop-i.i c.row.inside.number at in
    let there = still_there (numbers_of c.args.rows.now) c.loop-i.i c.row.inside.number c.args.actors.now.runners c.loop-i.actors.runners c.loop-i.frames.items c.loop-i.rests.items c.requires.modules at
    c.loop-i.invariant.out x.0 x.1 in
    let f = c.loop-i.invariant.frames_room in let g = c.take_row.ensures.frames_room in let r = c.loop-i.invariant.rests_room in let s = c.take_row.ensures.rests_room in
    record {
      rest = again c.args.actors.now c.loop-i.actors c.take_row.new.actors (slice_set c.loop-i.actors.runners c.row.inside.number Outside) c.loop-i.invariant.rest c.take_row.ensures.actors;
      out = out_step (numbers_of c.args.rows.now) c.loop-i.i c.row.inside.number c.args.actors.now.runners c.loop-i.actors.runners c.take_row.new.actors.runners c.loop-i.frames.items c.loop-i.rests.items
          c.take_row.new.frames.items c.take_row.new.rests.items c.requires.modules at c.loop-i.invariant.out x.0 Outside x.1 (ap (λ (a : ActorsOf). a.runners) c.take_row.ensures.actors) (c.take_row.ensures.frames x.0 there)
          (c.take_row.ensures.rests x.0 there);
      frames_room = omega (arith, f, g);
      rests_room = omega (arith, r, s);
    }
