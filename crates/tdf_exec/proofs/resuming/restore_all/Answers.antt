use Rattle.std.proofs.Common.{◌∙◌, ◌<◌, ◌+◌, arith, length, refl, subst, sym}
use Rattle.tdf_exec.proofs.Nexts.{get_read}
use Rattle.tdf_exec.proofs.Resumed.{can_take, restored_next, restored_none}
use Rattle.tdf_exec.specs.machine.Resuming.{AreRestored}
use Rattle.tdf_exec.specs.views.Actors.{spread_runners}
use Rattle.tdf_streams.proofs.Api.{get_inside}
use Rattle.tdf_exec.proofs.resuming.restore_all.Goals as goal

pub loop-i-init : goal.loop-i-init
loop-i-init c = record {
  same = refl;
  restored = restored_none c.args.flat.now.checked c.args.table.now c.args.modules.now (spread_runners c.args.flat.now.tables c.args.numbers.now c.args.runners.now.items) c.requires.can;
}

pub restore_row-requires-clause-can : goal.restore_row-requires-clause-can
restore_row-requires-clause-can c r here =
    let t = c.loop-i-test.true in let l = c.requires.can.long in
    let below : c.loop-i.i < length c.args.table.now = omega (arith, t) in
    let at = get_read c.args.table.now c.loop-i.i c.index-table-i.result below c.index-table-i.is in
    let there = get_read c.args.modules.now c.loop-i.i c.index-modules-i.result (omega (arith, below, l)) c.index-modules-i.is in
    can_take c.args.flat.now.checked c.args.table.now c.args.modules.now (spread_runners c.args.flat.now.tables c.args.numbers.now c.args.runners.now.items) c.requires.can c.loop-i.i
    (spread_runners c.args.flat.now.tables c.args.numbers.now c.loop-i.runners.items) c.loop-i.invariant.restored c.index-table-i.result c.index-modules-i.result r at there here

pub loop-i-preserved : goal.loop-i-preserved
loop-i-preserved c =
    let t = c.loop-i-test.true in let l = c.requires.can.long in
    let below : c.loop-i.i < length c.args.table.now = omega (arith, t) in
    let at = get_read c.args.table.now c.loop-i.i c.index-table-i.result below c.index-table-i.is in
    let there = get_read c.args.modules.now c.loop-i.i c.index-modules-i.result (omega (arith, below, l)) c.index-modules-i.is in
    let b = c.requires.can.inside c.loop-i.i c.index-table-i.result at in let s = c.loop-i.invariant.restored.same in
    let r = get_inside (spread_runners c.args.flat.now.tables c.args.numbers.now c.loop-i.runners.items) c.index-table-i.result.number (omega (arith, b, s)) in
    record {
      same = c.restore_row.ensures.same ∙ c.loop-i.invariant.same;
      restored = subst (AreRestored c.args.flat.now.checked c.args.table.now c.args.modules.now (c.loop-i.i + 1)
          (spread_runners c.args.flat.now.tables c.args.numbers.now c.args.runners.now.items)) (sym (c.restore_row.ensures.taken r.0 r.1))
          (restored_next c.args.flat.now.checked c.args.table.now c.args.modules.now (spread_runners c.args.flat.now.tables c.args.numbers.now c.args.runners.now.items) c.requires.can c.loop-i.i
          (spread_runners c.args.flat.now.tables c.args.numbers.now c.loop-i.runners.items) c.loop-i.invariant.restored c.index-table-i.result c.index-modules-i.result r.0 at there r.1);
    }
