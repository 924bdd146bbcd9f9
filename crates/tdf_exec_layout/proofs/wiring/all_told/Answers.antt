use Rattle.std.proofs.Common.{◌+◌, ◌<◌, List, arith, length, subst, sym, slice_index_or}
use Rattle.std.proofs.lemmas.Option.{slice_get-get_or}
use Rattle.std.specs.Prelude.{slice_set}
use Rattle.tdf_bind_tables.specs.declared.actors.ActorRow.{ActorRow}
use Rattle.tdf_graph.specs.declared.actors.Actor.TheVariants as actor
use Rattle.tdf_exec_layout.proofs.Telling.{input_there, told_next}
use Rattle.tdf_exec_layout.specs.declared.wiring.ActorWires.{ActorWires}
use Rattle.tdf_exec_layout.specs.machine.Ends.{ToldUpTo}
use Rattle.tdf_exec_layout.proofs.wiring.all_told.Goals as goal

abbrev none : ActorRow
none = record { kind = actor.Module; «module» = 0; port = 0; cluster = 0 }

pub told-requires : goal.told-requires
told-requires c =
    let t = c.loop-m-test.true in let s = c.loop-m.invariant.same in let r = c.requires.rows in
    let inside : c.loop-m.m < length c.loop-m.rows.items = omega (arith, t, s, r) in
    let at = slice_get-get_or c.args.actors.now c.loop-m.m none t in
    input_there c.args.actors.now c.loop-m.m c.args.rows.now.items c.loop-m.rows.items c.loop-m.wires.items (slice_index_or c.args.actors.now c.loop-m.m none)
    c.index_mut.result.now c.replace-ends.result c.loop-m.invariant at inside c.index_mut.ensures.value c.replace-ends.ensures.value c.requires.sinks

pub loop-m-preserved : goal.loop-m-preserved
loop-m-preserved c =
    let t = c.loop-m-test.true in let s = c.loop-m.invariant.same in let r = c.requires.rows in
    let inside : c.loop-m.m < length c.loop-m.rows.items = omega (arith, t, s, r) in
    let at = slice_get-get_or c.args.actors.now c.loop-m.m none t in
    subst (λ (l : List ActorWires). ToldUpTo c.args.actors.now (c.loop-m.m + 1) c.args.rows.now.items (slice_set c.loop-m.rows.items c.loop-m.m c.replace-ends.new.dest) l)
    (sym c.in_ok-push.ensures.items)
    (told_next c.args.actors.now c.loop-m.m c.args.rows.now.items c.loop-m.rows.items c.loop-m.wires.items (slice_index_or c.args.actors.now c.loop-m.m none)
    c.index_mut.result.now c.replace-ends.result c.loop-m.invariant at inside c.index_mut.ensures.value c.replace-ends.ensures.value
    c.in_ok-row.row c.replace-ends.new.dest c.in_ok-row.ensures)
