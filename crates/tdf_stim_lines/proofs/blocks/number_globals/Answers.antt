use Rattle.std.proofs.Common.{◌<◌, ◌≤◌, length, map, arith}
use Rattle.tdf_lang_printer.specs.Canon.{global_lines}
use Rattle.tdf_lang_tree.specs.Views.{pure_global}
use Rattle.tdf_stim_lines.specs.Numbered.{global_at}
use Rattle.tdf_stim_lines.proofs.Walking.{ahead_more, ahead_none, loop_all, loop_more, seen_parts, walk_none}
use Rattle.tdf_stim_lines.proofs.blocks.number_globals.Goals as goal

pub loop-i-preserved : goal.loop-i-preserved
loop-i-preserved c =
    let loop = c.loop-i in
    let s = c.index_mut.result.now in
    let t = c.number_global-next.new.global in
    let within : loop.i < length loop.list.items = omega (arith, loop.invariant.unvisited.0, c.loop-i-test.true) in
    record {
      unvisited = ahead_more loop.i c.args.list.now.items loop.list.items t loop.invariant.unvisited;
      done = loop_more (seen_parts pure_global global_lines global_at) c.args.at loop.next c.number_global-next.result c.args.list.now.items loop.list.items loop.i s t
          loop.invariant.unvisited within c.index_mut.ensures.value loop.invariant.done c.number_global-next.ensures;
    }

pub loop-i-init : goal.loop-i-init
loop-i-init c = record { unvisited = ahead_none c.args.list.now.items; done = walk_none (seen_parts pure_global global_lines global_at) c.args.at }

pub returns : goal.returns
returns c =
    let past : length c.args.list.now.items ≤ c.loop-i.i = omega (arith, c.loop-i.invariant.unvisited.0, c.loop-i-test.false) in
    loop_all (map pure_global) c.args.at c.loop-i.next c.args.list.now.items c.loop-i.list.items c.loop-i.i c.loop-i.invariant.unvisited.0 past c.loop-i.invariant.done
