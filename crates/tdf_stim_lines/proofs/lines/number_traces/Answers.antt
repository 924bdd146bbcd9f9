use Rattle.std.proofs.Common.{◌<◌, ◌≤◌, length, map, arith}
use Rattle.tdf_lang_tree.specs.Views.{pure_trace}
use Rattle.tdf_stim_lines.specs.Numbered.{trace_at}
use Rattle.tdf_stim_lines.proofs.Walking.{ahead_more, ahead_none, line_walks, loop_all, loop_more, seen_lines, walk_none}
use Rattle.tdf_stim_lines.proofs.lines.number_traces.Goals as goal

pub loop-i-preserved : goal.loop-i-preserved
loop-i-preserved c =
    let loop = c.loop-i in
    let s = c.index_mut.result.now in
    let t = c.set_trace.new.trace in
    let next = c.saturating_add-next.result in
    let within : loop.i < length loop.list.items = omega (arith, loop.invariant.unvisited.0, c.loop-i-test.true) in
    record {
      small = omega (arith, c.saturating_add-next.ensures);
      unvisited = ahead_more loop.i c.args.list.now.items loop.list.items t loop.invariant.unvisited;
      done = loop_more (seen_lines pure_trace trace_at) c.args.at loop.next next c.args.list.now.items loop.list.items loop.i s t
          loop.invariant.unvisited within c.index_mut.ensures.value loop.invariant.done
          (line_walks trace_at loop.next next (pure_trace s) (pure_trace t) loop.invariant.small c.saturating_add-next.ensures c.set_trace.ensures);
    }

pub loop-i-init : goal.loop-i-init
loop-i-init c = record { small = omega arith; unvisited = ahead_none c.args.list.now.items; done = walk_none (seen_lines pure_trace trace_at) c.args.at }

pub returns : goal.returns
returns c =
    let past : length c.args.list.now.items ≤ c.loop-i.i = omega (arith, c.loop-i.invariant.unvisited.0, c.loop-i-test.false) in
    loop_all (map pure_trace) c.args.at c.loop-i.next c.args.list.now.items c.loop-i.list.items c.loop-i.i c.loop-i.invariant.unvisited.0 past c.loop-i.invariant.done
