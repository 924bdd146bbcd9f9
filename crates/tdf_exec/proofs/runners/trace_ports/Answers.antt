use Rattle.std.proofs.Common.{rules, ◌<◌, length}
use Rattle.tdf_exec.proofs.Gains.{gains_none, ports_more, ports_room}
use Rattle.tdf_exec.proofs.Nexts.{get_read}
use Rattle.tdf_exec.proofs.runners.trace_ports.Goals as goal

pub loop-j-init : goal.loop-j-init
loop-j-init c = gains_none c.args.outputs.now

pub trace_port-requires-clause-room : goal.trace_port-requires-clause-room
trace_port-requires-clause-room c =
    let below : c.loop-j.j < length c.args.list.now.items = search rules in
    ports_room c.args.ports.now c.args.list.now.items c.loop-j.j c.index.result.now c.args.outputs.now c.loop-j.outputs
    (get_read c.args.list.now.items c.loop-j.j c.index.result.now below c.index.ensures) c.requires.room c.loop-j.invariant

pub loop-j-preserved : goal.loop-j-preserved
loop-j-preserved c =
    let below : c.loop-j.j < length c.args.list.now.items = search rules in
    ports_more c.args.ports.now c.args.list.now.items c.loop-j.j c.index.result.now c.args.outputs.now c.loop-j.outputs c.trace_port.new.outputs
    (get_read c.args.list.now.items c.loop-j.j c.index.result.now below c.index.ensures) c.loop-j.invariant c.trace_port.ensures
