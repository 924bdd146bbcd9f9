use Rattle.tdf_exec.proofs.Gains.{gains_none, trace_more, trace_room}
use Rattle.tdf_exec.proofs.runners.trace_port.Goals as goal

pub loop-i-init : goal.loop-i-init
loop-i-init c = gains_none c.args.outputs.now

pub put_traced-requires : goal.put_traced-requires
put_traced-requires c = trace_room c.args.ports.now c.args.traced c.loop-i.i c.args.outputs.now c.loop-i.outputs c.requires.room c.loop-i-test.true c.loop-i.invariant

pub loop-i-preserved : goal.loop-i-preserved
loop-i-preserved c =
    trace_more c.args.ports.now c.args.traced c.loop-i.i c.args.outputs.now c.loop-i.outputs c.put_traced.new.self c.sample.result c.requires.port
    c.sample.ensures.num c.sample.ensures.frac c.loop-i.invariant c.put_traced.ensures
