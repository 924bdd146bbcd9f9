use Rattle.std.proofs.Common.{length}
use Rattle.tdf_timestep.proofs.Unwhole.{port_more}
use Rattle.tdf_timestep.proofs.exact.first_unwhole.Goals as goal

pub loop-number-preserved : goal.loop-number-preserved
loop-number-preserved c = port_more c.args.net.now.ports.items c.args.counts.now c.args.period (length c.args.counts.now) c.loop-number.number c.loop-number.best c.consider-best.result
    c.port_spot.result c.port_spot.ensures.number c.port_spot.ensures.own c.consider-best.ensures c.loop-number.invariant
