use Rattle.std.proofs.Common.{refl}
use Rattle.tdf_bind_connections.proofs.DriverLoops.{writer_next}
use Rattle.tdf_bind_connections.proofs.drivers.drivers_of.Goals as goal

pub loop-i-preserved : goal.loop-i-preserved
loop-i-preserved c = writer_next c.args.count c.args.writers.now c.loop-i.i _ _ c.loop-i.drivers.items c.note.new.drivers.items
    c.loop-i-test.true c.loop-i.invariant refl c.note.ensures
