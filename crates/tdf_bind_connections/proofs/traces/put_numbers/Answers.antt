use Rattle.std.proofs.Common.{refl}
use Rattle.tdf_bind_connections.proofs.TraceLoops.{finds_next}
use Rattle.tdf_bind_connections.proofs.traces.put_numbers.Goals as goal

pub loop-i-preserved : goal.loop-i-preserved
loop-i-preserved c = finds_next c.args.tables.now c.args.limit c.args.numbers.now c.loop-i.i _ _ c.loop-i.paths c.put_number.new.paths
    c.loop-i-test.true c.loop-i.invariant refl c.in_ok-put_number.ensures
