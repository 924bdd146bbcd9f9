use Rattle.std.proofs.Common.{arith, refl}
use Rattle.tdf_stim.proofs.CheckedRows.{count_more}
use Rattle.tdf_stim.specs.machine.Counted.{count_driving}
use Rattle.tdf_stim.proofs.checks.count_driving.Goals as goal

pub loop-source-init : goal.loop-source-init
unfolding count_driving
loop-source-init c = record { count = refl; few = omega arith }

pub loop-source-preserved : goal.loop-source-preserved
loop-source-preserved c =
    let more = count_more c.args.sources.now c.loop-source.source-index c.loop-source.count c.source-item.result c.loop-source-test.true c.source-item.is c.loop-source.invariant.count in
    grind (arith, more)
