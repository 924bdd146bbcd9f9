use Rattle.tdf_stim.proofs.Loops.{types_more}
use Rattle.tdf_stim.specs.machine.Maps.{found_type}
use Rattle.tdf_stim.proofs.types.Types.of.Goals as goal

pub loop-global-preserved : goal.loop-global-preserved
loop-global-preserved c = types_more (found_type c.loop-global.types) (found_type c.add.new.self) c.args.globals.now c.loop-global.global-index c.global-item.result
    c.loop-global-test.true c.global-item.is c.loop-global.invariant c.in_ok-add.ensures
