use Rattle.tdf_stim.proofs.Loops.{globals_more}
use Rattle.tdf_stim.proofs.Maps.{or_false}
use Rattle.tdf_stim.specs.machine.Maps.{holds}
use Rattle.tdf_stim.proofs.names.Names.add_globals.Goals as goal

pub loop-global-init : goal.loop-global-init
loop-global-init c = λ name. or_false (holds c.args.self.now name)

pub loop-global-preserved : goal.loop-global-preserved
loop-global-preserved c = globals_more (holds c.args.self.now) (holds c.loop-global.self) (holds c.add_global.new.self) c.args.globals.now c.loop-global.global-index c.global-item.result
    c.loop-global-test.true c.global-item.is c.loop-global.invariant c.in_ok-add_global.ensures
