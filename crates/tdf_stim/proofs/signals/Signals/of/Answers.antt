use Rattle.tdf_stim.proofs.Loops.{signals_more}
use Rattle.tdf_stim.specs.machine.Maps.{found_source, found_type}
use Rattle.tdf_stim.proofs.signals.Signals.of.Goals as goal

pub loop-member-preserved : goal.loop-member-preserved
loop-member-preserved c = signals_more (found_type c.args.types.now) (found_source c.loop-member.signals) (found_source c.add.new.self) c.args.members.now c.loop-member.member-index c.member-item.result
    c.loop-member-test.true c.member-item.is c.loop-member.invariant c.in_ok-add.ensures
