use Rattle.tdf_stim.proofs.Loops.{members_more}
use Rattle.tdf_stim.proofs.Maps.{or_false}
use Rattle.tdf_stim.specs.machine.Maps.{holds}
use Rattle.tdf_stim.proofs.names.Names.add_members.Goals as goal

pub loop-member-init : goal.loop-member-init
loop-member-init c = λ name. or_false (holds c.args.self.now name)

pub loop-member-preserved : goal.loop-member-preserved
loop-member-preserved c = members_more (holds c.args.self.now) (holds c.loop-member.self) (holds c.add_member.new.self) c.args.members.now c.loop-member.member-index c.member-item.result
    c.loop-member-test.true c.member-item.is c.loop-member.invariant c.in_ok-add_member.ensures
