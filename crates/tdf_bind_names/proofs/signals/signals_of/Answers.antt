use Rattle.std.proofs.Common.{subst}
use Rattle.std.specs.List.{AllZip}
use Rattle.tdf_bind_names.proofs.Lists.{signals_more}
use Rattle.tdf_bind_names.proofs.signals.signals_of.Goals as goal
use Rattle.tdf_bind_names.specs.Signals.{declared_by, IsSignal}
use Rattle.tdf_bind_names.specs.machine.Lists.{list_of}

pub loop-member-preserved : goal.loop-member-preserved
loop-member-preserved c =
    signals_more c.args.globals.now c.deref-member-items.result.now c.loop-member.member-index c.member-item.result c.loop-member.out.items c.push_signal.new.out.items (list_of c.in_ok-signal.signal)
    c.loop-member-test.true c.loop-member.invariant
    (subst (λ m. AllZip (IsSignal c.args.globals.now) (declared_by m) (list_of c.in_ok-signal.signal)) c.member-item.is c.in_ok-signal.ensures)
    c.in_ok-push_signal.ensures
