use Rattle.tdf_bind_hierarchy.proofs.Steps.{is_put_next}
use Rattle.tdf_bind_hierarchy.proofs.walk.put_signals.Goals as goal

pub loop-line-preserved : goal.loop-line-preserved
loop-line-preserved c = is_put_next c.args.path.now c.deref-line-items.result.now c.loop-line.line-index c.line-item.result c.in_ok-signal.signal c.args.tables.now c.loop-line.own.items c.loop-line.tables c.in_ok-put_signal.field-0 c.push.new.self.items c.put_signal.new.self
    c.loop-line-test.true c.loop-line.invariant c.line-item.is c.in_ok-signal.ensures c.in_ok-put_signal.ensures.number c.in_ok-push.ensures.items c.in_ok-put_signal.ensures.tables
