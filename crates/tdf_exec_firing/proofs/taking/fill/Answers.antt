use Rattle.tdf_expr.specs.Frames.{IsOfFormat}
use Rattle.tdf_exec_firing.proofs.Fills.{all_at, fill_more, old_span}
use Rattle.tdf_exec_firing.proofs.taking.fill.Goals as goal

pub set-requires-clause-format : goal.set-requires-clause-format
set-requires-clause-format c = λ p at.
    all_at (IsOfFormat p.format) c.args.ring.now.samples c.loop-i.i c.read.result
    (c.requires.can.formats p (old_span c.loop-i.ports.state.samples c.args.ports.now c.loop-i.ports c.args.port p c.loop-i.invariant.rest at)) c.read.ensures

pub loop-i-preserved : goal.loop-i-preserved
loop-i-preserved c =
    fill_more c.args.port c.loop-i.i c.args.n c.args.ring.now.samples c.read.result c.args.ports.now c.loop-i.ports c.set.new.self c.requires.can c.loop-i-test.true
    c.loop-i.invariant c.read.ensures c.set.ensures
