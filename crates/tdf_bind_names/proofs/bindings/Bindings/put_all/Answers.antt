use Rattle.std.proofs.Common.{◌∙◌, ap}
use Rattle.tdf_bind_names.proofs.LinesBound.{targets_more}
use Rattle.tdf_bind_names.proofs.bindings.Bindings.put_all.Goals as goal
use Rattle.tdf_bind_names.specs.Targets.{target_after}
use Rattle.tdf_bind_names.specs.machine.Bindings.{target_at}

pub loop-member-preserved : goal.loop-member-preserved
loop-member-preserved c =
    targets_more c.args.inside.now c.deref-member-items.result.now c.loop-member.member-index c.member-item.result c.loop-member.self c.put.new.self
    c.loop-member-test.true c.loop-member.invariant
    (λ i p. c.in_ok-put.ensures i p ∙ ap (target_after c.args.inside.now i p (target_at c.loop-member.self i p)) c.member-item.is)
