use Rattle.std.proofs.Common.{◌∙◌, ap, map, drop, ◌+◌}
use Rattle.tdf_bind_attributes.proofs.Stood.{initial_next}
use Rattle.tdf_bind_attributes.proofs.initials.initials_of.Goals as goal
use Rattle.tdf_bind_attributes.specs.machine.Standing.{initial_put, initials_put}

pub loop-initial-preserved : goal.loop-initial-preserved
loop-initial-preserved c =
    let own = c.args.scope.now.own in
    let lines = c.deref-initial-items.result.now in
    let rest = drop (c.loop-initial.initial-index + 1) lines in
    ap (initials_put own rest) (c.in_ok-put_line.ensures ∙ ap (λ i. initial_put own i (map (λ m. m.entries) c.loop-initial.maps.items)) c.initial-item.is)
    ∙ initial_next own lines c.loop-initial.initial-index c.initial-item.result (map (λ m. m.entries) c.loop-initial.maps.items) c.loop-initial-test.true
    ∙ c.loop-initial.invariant
