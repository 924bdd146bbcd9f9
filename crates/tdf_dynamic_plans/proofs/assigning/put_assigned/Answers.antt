use Rattle.std.proofs.Common.{◌++◌, ◌∙◌, ap, arith, length, []}
use Rattle.std.proofs.Math.ListN.{get_or}
use Rattle.std.specs.List.{cons_option}
use Rattle.tdf_dynamic_plans.specs.Assignments.{assign_at}
use Rattle.tdf_dynamic_plans.specs.Attributes.{AttrsOf}
use Rattle.tdf_bind_connections.proofs.Api.{filtered_next}
use Rattle.tdf_dynamic_plans.proofs.assigning.put_assigned.Goals as goal

pub loop-place-preserved : goal.loop-place-preserved
loop-place-preserved c = filtered_next (assign_at c.args.attrs.now) c.args.attrs.now.steps c.loop-place.place c.index.result.now c.args.assigned.now.items c.loop-place.assigned.items c.put_assign.new.assigned.items
    (let t = c.loop-place-test.true in let e = c.len-place-end.ensures in let o = c.attrs.inside.steps.ok in let v = ap (λ (a : AttrsOf). length a.steps) c.attrs.view_is in omega (arith, t, e, o, v)) c.loop-place.invariant (c.index.ensures ∙ ap (λ (a : AttrsOf). get_or a.steps c.loop-place.place c.index.result.now) c.attrs.view_is)
    (c.in_ok-put_assign.ensures ∙ ap (λ o. c.loop-place.assigned.items ++ cons_option o []) c.assign_at.ensures)
