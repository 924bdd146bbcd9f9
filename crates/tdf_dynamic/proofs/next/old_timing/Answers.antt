use Rattle.std.proofs.Common.{◌∙◌, ap, sym}
use Rattle.tdf_dynamic_plans.proofs.Api.{timing_same, true_at}
use Rattle.tdf_dynamic_plans.specs.Rates.{net_of}
use Rattle.tdf_timestep.specs.declared.assign.Steps.{Steps}
use Rattle.tdf_dynamic.proofs.next.old_timing.Goals as goal

pub returns-in_ok-copy-in-Some-clause-timing : goal.returns-in_ok-copy-in-Some-clause-timing
returns-in_ok-copy-in-Some-clause-timing c =
    let here = c.in-Some.ensures.known in
    let there = c.timing.ensures here.0 here.1 in
    timing_same c.args.at.now.flat.now.tables (net_of c.args.at.now.flat.now.tables c.args.at.now.table.now) c.args.at.now.cluster c.args.at.now.table.now here.0.counts c.in_ok-copy-in-Some.field-0.counts.items here.0.steps c.in_ok-copy-in-Some.field-0.steps
    (c.in_ok-copy-in-Some.ensures.counts ∙ there.0) (c.in_ok-copy-in-Some.ensures.steps ∙ ap (λ (s : Steps). s.actor_steps.items) there.1) (c.in_ok-copy-in-Some.ensures.period ∙ ap (λ (s : Steps). s.period) there.1)
    ((true_at c.args.at.now.flat.now.tables c.args.at.now.cluster c.args.known.now.plans c.in-Some.place here.0 c.requires.known here.1).timing c.args.at.now.table.now c.requires.table (sym here.2))
