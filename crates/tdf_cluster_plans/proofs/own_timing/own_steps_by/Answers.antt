use Rattle.std.proofs.Common.{refl}
use Rattle.std.specs.Prelude.{Err}
use Rattle.tdf_cluster_plans.proofs.OwnNets.{assign_there}
use Rattle.tdf_cluster_plans.proofs.OwnPlans.{few_told, fit_told, steps_refused_told, steps_told}
use Rattle.tdf_cluster_plans.proofs.own_timing.own_steps_by.Goals as goal

pub own_assigned-requires : goal.own_assigned-requires
own_assigned-requires c = assign_there c.args.tables.now c.args.cluster c.args.table.now c.args.own.now c.requires.net c.args.counts.now.items c.requires.counts c.args.assigned.now c.requires.assigned

pub steps-requires-clause-few : goal.steps-requires-clause-few
steps-requires-clause-few c = few_told c.args.tables.now c.args.cluster c.args.table.now c.args.own.now c.requires.net c.args.counts.now.items c.in_ok-own_counts.own_counts.items c.requires.counts
    c.in_ok-own_counts.ensures.long c.in_ok-own_counts.ensures.each c.args.assigned.now c.in_ok-own_assigned.own_assigned.items c.in_ok-own_assigned.ensures.are c.in_ok-own_assigned.ensures.inside
    c.net.result.now.ports.items c.net.ensures.ports c.deref.result.now c.deref.ensures.value c.deref-2.result.now c.deref-2.ensures.value

pub steps-requires-clause-assigned : goal.steps-requires-clause-assigned
steps-requires-clause-assigned c = fit_told c.args.tables.now c.args.cluster c.args.table.now c.args.own.now c.requires.net c.args.counts.now.items c.in_ok-own_counts.own_counts.items c.requires.counts
    c.in_ok-own_counts.ensures.long c.in_ok-own_counts.ensures.each c.args.assigned.now c.in_ok-own_assigned.own_assigned.items c.in_ok-own_assigned.ensures.are c.in_ok-own_assigned.ensures.inside
    c.net.result.now.ports.items c.net.ensures.ports c.deref.result.now c.deref.ensures.value c.deref-2.result.now c.deref-2.ensures.value c.requires.assigned

pub returns-in-Ok-clause-steps : goal.returns-in-Ok-clause-steps
returns-in-Ok-clause-steps c = steps_told c.args.tables.now c.args.cluster c.args.table.now c.args.own.now c.requires.net c.args.counts.now.items c.in_ok-own_counts.own_counts.items c.requires.counts
    c.in_ok-own_counts.ensures.long c.in_ok-own_counts.ensures.each c.args.assigned.now c.in_ok-own_assigned.own_assigned.items c.in_ok-own_assigned.ensures.are c.in_ok-own_assigned.ensures.inside
    c.net.result.now.ports.items c.net.ensures.ports c.deref.result.now c.deref.ensures.value c.deref-2.result.now c.deref-2.ensures.value c.requires.are
    c.in-Ok.steps c.spread_steps.result c.in-Ok.ensures.steps c.len-in-Ok.result c.len-in-Ok.ensures c.spread_steps.ensures.steps c.spread_steps.ensures.period

pub returns-clause-refused : goal.returns-clause-refused
returns-clause-refused c = steps_refused_told c.args.tables.now c.args.cluster c.args.table.now c.args.own.now c.requires.net c.args.counts.now.items c.in_ok-own_counts.own_counts.items c.requires.counts
    c.in_ok-own_counts.ensures.long c.in_ok-own_counts.ensures.each c.args.assigned.now c.in_ok-own_assigned.own_assigned.items c.in_ok-own_assigned.ensures.are c.in_ok-own_assigned.ensures.inside
    c.net.result.now.ports.items c.net.ensures.ports c.deref.result.now c.deref.ensures.value c.deref-2.result.now c.deref-2.ensures.value c.requires.are
    (Err c.in-Err.why) c.in-Err.ensures.no_timestep c.in-Err.ensures.disagree c.in-Err.ensures.too_long c.in-Err.ensures.inexact c.in-Err.why c.whole_timing.result c.step_error.result refl c.whole_timing.ensures c.step_error.ensures
