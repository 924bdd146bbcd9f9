use Rattle.tdf_schedule.proofs.Plans.{always_deadlock, always_noncausal, always_plan}
use Rattle.tdf_schedule.specs.Plan.{pace_of}
use Rattle.tdf_schedule.proofs.cluster.plan.Goals as goal

pub returns-clause-deadlock_always : goal.returns-clause-deadlock_always
returns-clause-deadlock_always c few m dead = always_deadlock c.args.net.now.actors.items c.args.net.now.edges.items (pace_of c.args.net.now.actors.items c.args.steps.now.actor_steps.items) c.args.counts.now
    c.args.steps.now.period c.answer.result c.answer.ensures m dead

pub returns-clause-noncausal_always : goal.returns-clause-noncausal_always
returns-clause-noncausal_always c few m a late = always_noncausal c.args.net.now.actors.items c.args.net.now.edges.items (pace_of c.args.net.now.actors.items c.args.steps.now.actor_steps.items) c.args.counts.now
    c.args.steps.now.period c.answer.result c.answer.ensures m a late

pub returns-clause-plan_always : goal.returns-clause-plan_always
returns-clause-plan_always c few causal = always_plan c.args.net.now.actors.items c.args.net.now.edges.items (pace_of c.args.net.now.actors.items c.args.steps.now.actor_steps.items) c.args.counts.now
    c.args.steps.now.period c.answer.result c.answer.ensures causal
