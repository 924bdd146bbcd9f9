use Rattle.std.proofs.Common.{ℕ, List, arith, length}
use Rattle.tdf_dynamic_texts.proofs.Own.{actor_texts_are, own_next, own_whole}
use Rattle.tdf_dynamic_texts.proofs.Texts.{kept_after}
use Rattle.tdf_dynamic_texts.specs.Plans.{actor_text, rows_of_plan}
use Rattle.tdf_dynamic_texts.proofs.plans.push_actors.Goals as goal

pub push_actor-requires-clause-place : goal.push_actor-requires-clause-place
push_actor-requires-clause-place c = c.requires.numbers.within c.loop-i.i c.loop-i-test.true

pub loop-i-preserved : goal.loop-i-preserved
loop-i-preserved c =
    let f : ℕ → List ℕ = actor_text c.args.lines.now.unit c.args.lines.now.flat.now (rows_of_plan c.args.lines.now.plan.now) c.args.lines.now.cluster in
    own_next f c.args.numbers.now c.loop-i.i c.args.out.now.items c.loop-i.out.items c.push_actor.new.out.items c.loop-i-test.true c.loop-i.invariant c.in_ok-push_actor.ensures.ok

pub returns-in_err-push_actor-clause-kept : goal.returns-in_err-push_actor-clause-kept
returns-in_err-push_actor-clause-kept c = kept_after c.args.out.now.items _ c.loop-i.out.items c.push_actor.new.out.items c.loop-i.invariant c.in_err-push_actor.ensures.kept

pub returns-clause-ok : goal.returns-clause-ok
returns-clause-ok c =
    let lines = c.args.lines.now in
    let f : ℕ → List ℕ = actor_text lines.unit lines.flat.now (rows_of_plan lines.plan.now) lines.cluster in
    own_whole f c.args.numbers.now c.loop-i.i (length lines.flat.now.actors) c.args.out.now.items c.loop-i.out.items (let past = c.loop-i-test.false in omega (arith, past)) c.loop-i.invariant
    (actor_texts_are lines.unit lines.flat.now (rows_of_plan lines.plan.now) lines.cluster c.args.numbers.now c.requires.numbers)
