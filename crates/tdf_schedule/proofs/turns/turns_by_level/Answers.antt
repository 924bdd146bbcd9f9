use Rattle.std.proofs.Common.{◌≡◌, arith, length, subst}
use Rattle.tdf_schedule.proofs.Gains.{levels_none, levels_more}
use Rattle.tdf_schedule.specs.views.Turns.{AreByLevel}
use Rattle.tdf_schedule.proofs.turns.turns_by_level.Goals as goal

pub loop-actor-init : goal.loop-actor-init
loop-actor-init c = levels_none c.args.table.now.items c.new-levels.result.items c.new-levels.ensures.items

pub loop-actor-preserved : goal.loop-actor-preserved
loop-actor-preserved c = levels_more c.loop-actor.actor c.args.table.now.items c.loop-actor.levels.items c.add_turns.new.levels.items c.loop-actor.invariant c.in_ok-add_turns.ensures

pub returns : goal.returns
returns c = subst (λ n. AreByLevel n c.args.table.now.items c.loop-actor.levels.items)
    (let n : c.loop-actor.actor ≡ length c.args.table.now.items = omega (arith, c.loop-actor-test.false, c.loop-actor.auto.actor-end, c.len-actor-end.ensures, c.args.table.now.ok) in n) c.loop-actor.invariant
