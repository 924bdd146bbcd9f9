use Rattle.std.proofs.Common.{◌∙◌, ◌-◌, ◌<◌, ◌≤◌, length, List, arith, ap, subst, sym}
use Rattle.std.proofs.Math.ListN.{get_or}
use Rattle.std.proofs.lemmas.List.{take_all}
use Rattle.std.proofs.lemmas.Option.{get_or_from_slice_get}
use Rattle.tdf_schedule.proofs.Gains.{row_read, gains_start, gains_reached, gains_more}
use Rattle.tdf_schedule.specs.declared.key.Key.{Key}
use Rattle.tdf_schedule.specs.views.Table.{row_at}
use Rattle.tdf_schedule.specs.views.Turns.{GainsTurns}
use Rattle.tdf_schedule.proofs.turns.add_turns.Goals as goal

pub loop-index-init : goal.loop-index-init
loop-index-init c = gains_start c.args.actor c.args.levels.now.items

pub loop-index-preserved : goal.loop-index-preserved
loop-index-preserved c =
    let within = subst (λ (l : List Key). c.loop-index.index < length l) (row_read c.args.table.now.items c.args.actor c.index-row.result.now c.requires.actor c.index-row.ensures) (let t = c.loop-index-test.true in let e = c.len-index-end.ensures in let w : c.loop-index.index < length c.index-row.result.now = omega (arith, t, e) in w) in
    gains_more c.args.actor c.loop-index.index c.key-level.result (row_at c.args.table.now.items c.args.actor) c.args.levels.now.items c.reach.new.levels.items c.add.new.lists.items c.key-level.result.level
    within c.in_ok-reach.ensures.there
    (ap (λ (key : Key). key.level) (ap (λ (l : List Key). get_or l c.loop-index.index c.key-level.result) (sym (row_read c.args.table.now.items c.args.actor c.index-row.result.now c.requires.actor c.index-row.ensures)) ∙ get_or_from_slice_get c.index-row.result.now c.loop-index.index c.key-level.result c.key-level.result c.key-level.ensures))
    (gains_reached c.args.actor (length c.reach.new.levels.items - length c.loop-index.levels.items) _ c.args.levels.now.items c.loop-index.levels.items c.reach.new.levels.items c.loop-index.invariant c.in_ok-reach.ensures.more)
    c.in_ok-add.ensures

pub returns : goal.returns
returns c = subst (λ (keys : List Key). GainsTurns c.args.actor keys c.args.levels.now.items c.loop-index.levels.items)
    (take_all c.loop-index.index (row_at c.args.table.now.items c.args.actor)
    (let f = c.loop-index-test.false in let e = c.len-index-end.ensures in let r = ap (λ (l : List Key). length l) (row_read c.args.table.now.items c.args.actor c.index-row.result.now c.requires.actor c.index-row.ensures) in let w : length (row_at c.args.table.now.items c.args.actor) ≤ c.loop-index.index = omega (arith, f, e, r) in w))
    c.loop-index.invariant
