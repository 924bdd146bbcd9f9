use Rattle.std.proofs.Common.{◌≡◌, ◌∙◌, ◌*◌, ◌/◌, ◌+◌, ◌<◌, Some, false, true, length, length-set, ap, sym, arith}
use Rattle.tdf_events_queue.proofs.Nodes.{at_root, noticed_stays, noticed_up, other_node, stands}
use Rattle.tdf_events_queue.specs.machine.Calendar.{is_after, node_at}
use Rattle.tdf_events_queue.proofs.calendar.hurry.Goals as goal

pub loop-at-preserved : goal.loop-at-preserved
loop-at-preserved c =
    let nodes = c.loop-at.nodes.items in
    let at = c.loop-at.at in
    let long = c.loop-at.invariant.many in
    let bound = c.loop-at.invariant.within in
    let within : 2 * (at / 2) + 1 < length nodes = omega (arith, long, bound) in
    let here = stands nodes (at / 2) c.index.result.now (omega (arith, within)) c.index.ensures in
    let after : is_after c.args.new.time (node_at nodes (at / 2)) ≡ true = ap (is_after c.args.new.time) (sym here) ∙ sym c.is_after.ensures ∙ c.if-not-is_after.false in
    record {
      many = length-set nodes (at / 2) (Some c.args.new) ∙ long;
      within = omega (arith, bound);
      leaves = λ k leaf. other_node nodes (at / 2) k (Some c.args.new) (λ e. omega (arith, e, leaf, bound)) ∙ c.loop-at.invariant.leaves k leaf;
      noticed = noticed_up c.args.new at nodes within c.loop-at.invariant.noticed c.loop-at-test.true after;
    }

pub returns-then-not-is_after-clause-earlier : goal.returns-then-not-is_after-clause-earlier
returns-then-not-is_after-clause-earlier c =
    let nodes = c.loop-at.nodes.items in
    let at = c.loop-at.at in
    let long = c.loop-at.invariant.many in
    let bound = c.loop-at.invariant.within in
    let within : 2 * (at / 2) + 1 < length nodes = omega (arith, long, bound) in
    let here = stands nodes (at / 2) c.index.result.now (omega (arith, within)) c.index.ensures in
    let no_later : is_after c.args.new.time (node_at nodes (at / 2)) ≡ false = ap (is_after c.args.new.time) (sym here) ∙ sym c.is_after.ensures ∙ c.if-not-is_after.true in
    noticed_stays c.args.new at nodes within c.loop-at.invariant.noticed c.loop-at-test.true no_later

pub returns-clause-earlier : goal.returns-clause-earlier
returns-clause-earlier c =
    let nodes = c.loop-at.nodes.items in
    let at = c.loop-at.at in
    let long = c.loop-at.invariant.many in
    let bound = c.loop-at.invariant.within in
    let within : 2 * (at / 2) + 1 < length nodes = omega (arith, long, bound) in
    let last = c.loop-at-test.false in
    at_root c.loop-at.invariant.noticed.was at nodes within c.loop-at.invariant.noticed.changed (omega (arith, last))
