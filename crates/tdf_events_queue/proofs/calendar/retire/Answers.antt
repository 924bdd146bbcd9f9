use Rattle.std.proofs.Common.{◌≡◌, ◌∙◌, ◌*◌, ◌/◌, ◌+◌, ◌<◌, false, true, length, length-set, slice_set, ap, subst, sym, arith}
use Rattle.tdf_events_queue.proofs.Nodes.{at_root, cancelled_stays, cancelled_up, other_node, stands}
use Rattle.tdf_events_queue.specs.machine.Calendar.{IsCancelled, earlier_of, is_of, node_at}
use Rattle.tdf_events_queue.proofs.calendar.retire.Goals as goal

pub loop-at-preserved : goal.loop-at-preserved
loop-at-preserved c =
    let nodes = c.loop-at.nodes.items in
    let at = c.loop-at.at in
    let long = c.loop-at.invariant.many in
    let bound = c.loop-at.invariant.within in
    let within : 2 * (at / 2) + 1 < length nodes = omega (arith, long, bound) in
    let here = stands nodes (at / 2) c.index.result.now (omega (arith, within)) c.index.ensures in
    let one = stands nodes (2 * (at / 2)) c.index-in-loop-at.result.now (omega (arith, within)) c.index-in-loop-at.ensures in
    let other = stands nodes (2 * (at / 2) + 1) c.index-in-loop-at-2.result.now within c.index-in-loop-at-2.ensures in
    let is : c.earlier.result ≡ earlier_of (node_at nodes (2 * (at / 2))) (node_at nodes (2 * (at / 2) + 1)) = c.earlier.ensures ∙ (λ i. earlier_of (one i) (other i)) in
    let of_it : is_of c.args.event (node_at nodes (at / 2)) ≡ true = ap (is_of c.args.event) (sym here) ∙ sym c.is_of.ensures ∙ c.if-not-is_of.false in
    record {
      many = length-set nodes (at / 2) c.earlier.result ∙ long;
      within = omega (arith, bound);
      leaves = λ k leaf. other_node nodes (at / 2) k c.earlier.result (λ e. omega (arith, e, leaf, bound)) ∙ c.loop-at.invariant.leaves k leaf;
      cancelled = subst (λ x. IsCancelled c.args.event (at / 2) (slice_set nodes (at / 2) x)) (sym is) (cancelled_up c.args.event at nodes within c.loop-at.invariant.cancelled c.loop-at-test.true of_it);
    }

pub returns-then-not-is_of-clause-earlier : goal.returns-then-not-is_of-clause-earlier
returns-then-not-is_of-clause-earlier c =
    let nodes = c.loop-at.nodes.items in
    let at = c.loop-at.at in
    let long = c.loop-at.invariant.many in
    let bound = c.loop-at.invariant.within in
    let within : 2 * (at / 2) + 1 < length nodes = omega (arith, long, bound) in
    let here = stands nodes (at / 2) c.index.result.now (omega (arith, within)) c.index.ensures in
    let of_other : is_of c.args.event (node_at nodes (at / 2)) ≡ false = ap (is_of c.args.event) (sym here) ∙ sym c.is_of.ensures ∙ c.if-not-is_of.true in
    cancelled_stays c.args.event at nodes within c.loop-at.invariant.cancelled c.loop-at-test.true of_other

pub returns-clause-earlier : goal.returns-clause-earlier
returns-clause-earlier c =
    let nodes = c.loop-at.nodes.items in
    let at = c.loop-at.at in
    let long = c.loop-at.invariant.many in
    let bound = c.loop-at.invariant.within in
    let within : 2 * (at / 2) + 1 < length nodes = omega (arith, long, bound) in
    let last = c.loop-at-test.false in
    at_root c.loop-at.invariant.cancelled.was at nodes within c.loop-at.invariant.cancelled.changed (omega (arith, last))
