use Rattle.std.proofs.Common.{◌+◌, subst, sym, arith}
use Rattle.tdf_cluster_net.proofs.Grouped.{groups_more, groups_none, groups_whole}
use Rattle.tdf_cluster_net.specs.views.Grouping.{AreGroupsUpTo}
use Rattle.tdf_cluster_net.proofs.grouping.Groups.of.Goals as goal

pub loop-number-init : goal.loop-number-init
loop-number-init c = groups_none c.args.count c.args.of.now c.in_ok-rows.rows.items c.in_ok-rows.ensures

pub loop-number-preserved : goal.loop-number-preserved
loop-number-preserved c = subst (AreGroupsUpTo c.args.count c.args.of.now (c.loop-number.number + 1)) (sym c.in_ok-put.ensures)
    (groups_more c.args.count c.args.of.now c.loop-number.number c.loop-number.rows.items (c.requires.clusters c.loop-number.number c.loop-number-test.true) c.loop-number.invariant)

pub returns : goal.returns
returns c =
    let past = c.loop-number-test.false in
    let most = c.loop-number.auto.number-end in
    groups_whole c.args.count c.args.of.now c.loop-number.number c.loop-number.rows.items (omega (arith, past, most)) c.loop-number.invariant
