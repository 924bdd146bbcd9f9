use Rattle.std.proofs.Common.{◌≡◌, ◌∙◌, ◌+◌, ◌++◌, ◌∷◌, [], List, Some, arith, length, ap, subst, sym, rules}
use Rattle.std.proofs.lemmas.Iterator.Adapters.{YieldsList-from_vec}
use Rattle.std.proofs.lemmas.Iterator.Consumers.{YieldsList-turn}
use Rattle.std.proofs.lemmas.Option.{slice_get-get_or}
use Rattle.tdf_sim_instants.proofs.Beginning.{begun_with, none_begun, plan_here}
use Rattle.tdf_sim_instants.specs.machine.Making.{HaveBegunWith}
use Rattle.tdf_sim_refinement.specs.Below.{ClusterOf}
use Rattle.tdf_sim_instants.proofs.making.clusters_with.Goals as goal

pub cluster_at-requires-clause-plan : goal.cluster_at-requires-clause-plan
cluster_at-requires-clause-plan c =
    let t = YieldsList-turn (YieldsList-from_vec {s = c.into_iter-first-iterator.result} c.args.firsts.items (cc) (cc)) c.loop-first.yielded c.loop-first.first-iterator c.loop-first.yielded_by c.next.result c.next.new.self c.in-Some.first c.in-Some.is c.next.ensures.steps in
    plan_here c.args.flat.now c.args.firsts.items c.len.result (length c.loop-first.yielded) c.in-Some.first c.requires.plans
    (slice_get-get_or c.args.firsts.items (length c.loop-first.yielded) c.in-Some.first t.0 ∙ ap Some (sym t.1)) (search rules)

pub loop-first-init : goal.loop-first-init
loop-first-init c = none_begun c.args.flat.now c.new-clusters.result.items c.args.layout.now c.new-clusters.ensures.items c.requires.layout

pub cluster_at-requires-clause-layout : goal.cluster_at-requires-clause-layout
cluster_at-requires-clause-layout c =
    let n : c.len.result ≡ length c.loop-first.clusters.items = search rules in
    c.loop-first.invariant.left (c.len.result + 1) (omega (arith, n))

pub loop-first-preserved : goal.loop-first-preserved
loop-first-preserved c =
    subst (λ (l : List ClusterOf). HaveBegunWith c.args.flat.now (c.loop-first.yielded ++ c.in-Some.first ∷ []) l c.cluster_at.new.layout) (sym c.in_ok-push.ensures.items)
    (begun_with c.args.flat.now c.loop-first.yielded c.loop-first.clusters.items c.loop-first.layout c.cluster_at.new.layout c.len.result c.in-Some.first c.in_ok-cluster.cluster
    c.loop-first.invariant (search rules) c.in_ok-cluster.ensures.begun c.in_ok-cluster.ensures.others)
