use Rattle.std.proofs.Common.{◌≡◌, ◌+◌, ◌<◌, List, arith, length, refl, subst, sym, rules}
use Rattle.std.proofs.lemmas.Option.{slice_get_read}
use Rattle.std.specs.Prelude.{Err}
use Rattle.tdf_sim_refinement.specs.Below.{ClusterOf}
use Rattle.tdf_sim_resumed.proofs.Onward.{all_made, made_with, none_made, same_why}
use Rattle.tdf_sim_resumed.specs.machine.Making.{AreMadeUpTo, AreMadeWith}
use Rattle.tdf_sim_resumed.proofs.making.clusters_with.Goals as goal

pub loop-n-init : goal.loop-n-init
loop-n-init c = none_made c.args.flat.now c.args.states.now c.args.time c.new-clusters.result.items c.args.layout.now c.new-clusters.ensures.items c.requires.layout

pub restored_cluster-requires-clause-layout : goal.restored_cluster-requires-clause-layout
restored_cluster-requires-clause-layout c = c.loop-n.invariant.left (c.loop-n.n + 1) (omega arith)

pub loop-n-preserved : goal.loop-n-preserved
loop-n-preserved c =
    let f = c.args.flat.now in let states = c.args.states.now in
    let below : c.loop-n.n < length states = search rules in
    let at = slice_get_read states (length states) c.loop-n.n c.index-states-n.result refl below c.index-states-n.is in
    subst (λ (l : List ClusterOf). AreMadeWith f states c.args.time (c.loop-n.n + 1) l c.restored_cluster.new.layout) (sym c.in_ok-put-in-Ok.ensures)
    (made_with f states c.args.time c.loop-n.n c.loop-n.clusters.items c.loop-n.layout c.restored_cluster.new.layout c.index-states-n.result c.in-Ok.cluster c.loop-n.invariant at
    c.in-Ok.ensures.made c.in-Ok.ensures.others)

pub returns-in-Err-clause-bad : goal.returns-in-Err-clause-bad
returns-in-Err-clause-bad c = λ bad are.
    (let states = c.args.states.now in
    let below : c.loop-n.n < length states = search rules in
    let at = slice_get_read states (length states) c.loop-n.n c.index-states-n.result refl below c.index-states-n.is in
    c.in-Err.ensures.bad (same_why c.in-Err.failed (Err c.in-Err.failed) (Err c.in-Err.failed) refl refl bad) (are c.loop-n.n c.index-states-n.result at))

pub returns-clause-made : goal.returns-clause-made
returns-clause-made c =
    let f = c.args.flat.now in let states = c.args.states.now in
    let n : c.loop-n.n ≡ length states = omega (arith, c.loop-n-test.false, c.loop-n.auto.n-end) in
    all_made f states c.args.time c.loop-n.clusters.items (subst (λ k. AreMadeUpTo f states c.args.time k c.loop-n.clusters.items) n c.loop-n.invariant.made)
