use Rattle.std.proofs.Common.{◌≡◌, subst, arith, length, take}
use Rattle.std.specs.Prelude.{Err}
use Rattle.tdf_balance.proofs.Answered.{fault_at, still_fine, solved_all}
use Rattle.tdf_balance.specs.Balance.{cluster_edges, edges_to}
use Rattle.tdf_balance.specs.views.Results.{IsNext}
use Rattle.tdf_balance.specs.views.Solution.{AreFine, AreLeast}
use Rattle.tdf_balance.proofs.cluster.solve.Goals as goal

pub returns-in-Err : goal.returns-in-Err
returns-in-Err c = fault_at c.args.count c.args.edges.now c.args.clusters.now c.args.cluster c.loop-k.k c.in-Err.why c.loop-k-test.true c.loop-k.invariant.fine
    (subst (λ n. IsNext n c.loop-k.k (edges_to c.args.clusters.now c.args.cluster c.args.edges.now c.loop-k.k) (Err c.in-Err.why)) c.loop-k.invariant.least.parts.long c.in-Err.ensures)

pub loop-k-preserved : goal.loop-k-preserved
loop-k-preserved c =
    let least : AreLeast c.args.count (edges_to c.args.clusters.now c.args.cluster c.args.edges.now c.loop-k.k) c.in-Ok.next.parts c.in-Ok.next.counts.items
    = subst (λ n. AreLeast n (edges_to c.args.clusters.now c.args.cluster c.args.edges.now c.loop-k.k) c.in-Ok.next.parts c.in-Ok.next.counts.items) c.loop-k.invariant.least.parts.long c.in-Ok.ensures in
    record {
      fine = still_fine c.args.count c.args.edges.now c.args.clusters.now c.args.cluster c.loop-k.k c.in-Ok.next.parts c.in-Ok.next.counts.items c.requires.some c.loop-k.invariant.fine least;
      least = least;
    }

pub returns : goal.returns
returns c =
    let k_is : c.loop-k.k ≡ length c.args.edges.now = omega (arith, c.loop-k-test.false, c.loop-k.auto.k-end) in
    solved_all c.args.count c.args.edges.now c.args.clusters.now c.args.cluster c.loop-k.solution.parts c.loop-k.solution.counts.items
    (subst (AreFine c.args.edges.now c.args.clusters.now c.args.cluster) k_is c.loop-k.invariant.fine)
    (subst (λ n. AreLeast c.args.count (cluster_edges c.args.clusters.now c.args.cluster (take n c.args.edges.now)) c.loop-k.solution.parts c.loop-k.solution.counts.items) k_is c.loop-k.invariant.least)
