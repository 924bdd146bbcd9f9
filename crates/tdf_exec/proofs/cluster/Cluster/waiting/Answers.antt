use Rattle.std.proofs.Common.{◌≡◌, ◌-◌, ◌≤◌, arith, length, rules, subst}
use Rattle.std.specs.Vec.{vec_len}
use Rattle.tdf_exec.proofs.Counts.{few_due}
use Rattle.tdf_exec.proofs.cluster.Cluster.waiting.Goals as goal
use Rattle.tdf_exec.specs.Cluster.{ClusterOf, due_count}

pub returns-clause-left : goal.returns-clause-left
returns-clause-left c =
    let count : vec_len c.self.inside.plan.entries ≡ length c.self.inside.plan.entries.items = search rules in
    subst (λ (x : ClusterOf). c.saturating_sub.result ≡ length x.entries - x.place) c.self.view_is
    (omega (arith, count, c.len.ensures, c.saturating_sub.ensures))

pub returns-clause-due : goal.returns-clause-due
returns-clause-due c offset =
    let count : vec_len c.self.inside.plan.entries ≡ length c.self.inside.plan.entries.items = search rules in
    let few = few_due c.self.inside.place offset c.self.inside.plan.entries.items in
    subst (λ (x : ClusterOf). due_count x offset ≤ c.saturating_sub.result) c.self.view_is
    (omega (arith, few, count, c.len.ensures, c.saturating_sub.ensures))
