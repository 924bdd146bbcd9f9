use Rattle.std.proofs.Common.{◌∙◌, ap, length}
use Rattle.tdf_exec.proofs.Greatest.{all_turns}
use Rattle.tdf_exec.specs.Cluster.{ClusterOf}
use Rattle.tdf_exec.specs.Played.{turns_from}
use Rattle.tdf_exec.proofs.cluster.Cluster.activations.Goals as goal

pub returns : goal.returns
returns c =
    c.firings_of.ensures ∙ all_turns c.deref-3.result.now c.args.actor
    ∙ ap (λ l. turns_from l 0 (length l) c.args.actor) c.deref-3.ensures.value
    ∙ ap (λ (s : ClusterOf). turns_from s.entries 0 (length s.entries) c.args.actor) c.self.view_is
