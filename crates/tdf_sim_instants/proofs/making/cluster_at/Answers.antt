use Rattle.std.proofs.Common.{subst}
use Rattle.std.specs.Prelude.{OnOk}
use Rattle.tdf_sim_refinement.specs.Below.{KeepsLayouts}
use Rattle.tdf_sim_instants.proofs.making.cluster_at.Goals as goal

pub returns-in-Ok-clause-others : goal.returns-in-Ok-clause-others
returns-in-Ok-clause-others c =
    subst (λ n. OnOk c.new.result (KeepsLayouts c.args.flat.now n c.args.layout.now c.new.new.layout)) c.in-Ok.ensures.number c.new.ensures.others
