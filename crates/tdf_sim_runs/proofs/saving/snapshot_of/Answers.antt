use Rattle.std.proofs.Common.{refl}
use Rattle.tdf_sim_runs.proofs.Snapshot.{is_snapshot_of}
use Rattle.tdf_sim_runs.proofs.saving.snapshot_of.Goals as goal
use Rattle.tdf_sim_runs.specs.Saving.{is_vcd}

pub cluster_states-requires-clause-going : goal.cluster_states-requires-clause-going
cluster_states-requires-clause-going c = λ n d at. (c.requires.can.engine.clusters n d at).going

pub returns : goal.returns
returns c = is_snapshot_of c.law_saved.ensures c.args.flat.now c.args.run.now c.requires.can c.args.turns (is_vcd c.args.kind) _ c.is_vcd.ensures refl c.saturating_sub.ensures refl
    c.in_ok-clusters.ensures c.in_ok-kernel.ensures c.in_ok-columns.ensures
