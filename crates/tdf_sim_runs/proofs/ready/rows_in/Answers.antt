use Rattle.std.proofs.Common.{sym, subst}
use Rattle.tdf_saved.specs.State.{SnapshotOf}
use Rattle.tdf_sim_runs.proofs.ReopenedTelling.{tells}
use Rattle.tdf_sim_runs.proofs.ready.rows_in.Goals as goal
use Rattle.tdf_sim_runs.specs.machine.Standing.{clock_in}
use Rattle.tdf_sim_shown.specs.Columns.{CanTellColumns}

pub valid_rows-requires-clause-can : goal.valid_rows-requires-clause-can
valid_rows-requires-clause-can c = subst (λ (s : SnapshotOf). CanTellColumns c.args.flat.now (clock_in s c.args.since.now c.args.clusters.now)) (sym c.snapshot.view_is)
    (tells c.args.flat.now c.args.snapshot.now c.args.since.now c.args.clusters.now c.requires.can c.requires.times c.requires.members c.requires.since c.requires.clusters c.law_restored.ensures.clusters c.law_restored.ensures.plans
    c.law_can.ensures.shown)
