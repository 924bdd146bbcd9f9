use Rattle.std.proofs.Common.{◌∙◌, refl}
use Rattle.tdf_sim_shown.proofs.Going.{more_taken, none_taken}
use Rattle.tdf_sim_shown.proofs.resumed.resume_all.Goals as goal
use Rattle.tdf_sim_traces.specs.Periods.{clock_of}

pub loop-column-init : goal.loop-column-init
loop-column-init c = (none_taken c.args.flat.now (clock_of c.args.clock.now) c.args.states.now c.args.rows c.args.tracking.now.list, refl)

pub loop-column-preserved : goal.loop-column-preserved
loop-column-preserved c = (
  more_taken c.args.flat.now (clock_of c.args.clock.now) c.args.states.now c.args.rows c.loop-column.column c.args.tracking.now.list c.loop-column.tracking.list c.resume_column.new.tracking.list c.loop-column.invariant.0
      c.in_ok-resume_column.ensures.took,
  c.resume_column.ensures.width ∙ c.loop-column.invariant.1,
)
