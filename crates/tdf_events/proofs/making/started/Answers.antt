use Rattle.tdf_events.proofs.Tables.{start_flags}
use Rattle.tdf_events.proofs.making.started.Goals as goal

pub returns : goal.returns
returns c = start_flags c.args.processes.now c.trigger_starts.new.set.flags c.trigger_starts.ensures
