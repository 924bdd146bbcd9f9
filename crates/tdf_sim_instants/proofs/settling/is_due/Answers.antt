use Rattle.tdf_sim_instants.proofs.Calm.{due_never, due_next}
use Rattle.tdf_events.specs.Kernel.{side_of}
use Rattle.tdf_sim_instants.proofs.settling.is_due.Goals as goal

pub returns-in-Some : goal.returns-in-Some
returns-in-Some c = due_next c.args.time (side_of c.args.kernel.now) c.requires.before c.in-Some.next c.in-Some.ensures

pub returns-in-None : goal.returns-in-None
returns-in-None c = due_never c.args.time (side_of c.args.kernel.now) c.requires.before c.in-None.ensures
