use Rattle.std.proofs.Common.{arith}
use Rattle.tdf_sim_instants.proofs.Leasts.{next_kept, next_never, next_taken}
use Rattle.tdf_events.specs.Kernel.{side_of}
use Rattle.tdf_sim_instants.proofs.times.next_time.Goals as goal

pub returns-then-next-least : goal.returns-then-next-least
returns-then-next-least c = next_taken c.args.clusters.now c.args.since.now (side_of c.args.kernel.now) c.args.stop c.least_due-least.result c.least_due-least.ensures
    c.in-Some.next c.in-Some.ensures c.if-next-least.true

pub returns-else-next-least : goal.returns-else-next-least
returns-else-next-least c = next_kept c.args.clusters.now c.args.since.now (side_of c.args.kernel.now) c.args.stop c.least_due-least.result c.least_due-least.ensures
    c.in-Some.next c.in-Some.ensures (omega (arith, c.if-next-least.false))

pub returns-in-None : goal.returns-in-None
returns-in-None c = next_never c.args.clusters.now c.args.since.now (side_of c.args.kernel.now) c.args.stop c.least_due-least.result c.least_due-least.ensures c.in-None.ensures
