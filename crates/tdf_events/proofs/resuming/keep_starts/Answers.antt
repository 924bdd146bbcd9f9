use Rattle.std.proofs.Common.{arith}
use Rattle.tdf_events.proofs.Onward.{starts_gone, starts_kept}
use Rattle.tdf_events.proofs.resuming.keep_starts.Goals as goal

pub returns-then-time-gt0 : goal.returns-then-time-gt0
returns-then-time-gt0 c = starts_gone c.args.time c.args.triggered.now.flags c.clear.new.self.flags c.if-time-gt0.true c.clear.ensures.flags

pub returns-else-time-gt0 : goal.returns-else-time-gt0
returns-else-time-gt0 c = starts_kept c.args.time c.args.triggered.now.flags (omega (arith, c.if-time-gt0.false))
