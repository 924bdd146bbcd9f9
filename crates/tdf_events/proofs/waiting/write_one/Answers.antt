use Rattle.std.proofs.Common.{rules}
use Rattle.tdf_events.proofs.Writing.{wrote}
use Rattle.tdf_events.proofs.waiting.write_one.Goals as goal

pub returns-then-assigned : goal.returns-then-assigned
returns-then-assigned c = wrote c.args.signal c.args.ports.now.state c.args.port c.args.ports.now.spans c.args.waiting.now c.put.new.self c.sample.result c.requires.port (search rules) c.sample.ensures.num c.sample.ensures.frac c.put.ensures
