use Rattle.std.proofs.Common.{length}
use Rattle.tdf_trace.proofs.Kept.{given_none_waits}
use Rattle.tdf_trace.proofs.rows.is_held_back.Goals as goal

pub returns-then-not-rows-clause-none : goal.returns-then-not-rows-clause-none
returns-then-not-rows-clause-none c _ _ = given_none_waits c.args.rows.now.columns.items c.args.rows.now.least c.args.time (length c.args.rows.now.columns.items) c.args.rows.now.announces c.requires.kept c.if-not-rows.true
