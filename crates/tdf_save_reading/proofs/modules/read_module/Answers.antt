use Rattle.tdf_save_reading.proofs.ModuleReads.{why_weaker}
use Rattle.tdf_save_reading.proofs.ModuleSteps.{narrower, other_counts}
use Rattle.tdf_save_reading.proofs.modules.read_module.Goals as goal

pub returns-then-not-has_counts-clause-refused : goal.returns-then-not-has_counts-clause-refused
returns-then-not-has_counts-clause-refused c = other_counts c.args.member.now c.args.text.now c.in-Ok.state c.in-Ok.rest.now c.in-Ok.ensures.is (c.has_counts.ensures.no c.if-not-has_counts.true)

pub returns-in-Err-clause-refused : goal.returns-in-Err-clause-refused
returns-in-Err-clause-refused c = why_weaker c.in-Err.why (narrower c.args.member.now c.args.text.now) c.in-Err.ensures.refused
