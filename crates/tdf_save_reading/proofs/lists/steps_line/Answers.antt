use Rattle.std.proofs.Common.{decimal}
use Rattle.tdf_save_reading.proofs.ModuleReads.{line_absent, line_none, line_piece, why_weaker}
use Rattle.tdf_save.specs.Members.{IsCount64}
use Rattle.tdf_save_reading.proofs.lists.steps_line.Goals as goal

pub returns-in-Ok-clause-is : goal.returns-in-Ok-clause-is
returns-in-Ok-clause-is c = line_piece c.args.keyword.now decimal IsCount64 c.args.text.now c.in-Some.rest.now c.in-Ok.list.items c.in-Ok.left.now c.in-Some.ensures c.in-Ok.ensures.is

pub returns-in-Err-clause-refused : goal.returns-in-Err-clause-refused
returns-in-Err-clause-refused c = why_weaker c.in-Err.why (line_none c.args.keyword.now decimal IsCount64 c.args.text.now c.in-Some.rest.now c.in-Some.ensures) c.in-Err.ensures.refused

pub returns-in-None-clause-refused : goal.returns-in-None-clause-refused
returns-in-None-clause-refused c = line_absent c.args.keyword.now decimal IsCount64 c.args.text.now c.in-None.ensures
