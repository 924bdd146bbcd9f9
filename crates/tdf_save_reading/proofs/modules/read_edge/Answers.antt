use Rattle.std.proofs.Common.{codes}
use Rattle.std.specs.Fmt.{signed_decimal}
use Rattle.std.specs.List.{AllByRecursion}
use Rattle.tdf_save_reading.proofs.ModuleReads.{edge_front, front_absent, front_none, front_piece, path_front, why_weaker}
use Rattle.tdf_save.specs.Members.{IsNum}
use Rattle.tdf_save.specs.Text.{saved_edge}
use Rattle.tdf_save_reading.specs.machine.Lists.{list_text}
use Rattle.tdf_save.specs.machine.Pieces.{Any}
use Rattle.tdf_save_reading.proofs.modules.read_edge.Goals as goal

pub returns-in-Ok-clause-is : goal.returns-in-Ok-clause-is
returns-in-Ok-clause-is c = front_piece (path_front (codes "edge") c.args.path.now) (saved_edge c.args.path.now) (list_text signed_decimal) (AllByRecursion IsNum) Any c.args.text.now c.in-Some.rest.now c.in-Ok.nums.items c.in-Ok.left.now
    (edge_front c.args.path.now) c.in-Some.ensures c.in-Ok.ensures.is

pub returns-in-Err-clause-refused : goal.returns-in-Err-clause-refused
returns-in-Err-clause-refused c = why_weaker c.in-Err.why (front_none (path_front (codes "edge") c.args.path.now) (saved_edge c.args.path.now) (list_text signed_decimal) (AllByRecursion IsNum) Any c.args.text.now c.in-Some.rest.now (edge_front c.args.path.now) c.in-Some.ensures) c.in-Err.ensures.refused

pub returns-in-None-clause-refused : goal.returns-in-None-clause-refused
returns-in-None-clause-refused c = front_absent (path_front (codes "edge") c.args.path.now) (saved_edge c.args.path.now) (list_text signed_decimal) (AllByRecursion IsNum) Any c.args.text.now (edge_front c.args.path.now) c.in-None.ensures
