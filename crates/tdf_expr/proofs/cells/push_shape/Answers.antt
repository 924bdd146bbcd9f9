use Rattle.std.proofs.Common.{◌≡◌, Result, Ok, Err}
use Rattle.tdf_expr.proofs.Pushes.{written_many, pushed}
use Rattle.tdf_expr.proofs.cells.push_shape.Goals as goal

pub returns : goal.returns
returns c = pushed c.args.formats.now.items c.push_formats.new.formats.items c.args.shape c.format_of.result c.args.count c.push_formats.result c.format_of.ensures c.push_formats.ensures
