use Rattle.std.proofs.Common.{sym, subst}
use Rattle.tdf_trace.specs.Columns.{ColumnSeen}
use Rattle.tdf_trace.specs.machine.Putting.{AreInOrder}
use Rattle.tdf_trace.proofs.column.Column.put.Goals as goal

pub put_into-requires : goal.put_into-requires
put_into-requires c = subst (λ (v : ColumnSeen). AreInOrder v.held) (sym c.self.view_is) c.requires
