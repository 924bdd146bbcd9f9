use Rattle.std.proofs.Common.{map}
use Rattle.tdf_tables.proofs.Texts.{write_joined, write_none}
use Rattle.tdf_tables.specs.Rows.{row_of}
use Rattle.tdf_tables.proofs.writing.write_table.Goals as goal

pub returns-in-Ok : goal.returns-in-Ok
returns-in-Ok g c = write_joined g.K.Sink.taken g.K.Sink.faults _ _ _ c.args.table.now (map row_of c.rows.result.now) c.write_rows.result c.rows.ensures c.in-Ok.ensures c.write_rows.ensures

pub returns : goal.returns
returns g c = write_none g.K.Sink.taken g.K.Sink.faults _ _ c.args.table.now c.in-Err.error c.in-Err.ensures
