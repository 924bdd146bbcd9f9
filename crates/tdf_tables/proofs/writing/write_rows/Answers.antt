use Rattle.tdf_io.proofs.Api.{writes_none}
use Rattle.tdf_tables.proofs.Texts.{before_none, write_more, write_stop}
use Rattle.tdf_tables.proofs.writing.write_rows.Goals as goal

pub loop-k-init : goal.loop-k-init
loop-k-init g c = rw (before_none c.args.rows.now) (writes_none g.K.Sink.taken g.K.Sink.faults c.args.sink.now tt)

pub returns-in-Err : goal.returns-in-Err
returns-in-Err g c = write_stop g.K.Sink.taken g.K.Sink.faults _ _ _ c.args.rows.now c.loop-k.k _ c.in-Err.error c.loop-k-test.true c.loop-k.invariant c.in-Err.ensures

pub loop-k-preserved : goal.loop-k-preserved
loop-k-preserved g c = write_more g.K.Sink.taken g.K.Sink.faults _ _ _ c.args.rows.now c.loop-k.k _ c.loop-k-test.true c.loop-k.invariant c.in-Ok.ensures
