use Rattle.std.proofs.Common.{◌++◌, Ok, sym, subst}
use Rattle.std.specs.Bool.{⊤}
use Rattle.tdf_io.proofs.Api.{counts_then, writes_then}
use Rattle.tdf_io.specs.Bytes.{WritesText}
use Rattle.tdf_trace.proofs.Moving.{moves_end}
use Rattle.tdf_trace.proofs.trace.Trace.finish.Goals as goal
use Rattle.tdf_trace.specs.Stands.{Stands, TraceSeen}
use Rattle.tdf_trace.specs.Writings.{rows_text, writing_of}
use Rattle.tdf_trace.specs.views.Seen.{rows_seen}

pub returns-in-Ok-clause-wrote : goal.returns-in-Ok-clause-wrote
returns-in-Ok-clause-wrote g c cells h =
    let stands = subst (λ (v : TraceSeen). Stands cells v.rows) (sym c.self.view_is) h in
    let m = c.in-Ok.ensures.wrote cells stands in
    let first : WritesText {T = ⊤} g.K.Sink.taken g.K.Sink.faults c.args.sink.now c.write_below.new.sink (rows_text c.self.inside.about cells c.self.inside.rows.upto c.args.end) (Ok tt) = record {
      all = moves_end c.self.inside.about cells (rows_seen c.self.inside.rows) (rows_seen c.write_below.new.rows) c.args.end _ _ m c.in-Ok.ensures.within (c.in-Ok.ensures.done cells m.stands);
      part = tt;
      counted = c.in-Ok.ensures.counted;
    } in
    subst (λ (v : TraceSeen). WritesText g.K.Sink.taken g.K.Sink.faults c.args.sink.now c.write_tail.new.sink (rows_text v.about cells v.rows.upto c.args.end ++ (writing_of v.about).tail c.args.end) c.write_tail.result) c.self.view_is
    (writes_then g.K.Sink.taken g.K.Sink.faults _ _ _ (rows_text c.self.inside.about cells c.self.inside.rows.upto c.args.end) ((writing_of c.self.inside.about).tail c.args.end) tt _ first c.write_tail.ensures)

pub returns-in-Ok-clause-counted : goal.returns-in-Ok-clause-counted
returns-in-Ok-clause-counted g c = counts_then _ _ _ tt _ c.in-Ok.ensures.counted c.write_tail.ensures.counted
