use Rattle.std.proofs.Common.{sym, subst, refl}
use Rattle.tdf_trace.proofs.trace.Trace.advance.Goals as goal
use Rattle.tdf_trace.specs.Stands.{AdvancesRows, Stands, TraceSeen}
use Rattle.tdf_trace.specs.views.Seen.{rows_seen}

pub returns-in-Ok-clause-wrote : goal.returns-in-Ok-clause-wrote
returns-in-Ok-clause-wrote g c cells h =
    let m = c.in-Ok.ensures.wrote cells (subst (λ (v : TraceSeen). Stands cells v.rows) (sym c.self.view_is) h) in
    subst (λ (v : TraceSeen). AdvancesRows v.about cells v.rows (rows_seen c.write_below.new.rows) (g.K.Sink.taken c.args.sink.now) (g.K.Sink.taken c.write_below.new.sink)) c.self.view_is
    (record { later = m.later; stands = m.stands; given = m.given refl; took = m.took })
