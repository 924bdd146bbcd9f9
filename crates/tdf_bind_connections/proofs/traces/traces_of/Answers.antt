use Rattle.std.proofs.Common.{IfErr, subst}
use Rattle.tdf_bind_connections.proofs.TraceLoops.{traces_are, unknown_are, none_unknown, if_ok_more, on_ok_more}
use Rattle.tdf_bind_connections.specs.Traces.{IsTraceRefusal}
use Rattle.tdf_bind_connections.proofs.traces.traces_of.Goals as goal

pub returns-clause-traces : goal.returns-clause-traces
returns-clause-traces c = if_ok_more (λ rows fits. traces_are c.args.tables.now c.longest.result c.in_ok-paths.paths c.in_ok-paths.ensures rows.items c.args.lines.now c.longest.ensures fits) c.rows_by-rows.result c.rows_by-rows.ensures.rows

pub returns-clause-fine : goal.returns-clause-fine
returns-clause-fine c = on_ok_more (λ rows fits. none_unknown c.args.tables.now rows.items c.args.lines.now (traces_are c.args.tables.now c.longest.result c.in_ok-paths.paths c.in_ok-paths.ensures rows.items c.args.lines.now c.longest.ensures fits)) c.rows_by-rows.result c.rows_by-rows.ensures.rows

pub returns-clause-refused : goal.returns-clause-refused
returns-clause-refused c = subst (λ unknown. IfErr c.rows_by-rows.result (IsTraceRefusal unknown))
    (unknown_are c.args.tables.now c.longest.result c.in_ok-paths.paths c.in_ok-paths.ensures c.args.lines.now c.longest.ensures) c.rows_by-rows.ensures.refused
