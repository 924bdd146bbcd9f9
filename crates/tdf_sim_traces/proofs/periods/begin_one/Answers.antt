use Rattle.std.proofs.Common.{◌/◌, OnOk, subst}
use Rattle.tdf_trace.specs.Calls.{TakesPeriod}
use Rattle.tdf_trace_rows.specs.Positions.{span_of}
use Rattle.tdf_sim_traces.proofs.periods.begin_one.Goals as goal

pub returns-clause-took : goal.returns-clause-took
returns-clause-took c =
    subst (λ n. OnOk c.begin.result (TakesPeriod c.args.traced.signal (span_of c.args.time (c.args.cluster.now.period / n) n) c.args.tracking.now.list c.begin.new.self.list c.args.trace.now.rows c.begin.new.trace.rows)) c.positions-count.ensures
    (subst (λ s. OnOk c.begin.result (TakesPeriod c.args.traced.signal (span_of c.args.time s c.positions-count.result) c.args.tracking.now.list c.begin.new.self.list c.args.trace.now.rows c.begin.new.trace.rows)) c.step_of-step.ensures
    c.begin.ensures.took)
