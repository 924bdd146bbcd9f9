use Rattle.std.proofs.Common.{arith}
use Rattle.tdf_io.proofs.Api.{front_more}
use Rattle.tdf_sim_notes.specs.Ending.{end_text}
use Rattle.tdf_sim_runs.proofs.Answering.{always_ok}
use Rattle.tdf_sim_runs.proofs.Counting.{counts_from, counts_other}
use Rattle.tdf_sim_runs.proofs.Resting.{goes_on_as, rows_of_rest}
use Rattle.tdf_sim_runs.proofs.rest.go_on.Goals as goal
use Rattle.tdf_sim_runs.specs.Rest.{rest_end}

pub close_run-requires-clause-width : goal.close_run-requires-clause-width
close_run-requires-clause-width g c =
    let some = c.requires.can.some in
    let e = c.in-Ok.ensures.ends.ends.ends some.model some.start some.handed some.of some.is in
    let w = e.shown.width in
    let l = e.shown.columns in
    omega (arith, w, l)

pub returns-in-Ok-clause-answered : goal.returns-in-Ok-clause-answered
returns-in-Ok-clause-answered g c = λ model start handed m run.
    let ending = c.in-Ok.ensures.ends.ends.ends model start handed m run in
    always_ok c.close_run.result (ending.ahead, ending.told)

pub returns-in-Ok-clause-goes : goal.returns-in-Ok-clause-goes
returns-in-Ok-clause-goes g c = λ model start handed ahead m run to.
    goes_on_as c.law_one_answer.ensures model c.args.flat.now start handed ahead c.args.until.stop c.args.until.turns m to c.args.run run c.go.new.self c.in-Ok.ended c.in-Ok.ensures.ends.news
    (g.O.Sink.taken c.args.out.now) (g.O.Sink.taken c.go.new.out) (g.O.Sink.taken c.close_run.new.out) (g.N.Sink.taken c.args.notes.now) (g.N.Sink.taken c.go.new.notes) (g.N.Sink.taken c.close_run.new.notes)
    c.in-Ok.ensures.ends.ends c.in-Ok.ensures.ends.took c.close_run.result
    c.close_run.ensures.trace c.close_run.ensures.trace_part c.close_run.ensures.notes c.close_run.ensures.notes_part c.close_run.ensures.end c.close_run.ensures.clusters c.close_run.ensures.kernel

pub returns-in-Ok-clause-counts : goal.returns-in-Ok-clause-counts
returns-in-Ok-clause-counts g c = counts_from (g.O.Sink.faults c.args.out.now) (g.O.Sink.faults c.go.new.out) (g.O.Sink.faults c.close_run.new.out) (g.N.Sink.faults c.args.notes.now) (g.N.Sink.faults c.go.new.notes) (g.N.Sink.faults c.close_run.new.notes) c.in-Ok.ended c.close_run.result c.in-Ok.ensures.counts c.close_run.ensures.counts

pub returns-in-Err-clause-goes : goal.returns-in-Err-clause-goes
returns-in-Err-clause-goes g c = λ model start handed ahead m run to. record {
  end = tt;
  trace = tt;
  notes = λ news are. tt;
  trace_part = rows_of_rest c.law_one_answer.ensures model c.args.flat.now start handed ahead c.args.until.stop m to c.args.run run (g.O.Sink.taken c.args.out.now) (g.O.Sink.taken c.go.new.out) c.in-Err.ensures.part;
  notes_part = λ news are. front_more (g.N.Sink.taken c.args.notes.now) (g.N.Sink.taken c.go.new.notes) news (end_text c.args.flat.now.resolution c.args.until.turns (rest_end model c.args.flat.now start ahead c.args.until.stop c.args.until.turns))
      (c.in-Err.ensures.notes_part model start handed ahead news m run to are);
  left = tt;
}

pub returns-in-Err-clause-counts : goal.returns-in-Err-clause-counts
returns-in-Err-clause-counts g c = counts_other (g.O.Sink.faults c.args.out.now) (g.O.Sink.faults c.go.new.out) (g.N.Sink.faults c.args.notes.now) (g.N.Sink.faults c.go.new.notes) c.in-Err.error c.in-Err.ensures.counts
