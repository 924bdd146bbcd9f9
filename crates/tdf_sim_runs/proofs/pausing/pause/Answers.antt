use Rattle.std.proofs.Common.{Ok, Err, arith, ap}
use Rattle.tdf_sim_runs.proofs.Counting.{counts_from, counts_other}
use Rattle.tdf_sim_runs.proofs.Resting.{goes_on_as, not_on}
use Rattle.tdf_sim_runs.proofs.Waited.{front_news, front_rows, pauses_in_part, told_at_stop, waits_as}
use Rattle.tdf_sim_runs.proofs.pausing.pause.Goals as goal
use Rattle.tdf_sim_runs.specs.declared.run.Ran.{Ran}
use Rattle.tdf_sim_runs.specs.declared.running.Running.{Running}

pub returns-in-Err-clause-pauses : goal.returns-in-Err-clause-pauses
returns-in-Err-clause-pauses g c = λ model start handed ahead m run to. record {
  waits = tt;
  ended = tt;
  part = pauses_in_part c.law_one_answer.ensures c.args.flat.now c.args.until.stop c.args.until.turns c.args.run (g.O.Sink.taken c.args.out.now) (g.O.Sink.taken c.go.new.out) (g.N.Sink.taken c.args.notes.now) (g.N.Sink.taken c.go.new.notes)
      c.in-Err.ensures.part c.in-Err.ensures.notes_part model start handed ahead m run to;
}

pub returns-in-Err-clause-counts : goal.returns-in-Err-clause-counts
returns-in-Err-clause-counts g c = counts_other (g.O.Sink.faults c.args.out.now) (g.O.Sink.faults c.go.new.out) (g.N.Sink.faults c.args.notes.now) (g.N.Sink.faults c.go.new.notes) c.in-Err.error c.in-Err.ensures.counts

pub returns-in-Ok-wait-clause-answered : goal.returns-in-Ok-wait-clause-answered
returns-in-Ok-wait-clause-answered g c = λ model start handed m run.
    told_at_stop c.law_one_answer.ensures c.args.flat.now c.args.until.stop c.args.run c.go.new.self (g.O.Sink.taken c.args.out.now) (g.O.Sink.taken c.go.new.out) (g.N.Sink.taken c.args.notes.now) (g.N.Sink.taken c.go.new.notes) (c.in-Ok.ensures.comes (ap Ok c.in-Reached.is))
    c.in-Ok-wait.run' (g.O.Sink.taken c.wait.new.out) (g.N.Sink.taken c.wait.new.notes) c.in-Ok-wait.ensures.waits model start handed m run

pub returns-in-Ok-wait-clause-pauses : goal.returns-in-Ok-wait-clause-pauses
returns-in-Ok-wait-clause-pauses g c = λ model start handed ahead m run to. record {
  waits = waits_as c.law_one_answer.ensures c.args.flat.now c.args.until.stop c.args.run c.go.new.self (g.O.Sink.taken c.args.out.now) (g.O.Sink.taken c.go.new.out) (g.N.Sink.taken c.args.notes.now) (g.N.Sink.taken c.go.new.notes) (c.in-Ok.ensures.comes (ap Ok c.in-Reached.is))
      c.in-Ok-wait.run' (g.O.Sink.taken c.wait.new.out) (g.N.Sink.taken c.wait.new.notes) c.in-Ok-wait.ensures.waits model start handed ahead m run to;
  ended = tt;
  part = tt;
}

pub returns-in-Ok-wait-clause-counts : goal.returns-in-Ok-wait-clause-counts
returns-in-Ok-wait-clause-counts g c =
    let k = counts_from (g.O.Sink.faults c.args.out.now) (g.O.Sink.faults c.go.new.out) (g.O.Sink.faults c.wait.new.out) (g.N.Sink.faults c.args.notes.now) (g.N.Sink.faults c.go.new.notes) (g.N.Sink.faults c.wait.new.notes) c.in-Ok.ended (Ok c.in-Ok-wait.run') c.in-Ok.ensures.counts c.in-Ok-wait.ensures.counts in
    record { rose = λ failed. absurd cc; out_kept = λ kept. k.out_kept (λ failed. absurd cc); notes_kept = λ kept. k.notes_kept (λ failed. absurd cc) }

pub returns-in-Err-wait-clause-pauses : goal.returns-in-Err-wait-clause-pauses
returns-in-Err-wait-clause-pauses g c = λ model start handed ahead m run to.
    let law = c.law_one_answer.ensures in
    let flat = c.args.flat.now in
    let stop = c.args.until.stop in
    let come = c.in-Ok.ensures.comes (ap Ok c.in-Reached.is) in
    record {
      waits = tt;
      ended = tt;
      part = pauses_in_part law flat stop c.args.until.turns c.args.run (g.O.Sink.taken c.args.out.now) (g.O.Sink.taken c.wait.new.out) (g.N.Sink.taken c.args.notes.now) (g.N.Sink.taken c.wait.new.notes)
          (front_rows law flat stop c.args.run c.go.new.self (g.O.Sink.taken c.args.out.now) (g.O.Sink.taken c.go.new.out) (g.N.Sink.taken c.args.notes.now) (g.N.Sink.taken c.go.new.notes) come (g.O.Sink.taken c.wait.new.out) c.in-Err-wait.ensures.part)
          (front_news law flat stop c.args.run c.go.new.self (g.O.Sink.taken c.args.out.now) (g.O.Sink.taken c.go.new.out) (g.N.Sink.taken c.args.notes.now) (g.N.Sink.taken c.go.new.notes) come (g.N.Sink.taken c.wait.new.notes) c.in-Err-wait.ensures.notes_part)
          model start handed ahead m run to;
    }

pub returns-in-Err-wait-clause-counts : goal.returns-in-Err-wait-clause-counts
returns-in-Err-wait-clause-counts g c =
    counts_other (g.O.Sink.faults c.args.out.now) (g.O.Sink.faults c.wait.new.out) (g.N.Sink.faults c.args.notes.now) (g.N.Sink.faults c.wait.new.notes) c.in-Err-wait.error
    (counts_from {T = Running} (g.O.Sink.faults c.args.out.now) (g.O.Sink.faults c.go.new.out) (g.O.Sink.faults c.wait.new.out) (g.N.Sink.faults c.args.notes.now) (g.N.Sink.faults c.go.new.notes) (g.N.Sink.faults c.wait.new.notes) c.in-Ok.ended (Err c.in-Err-wait.error) c.in-Ok.ensures.counts c.in-Err-wait.ensures.counts)

pub close_run-requires-clause-width : goal.close_run-requires-clause-width
close_run-requires-clause-width g c =
    let some = c.requires.can.some in
    let e = c.in-Ok.ensures.ends.ends.ends some.model some.start some.handed some.of some.is in
    let w = e.shown.width in
    let l = e.shown.columns in
    omega (arith, w, l)

pub returns-in-Ok-close_run : goal.returns-in-Ok-close_run
returns-in-Ok-close_run g c = record {
  can = tt;
  at = tt;
  stage = tt;
  answered = λ model start handed m run. (let ending = c.in-Ok.ensures.ends.ends.ends model start handed m run in (ending.ahead, ending.told));
  pauses = λ model start handed ahead m run to. record {
    waits = tt;
    ended = record {
      none_on =
          let ending = c.in-Ok.ensures.ends.ends.ends model start handed m run in
          not_on model c.args.flat.now start handed c.in-Ok.ensures.ends.news c.args.until.stop c.args.until.turns c.go.new.self c.in-Ok.ended ending c.law_one_answer.ensures m ahead to c.in-Ok.ended ending.by c.in_default.not-Reached;
      goes = goes_on_as c.law_one_answer.ensures model c.args.flat.now start handed ahead c.args.until.stop c.args.until.turns m to c.args.run run c.go.new.self c.in-Ok.ended c.in-Ok.ensures.ends.news
          (g.O.Sink.taken c.args.out.now) (g.O.Sink.taken c.go.new.out) (g.O.Sink.taken c.close_run.new.out) (g.N.Sink.taken c.args.notes.now) (g.N.Sink.taken c.go.new.notes) (g.N.Sink.taken c.close_run.new.notes)
          c.in-Ok.ensures.ends.ends c.in-Ok.ensures.ends.took (Ok c.in-Ok-close_run.ran)
          c.in-Ok-close_run.ensures.trace c.in-Ok-close_run.ensures.trace_part c.in-Ok-close_run.ensures.notes c.in-Ok-close_run.ensures.notes_part c.in-Ok-close_run.ensures.end c.in-Ok-close_run.ensures.clusters c.in-Ok-close_run.ensures.kernel;
    };
    part = tt;
  };
  counts =
      let k = counts_from {T = Ran} (g.O.Sink.faults c.args.out.now) (g.O.Sink.faults c.go.new.out) (g.O.Sink.faults c.close_run.new.out) (g.N.Sink.faults c.args.notes.now) (g.N.Sink.faults c.go.new.notes) (g.N.Sink.faults c.close_run.new.notes) c.in-Ok.ended (Ok c.in-Ok-close_run.ran) c.in-Ok.ensures.counts c.in-Ok-close_run.ensures.counts in
      record { rose = λ failed. absurd cc; out_kept = λ kept. k.out_kept (λ failed. absurd cc); notes_kept = λ kept. k.notes_kept (λ failed. absurd cc) };
}

pub returns-in-Err-close_run : goal.returns-in-Err-close_run
returns-in-Err-close_run g c = record {
  can = tt;
  at = tt;
  stage = tt;
  answered = λ model start handed m run. tt;
  pauses = λ model start handed ahead m run to. (
      let goes = goes_on_as c.law_one_answer.ensures model c.args.flat.now start handed ahead c.args.until.stop c.args.until.turns m to c.args.run run c.go.new.self c.in-Ok.ended c.in-Ok.ensures.ends.news
      (g.O.Sink.taken c.args.out.now) (g.O.Sink.taken c.go.new.out) (g.O.Sink.taken c.close_run.new.out) (g.N.Sink.taken c.args.notes.now) (g.N.Sink.taken c.go.new.notes) (g.N.Sink.taken c.close_run.new.notes)
      c.in-Ok.ensures.ends.ends c.in-Ok.ensures.ends.took (Err c.in-Err-close_run.error)
      c.in-Err-close_run.ensures.trace c.in-Err-close_run.ensures.trace_part c.in-Err-close_run.ensures.notes c.in-Err-close_run.ensures.notes_part c.in-Err-close_run.ensures.end c.in-Err-close_run.ensures.clusters c.in-Err-close_run.ensures.kernel in
      let ending = c.in-Ok.ensures.ends.ends.ends model start handed m run in
      record {
        waits = tt;
        ended = tt;
        part = record {
          waits = λ w on. absurd (not_on model c.args.flat.now start handed c.in-Ok.ensures.ends.news c.args.until.stop c.args.until.turns c.go.new.self c.in-Ok.ended ending c.law_one_answer.ensures m ahead to c.in-Ok.ended ending.by c.in_default.not-Reached w on);
          ends = λ none. record { trace = goes.trace_part; notes = goes.notes_part };
        };
      });
  counts = counts_other (g.O.Sink.faults c.args.out.now) (g.O.Sink.faults c.close_run.new.out) (g.N.Sink.faults c.args.notes.now) (g.N.Sink.faults c.close_run.new.notes) c.in-Err-close_run.error
      (counts_from {T = Ran} (g.O.Sink.faults c.args.out.now) (g.O.Sink.faults c.go.new.out) (g.O.Sink.faults c.close_run.new.out) (g.N.Sink.faults c.args.notes.now) (g.N.Sink.faults c.go.new.notes) (g.N.Sink.faults c.close_run.new.notes) c.in-Ok.ended (Err c.in-Err-close_run.error) c.in-Ok.ensures.counts c.in-Err-close_run.ensures.counts);
}
