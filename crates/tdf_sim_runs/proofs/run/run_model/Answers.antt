use Rattle.std.proofs.Common.{[], arith}
use Rattle.tdf_sim_history.specs.Rules.{start_world}
use Rattle.tdf_sim_runs.proofs.Answering.{then_ok}
use Rattle.tdf_sim_runs.proofs.Counting.{counts_from, counts_other}
use Rattle.tdf_sim_runs.proofs.Noting.{plans_part}
use Rattle.tdf_sim_runs.proofs.WholeRun.{have_to, head_part, runs_whole, told_to}
use Rattle.tdf_sim_runs.proofs.run.run_model.Goals as goal

pub returns-in-Err-clause-runs : goal.returns-in-Err-clause-runs
returns-in-Err-clause-runs g c = λ model m ahead have. record {
  end = tt;
  trace = tt;
  notes = tt;
  trace_part = head_part c.args.request.kind model c.args.flat.now c.args.firsts.items ahead c.args.request.stop c.args.request.turns (g.O.Sink.taken c.args.out.now) (g.O.Sink.taken c.begin_run.new.out) c.in-Err.ensures.head_part;
  notes_part = plans_part c.law_report.ensures.notes model c.args.flat.now c.args.firsts.items ahead c.args.request.stop c.args.request.turns
      (g.N.Sink.taken c.args.notes.now) (g.N.Sink.taken c.begin_run.new.notes) c.in-Err.ensures.plans_part;
  left = tt;
}

pub returns-in-Err-clause-counts : goal.returns-in-Err-clause-counts
returns-in-Err-clause-counts g c = counts_other (g.O.Sink.faults c.args.out.now) (g.O.Sink.faults c.begin_run.new.out) (g.N.Sink.faults c.args.notes.now) (g.N.Sink.faults c.begin_run.new.notes) c.in-Err.error c.in-Err.ensures.counts

pub go_on-requires-clause-within : goal.go_on-requires-clause-within
go_on-requires-clause-within g c = let z = c.in-Ok.ensures.from in omega (arith, z)

pub returns-clause-answered : goal.returns-clause-answered
returns-clause-answered g c = λ model m.
    then_ok c.go_on.result (c.go_on.ensures.answered model (start_world model c.args.flat.now c.args.firsts.items [] c.args.request.turns) [] m (c.in-Ok.ensures.runs model m))
    (λ a. (a.0, have_to c.args.request.kind model c.args.flat.now c.args.firsts.items a.0 c.args.request.stop c.args.request.turns a.1))

pub returns-clause-runs : goal.returns-clause-runs
returns-clause-runs g c = λ model m ahead have.
    let flat = c.args.flat.now in
    let firsts = c.args.firsts.items in
    runs_whole c.args.request.kind model flat firsts ahead c.args.request.stop c.args.request.turns c.law_report.ensures.notes
    c.in-Ok.run'.shown.trace.rows.upto c.in-Ok.run'.shown.trace.about
    (g.O.Sink.taken c.args.out.now) (g.O.Sink.taken c.begin_run.new.out) (g.O.Sink.taken c.go_on.new.out) (g.N.Sink.taken c.args.notes.now) (g.N.Sink.taken c.begin_run.new.notes) (g.N.Sink.taken c.go_on.new.notes) c.go_on.result
    c.in-Ok.ensures.upto c.in-Ok.ensures.about c.in-Ok.ensures.head c.in-Ok.ensures.plans
    (c.go_on.ensures.goes model (start_world model flat firsts [] c.args.request.turns) [] ahead m (c.in-Ok.ensures.runs model m) (told_to c.args.request.kind model flat firsts ahead c.args.request.stop c.args.request.turns have))

pub returns-clause-counts : goal.returns-clause-counts
returns-clause-counts g c =
    let begun = c.in-Ok.ensures.counts in
    counts_from (g.O.Sink.faults c.args.out.now) (g.O.Sink.faults c.begin_run.new.out) (g.O.Sink.faults c.go_on.new.out) (g.N.Sink.faults c.args.notes.now) (g.N.Sink.faults c.begin_run.new.notes) (g.N.Sink.faults c.go_on.new.notes) c.in-Ok.run' c.go_on.result begun c.go_on.ensures.counts
