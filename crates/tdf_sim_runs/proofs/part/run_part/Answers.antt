use Rattle.std.proofs.Common.{[], Ok, Err, sym, subst, arith}
use Rattle.tdf_io.specs.declared.writing.SinkErr.{SinkErr}
use Rattle.tdf_sim_history.specs.Rules.{start_world}
use Rattle.tdf_sim_runs.proofs.Parting.{is_paused, parts_as, refused_early, refused_late}
use Rattle.tdf_sim_runs.proofs.part.run_part.Goals as goal
use Rattle.tdf_sim_runs.specs.Parts.{IfPaused, PartsAs}
use Rattle.tdf_sim_runs.specs.Paused.{IsPaused}
use Rattle.tdf_sim_runs.specs.declared.part.Part.{Part}
use Rattle.tdf_sim_runs.proofs.Counting.{counts_from, counts_other}
use Rattle.tdf_sim_runs.proofs.WholeRun.{have_to, told_to}
use Rattle.tdf_sim_runs.specs.declared.pausing.Arrival.{Arrival}

pub returns-in-Err-clause-parts : goal.returns-in-Err-clause-parts
returns-in-Err-clause-parts g c = λ model m ahead have. record {
  paused = tt;
  ended = tt;
  refused = refused_early c.args.request.kind model c.args.flat c.args.firsts.items ahead c.args.request.stop c.args.request.turns (g.O.Sink.taken c.args.out.now) (g.O.Sink.taken c.begin_run.new.out)
      (g.N.Sink.taken c.args.notes.now) (g.N.Sink.taken c.begin_run.new.notes) c.law_report.ensures.notes c.in-Err.ensures.head_part c.in-Err.ensures.plans_part;
}

pub returns-in-Err-clause-counts : goal.returns-in-Err-clause-counts
returns-in-Err-clause-counts g c = counts_other (g.O.Sink.faults c.args.out.now) (g.O.Sink.faults c.begin_run.new.out) (g.N.Sink.faults c.args.notes.now) (g.N.Sink.faults c.begin_run.new.notes) c.in-Err.error c.in-Err.ensures.counts

pub pause-requires-clause-within : goal.pause-requires-clause-within
pause-requires-clause-within g c = let z = c.in-Ok.ensures.from in omega (arith, z)

pub returns-in-Ok-pause-clause-answered : goal.returns-in-Ok-pause-clause-answered
returns-in-Ok-pause-clause-answered g c = λ model m.
    let a = c.in-Ok-pause.ensures.answered model (start_world model c.args.flat c.args.firsts.items [] c.args.request.turns) [] m (c.in-Ok.ensures.runs model m) in
    (a.0, have_to c.args.request.kind model c.args.flat c.args.firsts.items a.0 c.args.request.stop c.args.request.turns a.1)

pub returns-in-Ok-pause-clause-parts : goal.returns-in-Ok-pause-clause-parts
returns-in-Ok-pause-clause-parts g c = λ model m ahead have.
    let flat = c.args.flat in
    let firsts = c.args.firsts.items in
    let kind = c.args.request.kind in
    let stop = c.args.request.stop in
    let turns = c.args.request.turns in
    let run = c.in-Ok.ensures.runs model m in
    subst (λ (x : Part). PartsAs {E = SinkErr} kind model flat firsts ahead stop turns (g.O.Sink.taken c.args.out.now) (g.O.Sink.taken c.pause.new.out) (g.N.Sink.taken c.args.notes.now) (g.N.Sink.taken c.pause.new.notes) (Ok x)) (sym c.part_of.ensures)
    (parts_as kind model flat firsts ahead stop turns c.in-Ok.run'.shown.trace.about c.in-Ok.run'.shown.trace.rows.upto c.in-Ok.ensures.about c.in-Ok.ensures.upto
    (g.O.Sink.taken c.args.out.now) (g.O.Sink.taken c.begin_run.new.out) (g.O.Sink.taken c.pause.new.out) (g.N.Sink.taken c.args.notes.now) (g.N.Sink.taken c.begin_run.new.notes) (g.N.Sink.taken c.pause.new.notes)
    c.in-Ok.ensures.head c.in-Ok.ensures.plans c.law_report.ensures.notes c.in-Ok-pause.arrival
    (λ more told. c.in-Ok-pause.ensures.pauses model (start_world model flat firsts [] turns) [] more m run told) (told_to kind model flat firsts ahead stop turns have) c.in-Ok-pause.ensures.at)

pub returns-in-Ok-pause-clause-paused : goal.returns-in-Ok-pause-clause-paused
returns-in-Ok-pause-clause-paused g c =
    let flat = c.args.flat in
    let firsts = c.args.firsts.items in
    let stop = c.args.request.stop in
    let turns = c.args.request.turns in
    let model = c.requires.can.model in
    let m = c.requires.can.of in
    let run = c.in-Ok.ensures.runs model m in
    let a = c.in-Ok-pause.ensures.answered model (start_world model flat firsts [] turns) [] m run in
    subst (λ (x : Part). IfPaused x IsPaused) (sym c.part_of.ensures)
    (is_paused c.args.request.kind model flat firsts a.0 stop turns c.in-Ok.run'.shown.trace.about c.in-Ok.run'.shown.trace.rows.upto c.in-Ok.ensures.about c.in-Ok.ensures.upto
    (g.O.Sink.taken c.args.out.now) (g.O.Sink.taken c.begin_run.new.out) (g.O.Sink.taken c.pause.new.out) (g.N.Sink.taken c.args.notes.now) (g.N.Sink.taken c.begin_run.new.notes) (g.N.Sink.taken c.pause.new.notes)
    c.in-Ok.ensures.head c.in-Ok.ensures.plans c.requires.can.runnable c.requires.stop c.in-Ok-pause.arrival c.in-Ok-pause.ensures.can c.in-Ok-pause.ensures.at c.in-Ok-pause.ensures.stage
    (c.in-Ok-pause.ensures.pauses model (start_world model flat firsts [] turns) [] a.0 m run a.1))

pub returns-in-Ok-pause-clause-counts : goal.returns-in-Ok-pause-clause-counts
returns-in-Ok-pause-clause-counts g c =
    let k = counts_from (g.O.Sink.faults c.args.out.now) (g.O.Sink.faults c.begin_run.new.out) (g.O.Sink.faults c.pause.new.out) (g.N.Sink.faults c.args.notes.now) (g.N.Sink.faults c.begin_run.new.notes) (g.N.Sink.faults c.pause.new.notes)
    c.in-Ok.run' (Ok c.in-Ok-pause.arrival) c.in-Ok.ensures.counts c.in-Ok-pause.ensures.counts in
    record { rose = λ failed. absurd cc; out_kept = λ kept. k.out_kept (λ failed. absurd cc); notes_kept = λ kept. k.notes_kept (λ failed. absurd cc) }

pub returns-in-Err-pause-clause-parts : goal.returns-in-Err-pause-clause-parts
returns-in-Err-pause-clause-parts g c = λ model m ahead have.
    let flat = c.args.flat in
    let firsts = c.args.firsts.items in
    let kind = c.args.request.kind in
    let stop = c.args.request.stop in
    let turns = c.args.request.turns in
    let pauses = c.in-Err-pause.ensures.pauses model (start_world model flat firsts [] turns) [] ahead m (c.in-Ok.ensures.runs model m) (told_to kind model flat firsts ahead stop turns have) in
    record {
      paused = tt;
      ended = tt;
      refused = refused_late kind model flat firsts ahead stop turns c.in-Ok.run'.shown.trace.about c.in-Ok.run'.shown.trace.rows.upto c.in-Ok.ensures.about c.in-Ok.ensures.upto
          (g.O.Sink.taken c.args.out.now) (g.O.Sink.taken c.begin_run.new.out) (g.O.Sink.taken c.pause.new.out) (g.N.Sink.taken c.args.notes.now) (g.N.Sink.taken c.begin_run.new.notes) (g.N.Sink.taken c.pause.new.notes)
          c.in-Ok.ensures.head c.in-Ok.ensures.plans c.law_report.ensures.notes c.in-Err-pause.error pauses.part;
    }

pub returns-in-Err-pause-clause-counts : goal.returns-in-Err-pause-clause-counts
returns-in-Err-pause-clause-counts g c =
    counts_other (g.O.Sink.faults c.args.out.now) (g.O.Sink.faults c.pause.new.out) (g.N.Sink.faults c.args.notes.now) (g.N.Sink.faults c.pause.new.notes) c.in-Err-pause.error
    (counts_from {T = Arrival} (g.O.Sink.faults c.args.out.now) (g.O.Sink.faults c.begin_run.new.out) (g.O.Sink.faults c.pause.new.out) (g.N.Sink.faults c.args.notes.now) (g.N.Sink.faults c.begin_run.new.notes) (g.N.Sink.faults c.pause.new.notes)
    c.in-Ok.run' (Err c.in-Err-pause.error) c.in-Ok.ensures.counts c.in-Err-pause.ensures.counts)
