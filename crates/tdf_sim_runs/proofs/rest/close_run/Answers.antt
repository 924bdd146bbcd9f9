use Rattle.std.proofs.Common.{◌≡◌, ◌++◌, ℕ, List, Ok, Err, refl, subst, arith}
use Rattle.std.specs.Io.KnownBytes.{Appends}
use Rattle.tdf_io.proofs.Api.{front_none, front_whole}
use Rattle.tdf_io.specs.Bytes.{AppendsFront}
use Rattle.tdf_sim_history.specs.Cells.{run_cells}
use Rattle.tdf_sim_history.specs.Rules.{rules_of}
use Rattle.tdf_sim_notes.specs.Ending.{end_text}
use Rattle.tdf_sim_runs.proofs.Counting.{first_failed, second_failed}
use Rattle.tdf_sim_runs.proofs.rest.close_run.Goals as goal
use Rattle.tdf_sim_runs.specs.machine.Closing.{closing_notes}
use Rattle.tdf_trace.specs.Writings.{rest_text}

pub returns-in-Err-clause-trace_part : goal.returns-in-Err-clause-trace_part
returns-in-Err-clause-trace_part g c = λ model flat start is limits shown. (c.in-Err.ensures.wrote model flat start is limits shown).part

pub returns-in-Err-clause-notes_part : goal.returns-in-Err-clause-notes_part
returns-in-Err-clause-notes_part g c = front_none (g.N.Sink.taken c.args.notes.now) (closing_notes c.args.flat.now.resolution c.args.until.stop c.args.until.turns c.args.run c.args.ended)

pub returns-in-Err-clause-counts : goal.returns-in-Err-clause-counts
returns-in-Err-clause-counts g c = first_failed _ _ _ _ (Err c.in-Err.error) (record { later = c.in-Err.ensures.counted.later; kept = c.in-Err.ensures.counted.kept; rose = c.in-Err.ensures.counted.rose }) (record { later = omega arith; kept = refl; rose = tt })

pub returns-in-Ok-write_notes-clause-trace : goal.returns-in-Ok-write_notes-clause-trace
returns-in-Ok-write_notes-clause-trace g c = λ model flat start is limits shown. (c.in-Ok.ensures.wrote model flat start is limits shown).all

pub returns-in-Ok-write_notes-clause-notes : goal.returns-in-Ok-write_notes-clause-notes
returns-in-Ok-write_notes-clause-notes g c =
    let same : c.in-Ok.whole.news.items ++ end_text c.args.flat.now.resolution c.args.until.turns c.in-Ok.whole.ran.end ≡ closing_notes c.args.flat.now.resolution c.args.until.stop c.args.until.turns c.args.run c.args.ended
    = λ i. c.in-Ok.ensures.news i ++ end_text c.args.flat.now.resolution c.args.until.turns (c.in-Ok.ensures.end i) in
    subst (λ (t : List ℕ). Appends (g.N.Sink.taken c.args.notes.now) (g.N.Sink.taken c.write_notes.new.notes) t) same c.in-Ok-write_notes.ensures.all

pub returns-in-Ok-write_notes-clause-counts : goal.returns-in-Ok-write_notes-clause-counts
returns-in-Ok-write_notes-clause-counts g c = second_failed _ _ _ _ (Ok c.in-Ok.whole.ran) (record { later = c.in-Ok.ensures.counted.later; kept = c.in-Ok.ensures.counted.kept; rose = tt })
    (record { later = c.in-Ok-write_notes.ensures.counted.later; kept = c.in-Ok-write_notes.ensures.counted.kept; rose = tt })

pub returns-in-Err-write_notes-clause-trace_part : goal.returns-in-Err-write_notes-clause-trace_part
returns-in-Err-write_notes-clause-trace_part g c = λ model flat start is limits shown.
    front_whole (g.O.Sink.taken c.args.out.now) (g.O.Sink.taken c.closed.new.out) (rest_text c.args.run.shown.trace.about (run_cells model flat (rules_of model flat) start c.args.run.from) c.args.run.shown.trace.rows.upto c.args.run.from)
    (c.in-Ok.ensures.wrote model flat start is limits shown).all

pub returns-in-Err-write_notes-clause-notes_part : goal.returns-in-Err-write_notes-clause-notes_part
returns-in-Err-write_notes-clause-notes_part g c =
    let same : c.in-Ok.whole.news.items ++ end_text c.args.flat.now.resolution c.args.until.turns c.in-Ok.whole.ran.end ≡ closing_notes c.args.flat.now.resolution c.args.until.stop c.args.until.turns c.args.run c.args.ended
    = λ i. c.in-Ok.ensures.news i ++ end_text c.args.flat.now.resolution c.args.until.turns (c.in-Ok.ensures.end i) in
    subst (λ (t : List ℕ). AppendsFront (g.N.Sink.taken c.args.notes.now) (g.N.Sink.taken c.write_notes.new.notes) t) same c.in-Err-write_notes.ensures.part

pub returns-in-Err-write_notes-clause-counts : goal.returns-in-Err-write_notes-clause-counts
returns-in-Err-write_notes-clause-counts g c = second_failed _ _ _ _ (Err c.in-Err-write_notes.error) (record { later = c.in-Ok.ensures.counted.later; kept = c.in-Ok.ensures.counted.kept; rose = tt })
    (record { later = c.in-Err-write_notes.ensures.counted.later; kept = c.in-Err-write_notes.ensures.counted.kept; rose = c.in-Err-write_notes.ensures.counted.rose })
