use Rattle.std.proofs.Common.{ℕ, List, Ok, Err, refl, subst, arith}
use Rattle.std.specs.Io.KnownBytes.{Appends}
use Rattle.tdf_io.proofs.Api.{front_none}
use Rattle.tdf_io.specs.Bytes.{AppendsFront}
use Rattle.tdf_sim_runs.proofs.Counting.{first_failed, second_failed}
use Rattle.tdf_sim_runs.proofs.AtStop.{has_waited, rows_front, waits_part}
use Rattle.tdf_sim_runs.proofs.pausing.wait.Goals as goal

pub returns-in-Err-clause-part : goal.returns-in-Err-clause-part
returns-in-Err-clause-part g c = waits_part c.law_one_answer.ensures c.law_standing.ensures c.args.flat.now c.args.run c.requires.can c.rows_from-rows.result c.rows_from-rows.ensures.first c.rows_from-rows.ensures.rows
    (g.O.Sink.taken c.args.out.now) (g.O.Sink.taken c.advance.new.sink) c.in-Err.ensures.part

pub returns-in-Err-clause-notes_part : goal.returns-in-Err-clause-notes_part
returns-in-Err-clause-notes_part g c = front_none (g.N.Sink.taken c.args.notes.now) c.args.run.news.items

pub returns-in-Err-clause-counts : goal.returns-in-Err-clause-counts
returns-in-Err-clause-counts g c = first_failed _ _ _ _ (Err c.in-Err.error) (record { later = c.in-Err.ensures.counted.later; kept = c.in-Err.ensures.counted.kept; rose = c.in-Err.ensures.counted.rose }) (record { later = omega arith; kept = refl; rose = tt })

pub returns-in-Ok-clause-waits : goal.returns-in-Ok-clause-waits
returns-in-Ok-clause-waits g c = has_waited c.law_one_answer.ensures c.law_standing.ensures c.args.flat.now c.args.run c.requires.can c.rows_from-rows.result c.rows_from-rows.ensures.first c.rows_from-rows.ensures.rows
    c.advance.new.self (g.O.Sink.taken c.args.out.now) (g.O.Sink.taken c.advance.new.sink) c.in_default.ensures.wrote c.advance.ensures.about c.in_default.ensures.within c.in_default.ensures.written
    _ (g.N.Sink.taken c.args.notes.now) (g.N.Sink.taken c.put_all.new.sink) (subst (λ (l : List ℕ). Appends (g.N.Sink.taken c.args.notes.now) (g.N.Sink.taken c.put_all.new.sink) l) c.deref.ensures.value c.in-Ok.ensures.all) c.clear.ensures.items refl c.in_default.ensures.stage

pub returns-in-Ok-clause-counts : goal.returns-in-Ok-clause-counts
returns-in-Ok-clause-counts g c = second_failed _ _ _ _ (Ok _) (record { later = c.in_default.ensures.counted.later; kept = c.in_default.ensures.counted.kept; rose = tt })
    (record { later = c.in-Ok.ensures.counted.later; kept = c.in-Ok.ensures.counted.kept; rose = tt })

pub returns-in-Err-put_all-clause-part : goal.returns-in-Err-put_all-clause-part
returns-in-Err-put_all-clause-part g c = rows_front c.law_one_answer.ensures c.law_standing.ensures c.args.flat.now c.args.run c.requires.can c.rows_from-rows.result c.rows_from-rows.ensures.first c.rows_from-rows.ensures.rows
    c.advance.new.self (g.O.Sink.taken c.args.out.now) (g.O.Sink.taken c.advance.new.sink) c.in_default.ensures.wrote c.advance.ensures.about c.in_default.ensures.within c.in_default.ensures.written

pub returns-in-Err-put_all-clause-notes_part : goal.returns-in-Err-put_all-clause-notes_part
returns-in-Err-put_all-clause-notes_part g c = subst (λ (l : List ℕ). AppendsFront (g.N.Sink.taken c.args.notes.now) (g.N.Sink.taken c.put_all.new.sink) l) c.deref.ensures.value c.in-Err-put_all.ensures.part

pub returns-in-Err-put_all-clause-counts : goal.returns-in-Err-put_all-clause-counts
returns-in-Err-put_all-clause-counts g c = second_failed _ _ _ _ (Err c.in-Err-put_all.error) (record { later = c.in_default.ensures.counted.later; kept = c.in_default.ensures.counted.kept; rose = tt })
    (record { later = c.in-Err-put_all.ensures.counted.later; kept = c.in-Err-put_all.ensures.counted.kept; rose = c.in-Err-put_all.ensures.counted.rose })
