use Rattle.std.proofs.Common.{subst, sym}
use Rattle.tdf_cli.proofs.Driven.{writes_note}
use Rattle.tdf_cli.proofs.Saved.{same_save}
use Rattle.tdf_cli.proofs.Saving.{late_save}
use Rattle.tdf_cli.proofs.save.save_part.Goals as goal
use Rattle.tdf_cli.specs.Saving.{HasSaveOutcome, stop_too_long}
use Rattle.tdf_cli.specs.declared.status.Status.TheVariants.{StopTooLong}
use Rattle.tdf_cli.specs.machine.Stages.{WritesOf}
use Rattle.tdf_cli_words.specs.declared.asked.SavePart.{SavePart}

pub returns-in-Trace-clause-writes : goal.returns-in-Trace-clause-writes
returns-in-Trace-clause-writes g c = λ tree accepted.
    subst (λ (part : SavePart). WritesOf (HasSaveOutcome part c.args.asked tree c.args.text.now) c.save_trace.result (g.O.Sink.taken c.args.out.now) (g.O.Sink.taken c.save_trace.new.out)
    (g.N.Sink.taken c.args.notes.now) (g.N.Sink.taken c.save_trace.new.notes)) (sym c.in-Trace.is) (c.save_trace.ensures.writes tree accepted (sym c.in-Some.ensures.value))

pub returns-in-State-clause-writes : goal.returns-in-State-clause-writes
returns-in-State-clause-writes g c = λ tree accepted.
    subst (λ (part : SavePart). WritesOf (HasSaveOutcome part c.args.asked tree c.args.text.now) c.save_state.result (g.O.Sink.taken c.args.out.now) (g.O.Sink.taken c.save_state.new.out)
    (g.N.Sink.taken c.args.notes.now) (g.N.Sink.taken c.save_state.new.notes)) (sym c.in-State.is) (c.save_state.ensures.writes tree accepted (sym c.in-Some.ensures.value))

pub returns-in-None-clause-writes : goal.returns-in-None-clause-writes
returns-in-None-clause-writes g c = λ tree accepted.
    let has = late_save c.args.part c.args.asked tree c.args.text.now c.args.sim accepted.accepted (sym c.in-None.ensures.value) in
    writes_note (HasSaveOutcome c.args.part c.args.asked tree c.args.text.now) c.noted.result StopTooLong (g.O.Sink.taken c.args.out.now) has
    (λ o other. same_save c.law_one_model.ensures c.law_one_run.ensures.models c.law_one_run.ensures.answers c.law_parts_alike.ensures.parts c.args.asked tree accepted.kept
    c.law_rests_alike.ensures.members c.law_parts_alike.ensures.snapshots c.args.text.now c.args.part o stop_too_long other has) c.noted.ensures.status c.noted.ensures.writes
