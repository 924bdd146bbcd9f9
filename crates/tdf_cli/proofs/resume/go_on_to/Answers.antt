use Rattle.std.proofs.Common.{◌≡◌, ◌∙◌, ℕ, ◌<◌, Some, None, ap, sym, subst}
use Rattle.tdf_base.specs.declared.resolution.Resolution.{Resolution}
use Rattle.tdf_cli.proofs.Driven.{writes_note}
use Rattle.tdf_cli.proofs.Resumed.{early_note, note_counts, same_resume, unit_of}
use Rattle.tdf_cli.proofs.resume.go_on_to.Goals as goal
use Rattle.tdf_cli.specs.Resumed.{HasResumeOutcome, early_stop, late_stop}
use Rattle.tdf_cli.specs.Runs.{stop_in}
use Rattle.tdf_cli.specs.Saving.{stop_too_long}
use Rattle.tdf_cli.specs.declared.status.Status.TheVariants.{StopTooEarly, StopTooLong}

pub returns-else-end-time-clause-writes : goal.returns-else-end-time-clause-writes
returns-else-end-time-clause-writes g c = λ bytes of.
    c.go_on.ensures.writes bytes c.args.stop of (ap (λ (unit : Resolution). stop_in unit c.args.stop) (sym (unit_of bytes c.args.paused of)) ∙ sym c.in-Some.ensures.value)

pub returns-then-end-time-clause-writes : goal.returns-then-end-time-clause-writes
returns-then-end-time-clause-writes g c = λ bytes of.
    let is : stop_in of.sim.flat.resolution c.args.stop ≡ Some c.in-Some.end =
    ap (λ (unit : Resolution). stop_in unit c.args.stop) (sym (unit_of bytes c.args.paused of)) ∙ sym c.in-Some.ensures.value in
    let early : c.in-Some.end < of.snapshot.time = subst (λ (time : ℕ). c.in-Some.end < time) (c.time.ensures ∙ of.time) c.if-end-time.true in
    let has = early_stop of.saved is early in
    writes_note (HasResumeOutcome c.args.stop bytes) c.noted.result StopTooEarly (g.O.Sink.taken c.args.out.now) has
    (λ o other. same_resume c.law_one_model.ensures c.law_one_state.ensures c.law_rests_alike.ensures.rests c.args.stop bytes o early_note other has)
    c.noted.ensures.status c.noted.ensures.writes

pub returns-in-None-clause-writes : goal.returns-in-None-clause-writes
returns-in-None-clause-writes g c = λ bytes of.
    let is : stop_in of.sim.flat.resolution c.args.stop ≡ None =
    ap (λ (unit : Resolution). stop_in unit c.args.stop) (sym (unit_of bytes c.args.paused of)) ∙ sym c.in-None.ensures.value in
    let has = late_stop of.saved is in
    writes_note (HasResumeOutcome c.args.stop bytes) c.noted-in-None.result StopTooLong (g.O.Sink.taken c.args.out.now) has
    (λ o other. same_resume c.law_one_model.ensures c.law_one_state.ensures c.law_rests_alike.ensures.rests c.args.stop bytes o stop_too_long other has)
    c.noted-in-None.ensures.status c.noted-in-None.ensures.writes

pub returns-then-end-time-clause-counts : goal.returns-then-end-time-clause-counts
returns-then-end-time-clause-counts g c = note_counts (g.O.Sink.faults c.args.out.now) (g.N.Sink.faults c.args.notes.now) (g.N.Sink.faults c.noted.new.notes) c.noted.result c.noted.ensures.writes.counted

pub returns-in-None-clause-counts : goal.returns-in-None-clause-counts
returns-in-None-clause-counts g c = note_counts (g.O.Sink.faults c.args.out.now) (g.N.Sink.faults c.args.notes.now) (g.N.Sink.faults c.noted-in-None.new.notes) c.noted-in-None.result c.noted-in-None.ensures.writes.counted
