use Rattle.std.proofs.Common.{Ok, Err, subst}
use Rattle.tdf_io.specs.declared.writing.SinkErr.{SinkErr}
use Rattle.tdf_sim_runs.proofs.paused.Paused.resume.Goals as goal
use Rattle.tdf_sim_runs.specs.Rest.{GoesOnAs}
use Rattle.tdf_trace.specs.Writings.{AboutSeen}

pub returns-in-Ok-clause-goes : goal.returns-in-Ok-clause-goes
returns-in-Ok-clause-goes g c = λ model start handed ahead m run to.
    subst (λ (about : AboutSeen). GoesOnAs {E = SinkErr} model c.args.self.flat about start handed ahead c.args.self.run.shown.trace.rows.upto c.args.stop c.args.self.turns (g.O.Sink.taken c.args.out.now) (g.O.Sink.taken c.go_on.new.out)
    (g.N.Sink.taken c.args.notes.now) (g.N.Sink.taken c.go_on.new.notes) (Ok c.in-Ok.ran)) c.requires.paused.about (c.in-Ok.ensures.goes model start handed ahead m run to)

pub returns-in-Err-clause-goes : goal.returns-in-Err-clause-goes
returns-in-Err-clause-goes g c = λ model start handed ahead m run to.
    subst (λ (about : AboutSeen). GoesOnAs {E = SinkErr} model c.args.self.flat about start handed ahead c.args.self.run.shown.trace.rows.upto c.args.stop c.args.self.turns (g.O.Sink.taken c.args.out.now) (g.O.Sink.taken c.go_on.new.out)
    (g.N.Sink.taken c.args.notes.now) (g.N.Sink.taken c.go_on.new.notes) (Err c.in-Err.error)) c.requires.paused.about (c.in-Err.ensures.goes model start handed ahead m run to)
