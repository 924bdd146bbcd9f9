use Rattle.std.proofs.Common.{List, ℕ, Err, ap, subst}
use Rattle.tdf_cli.proofs.Outcomes.{noted_all, noted_part, resumed_all, resumed_front}
use Rattle.tdf_cli.proofs.resume.resume.Goals as goal
use Rattle.tdf_cli.specs.Input.{Text}
use Rattle.tdf_cli.specs.Outcome.{is_resumed}
use Rattle.tdf_cli.specs.Resumed.{bad_state}
use Rattle.tdf_cli.specs.declared.status.Status.TheVariants.{BadState}
use Rattle.tdf_cli_words.specs.declared.asked.Settings.TheVariants.{Resume}
use Rattle.tdf_sim.specs.States.{IsNoState, IsRunOf}

pub returns-in-Ok-clause-all : goal.returns-in-Ok-clause-all
returns-in-Ok-clause-all g c = resumed_all c.args.stop c.args.bytes.now.items (g.O.Sink.taken c.args.out.now) (g.O.Sink.taken c.go_on_to.new.out) (g.N.Sink.taken c.args.notes.now)
    (g.N.Sink.taken c.go_on_to.new.notes) c.go_on_to.result
    (c.go_on_to.ensures.writes c.args.bytes.now.items (subst (λ (t : List ℕ). IsRunOf t c.in-Ok.paused) c.deref.ensures.value c.in-Ok.ensures.run))

pub returns-in-Ok-clause-part : goal.returns-in-Ok-clause-part
returns-in-Ok-clause-part g c = resumed_front c.args.stop c.args.bytes.now.items (g.O.Sink.taken c.args.out.now) (g.O.Sink.taken c.go_on_to.new.out) (g.N.Sink.taken c.args.notes.now)
    (g.N.Sink.taken c.go_on_to.new.notes) c.go_on_to.result
    (c.go_on_to.ensures.writes c.args.bytes.now.items (subst (λ (t : List ℕ). IsRunOf t c.in-Ok.paused) c.deref.ensures.value c.in-Ok.ensures.run))

pub returns-in-Err-Bad-clause-all : goal.returns-in-Err-Bad-clause-all
returns-in-Err-Bad-clause-all g c = noted_all c.noted.result (Text (Resume c.args.stop) c.args.bytes.now.items) BadState (g.O.Sink.taken c.args.out.now)
    (is_resumed (bad_state (subst (λ (t : List ℕ). IsNoState t) c.deref.ensures.value (c.in-Err-Bad.ensures.bad (ap Err c.in-Err-Bad.field-0-is))))) c.noted.ensures.status c.noted.ensures.writes

pub returns-in-Err-Bad-clause-part : goal.returns-in-Err-Bad-clause-part
returns-in-Err-Bad-clause-part g c = noted_part c.law_one_outcome.ensures c.noted.result (Text (Resume c.args.stop) c.args.bytes.now.items) BadState (g.O.Sink.taken c.args.out.now)
    (is_resumed (bad_state (subst (λ (t : List ℕ). IsNoState t) c.deref.ensures.value (c.in-Err-Bad.ensures.bad (ap Err c.in-Err-Bad.field-0-is))))) c.noted.ensures.writes
