use Rattle.std.proofs.Common.{◌≡◌, ◌∙◌, inr, refl, sym, subst}
use Rattle.std.proofs.KnownBytes.{Appends-nil}
use Rattle.tdf_cli.proofs.Driven.{writes_note}
use Rattle.tdf_cli.proofs.Saving.{state_fits, state_long}
use Rattle.tdf_cli.proofs.save.put_state.Goals as goal
use Rattle.tdf_cli.specs.Runs.{Outcome}
use Rattle.tdf_cli.specs.Saving.{state_outcome, whole_state}
use Rattle.tdf_cli.specs.declared.status.Status.TheVariants.{StateTooLong}
use Rattle.tdf_io.proofs.Api.{front_none}
use Rattle.tdf_io.specs.Bytes.{AppendsFront}

pub returns-then-bytes-gt-LONGEST_STATE-clause-writes : goal.returns-then-bytes-gt-LONGEST_STATE-clause-writes
returns-then-bytes-gt-LONGEST_STATE-clause-writes g c =
    let long = state_long c.args.bytes.now c.if-bytes-gt-LONGEST_STATE.true in
    writes_note (λ (o : Outcome). o ≡ state_outcome c.args.bytes.now) c.noted.result StateTooLong (g.O.Sink.taken c.args.out.now)
    long (λ o is. is ∙ sym long) c.noted.ensures.status c.noted.ensures.writes

pub returns-in-Ok-clause-writes : goal.returns-in-Ok-clause-writes
returns-in-Ok-clause-writes g c = record {
  outcome = whole_state c.args.bytes.now;
  has = state_fits c.args.bytes.now c.if-bytes-gt-LONGEST_STATE.false;
  answers = refl;
  out = c.in-Ok.ensures.all;
  notes = Appends-nil (g.N.Sink.taken c.args.notes.now);
}

pub returns-in-Err-clause-writes : goal.returns-in-Err-clause-writes
returns-in-Err-clause-writes g c =
    let fits = state_fits c.args.bytes.now c.if-bytes-gt-LONGEST_STATE.false in
    inr (record {
      out = λ o is. subst (λ (x : Outcome). AppendsFront (g.O.Sink.taken c.args.out.now) (g.O.Sink.taken c.put_all.new.sink) x.out) (fits ∙ sym is) c.in-Err.ensures.part;
      notes = λ o is. front_none (g.N.Sink.taken c.args.notes.now) o.notes;
    })
