use Rattle.std.proofs.Common.{List, ℕ, inl, subst}
use Rattle.std.proofs.KnownBytes.{Keeps-refl}
use Rattle.std.specs.Io.KnownBytes.{Appends}
use Rattle.tdf_cli.proofs.Outcomes.{loaded_all, loaded_part}
use Rattle.tdf_io.specs.Bytes.{AppendsFront}
use Rattle.tdf_cli.proofs.measure.measure.Goals as goal

pub returns-in-Ok-put_all-clause-all : goal.returns-in-Ok-put_all-clause-all
returns-in-Ok-put_all-clause-all g c = λ tree text seed notes spells accepted.
    loaded_all text tree c.args.sim seed c.args.size c.in-Ok.measured (g.O.Sink.taken c.args.out.now) (g.O.Sink.taken c.put_all.new.sink) notes spells accepted.accepted
    (c.in-Ok.ensures tree accepted) (subst (λ (t : List ℕ). Appends (g.O.Sink.taken c.args.out.now) (g.O.Sink.taken c.put_all.new.sink) t) c.as_bytes.ensures.value c.in-Ok-put_all.ensures.all)

pub returns-in-Ok-clause-part : goal.returns-in-Ok-clause-part
returns-in-Ok-clause-part g c = λ tree text seed notes spells accepted.
    loaded_part text tree c.args.sim seed c.args.size c.in-Ok.measured (g.O.Sink.taken c.args.out.now) (g.O.Sink.taken c.put_all.new.sink) notes spells accepted.accepted
    (c.in-Ok.ensures tree accepted) c.law_one_outcome.ensures
    (subst (λ (t : List ℕ). AppendsFront (g.O.Sink.taken c.args.out.now) (g.O.Sink.taken c.put_all.new.sink) t) c.as_bytes.ensures.value c.in-Err-put_all.ensures.part)

pub returns-clause-part : goal.returns-clause-part
returns-clause-part g c = λ tree text seed notes spells accepted. inl (Keeps-refl (g.O.Sink.taken c.args.out.now), Keeps-refl notes)
