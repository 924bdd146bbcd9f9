use Rattle.std.proofs.Common.{List, ℕ, subst, ◌∙◌}
use Rattle.tdf_cli.proofs.Driven.{writes_nothing}
use Rattle.tdf_cli.proofs.drive.run_driven.Goals as goal
use Rattle.tdf_cli.specs.machine.Stages.{HasRunBehind, WritesOf}

pub returns-in-Ok-clause-writes : goal.returns-in-Ok-clause-writes
returns-in-Ok-clause-writes g c = λ tree accepted.
    subst (λ (lines : List ℕ). WritesOf (HasRunBehind lines c.args.asked tree) c.run_behind.result (g.O.Sink.taken c.args.out.now) (g.O.Sink.taken c.run_behind.new.out)
    (g.N.Sink.taken c.args.notes.now) (g.N.Sink.taken c.run_behind.new.notes)) (c.deref.ensures.value ∙ c.in-Ok.ensures) (c.run_behind.ensures.writes tree accepted)
