use Rattle.std.proofs.Common.{ℕ, subst}
use Rattle.tdf_cli.proofs.Driven.{writes_before, writes_behind}
use Rattle.tdf_cli.proofs.drive.run_behind.Goals as goal
use Rattle.tdf_io.specs.Faults.{CountsTwoSinks}
use Rattle.tdf_io.specs.declared.writing.SinkErr.TheVariants as why

pub returns-in-Ok-clause-writes : goal.returns-in-Ok-clause-writes
returns-in-Ok-clause-writes g c = λ tree accepted.
    writes_behind c.args.lines.now c.args.asked tree c.run.result _ _ _ _ _ c.in-Ok.ensures.all (c.run.ensures.all tree accepted) (c.run.ensures.part tree accepted)

pub returns-in-Ok-clause-counts : goal.returns-in-Ok-clause-counts
returns-in-Ok-clause-counts g c =
    subst (λ (n : ℕ). CountsTwoSinks why.Failed (g.O.Sink.faults c.args.out.now) (g.O.Sink.faults c.run.new.out) n (g.N.Sink.faults c.run.new.notes) c.run.result)
    c.in-Ok.ensures.counted.kept c.run.ensures.counts

pub returns-in-Err-clause-writes : goal.returns-in-Err-clause-writes
returns-in-Err-clause-writes g c = λ tree accepted. writes_before c.args.lines.now c.args.asked tree c.in-Err.error _ _ _ c.in-Err.ensures.part
