use Rattle.std.proofs.Common.{ℕ, ◌+◌, rules, subst}
use Rattle.tdf_io.specs.Bytes.{GivesAtMost, GivesExactly}
use Rattle.tdf_cli.proofs.input.read.Goals as goal

pub returns-in-Err-TooLong-clause-input : goal.returns-in-Err-TooLong-clause-input
returns-in-Err-TooLong-clause-input g c = λ words is. (
  record { job = c.args.job; asked = is; reads = c.requires.reads },
  subst (λ (limit : ℕ). GivesExactly (g.S.Source.left c.args.model.now) (g.S.Source.left c.read_all.new.src) (limit + 1)) c.most_bytes.ensures
      (c.in-Err-TooLong.ensures.too_long (search rules)),
)

pub returns-in-Err-ReadFault-clause-input : goal.returns-in-Err-ReadFault-clause-input
returns-in-Err-ReadFault-clause-input g c = λ words is. (
  record { job = c.args.job; asked = is; reads = c.requires.reads },
  subst (λ (limit : ℕ). GivesAtMost (g.S.Source.left c.args.model.now) (g.S.Source.left c.read_all.new.src) limit) c.most_bytes.ensures
      (c.in-Err-ReadFault.ensures.no_more (search rules)),
  c.in-Err-ReadFault.ensures.read_fault (search rules),
)
