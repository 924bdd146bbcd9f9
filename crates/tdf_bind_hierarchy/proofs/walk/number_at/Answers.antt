use Rattle.std.proofs.Common.{sym}
use Rattle.tdf_bind_hierarchy.proofs.Steps.{number_here, number_past}
use Rattle.tdf_bind_hierarchy.proofs.walk.number_at.Goals as goal

pub returns-then-place-numbers : goal.returns-then-place-numbers
returns-then-place-numbers c = sym (number_here c.args.numbers.now c.args.place _ c.if-place-numbers.true)

pub returns : goal.returns
returns c = sym (number_past c.args.numbers.now c.args.place c.if-place-numbers.false)
