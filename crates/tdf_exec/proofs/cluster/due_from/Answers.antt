use Rattle.std.proofs.Common.{arith}
use Rattle.tdf_exec.proofs.Counts.{due_is}
use Rattle.tdf_exec.proofs.cluster.due_from.Goals as goal

pub returns-then-low-high : goal.returns-then-low-high
returns-then-low-high c =
    let d = due_is c.args.place c.args.offset c.first_from.result c.first_after-high.result c.args.entries.now
    c.first_from.ensures.before c.first_from.ensures.from c.first_after-high.ensures.upto c.first_after-high.ensures.after c.first_after-high.ensures.bound in
    let m = c.max-low.ensures in let t = c.if-low-high.true in omega (arith, d, m, t)

pub returns : goal.returns
returns c =
    let d = due_is c.args.place c.args.offset c.first_from.result c.first_after-high.result c.args.entries.now
    c.first_from.ensures.before c.first_from.ensures.from c.first_after-high.ensures.upto c.first_after-high.ensures.after c.first_after-high.ensures.bound in
    let m = c.max-low.ensures in let t = c.if-low-high.false in omega (arith, d, m, t)
