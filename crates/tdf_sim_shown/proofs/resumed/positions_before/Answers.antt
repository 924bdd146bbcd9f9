use Rattle.std.proofs.Common.{rules, ◌≡◌, ◌∙◌, ◌<◌, ◌≤◌, sym}
use Rattle.tdf_sim_shown.proofs.Counting.{skipped_all, skipped_nothing, skipped_some}
use Rattle.tdf_sim_shown.proofs.resumed.positions_before.Goals as goal

pub returns-then-time-since-clause-is : goal.returns-then-time-since-clause-is
returns-then-time-since-clause-is c =
    let early : c.args.time ≤ c.args.since = search rules in sym (skipped_nothing c.args.since c.args.step c.args.count c.args.time early)

pub returns-then-step-eq0-clause-is : goal.returns-then-step-eq0-clause-is
returns-then-step-eq0-clause-is c =
    let later : c.args.since < c.args.time = search rules in
    let none : c.args.step ≡ 0 = search rules in sym (skipped_all c.args.since c.args.step c.args.count c.args.time none later)

pub returns-clause-is : goal.returns-clause-is
returns-clause-is c =
    let later : c.args.since < c.args.time = search rules in
    let some : 0 < c.args.step = search rules in c.min.ensures ∙ sym (skipped_some c.args.since c.args.step c.args.count c.args.time some later)
