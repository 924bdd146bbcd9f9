use Rattle.std.proofs.Common.{refl}
use Rattle.tdf_save_reading.proofs.HeadSteps.{no_run_budget, no_run_keyword, no_run_time, no_run_used, run_piece}
use Rattle.tdf_save_reading.proofs.head.read_run.Goals as goal

pub returns-in_default-clause-none : goal.returns-in_default-clause-none
returns-in_default-clause-none c = λ _. no_run_keyword c.args.text.now c.in_default.ensures

pub returns-in_default-spaced_count-clause-none : goal.returns-in_default-spaced_count-clause-none
returns-in_default-spaced_count-clause-none c = λ _. no_run_time c.args.text.now c.in-Some.words.now c.in-Some.ensures (c.in_default-spaced_count.ensures.none refl)

pub returns-in_default-spaced_count-2-clause-none : goal.returns-in_default-spaced_count-2-clause-none
returns-in_default-spaced_count-2-clause-none c = λ _. no_run_used c.args.text.now c.in-Some.words.now c.in-Some-spaced_count.after.now c.in-Some-spaced_count.time c.in-Some.ensures c.in-Some-spaced_count.ensures.is (c.in_default-spaced_count-2.ensures.none refl)

pub returns-in-Some-last_count-clause-is : goal.returns-in-Some-last_count-clause-is
returns-in-Some-last_count-clause-is c = run_piece c.args.text.now c.in-Some.words.now c.in-Some-spaced_count.after.now c.in-Some-spaced_count-2.last.now c.in-Some-last_count.rest.now c.in-Some-spaced_count.time c.in-Some-spaced_count-2.used c.in-Some-last_count.budget
    c.in-Some.ensures c.in-Some-spaced_count.ensures.is c.in-Some-spaced_count-2.ensures.is c.in-Some-last_count.ensures.is

pub returns-in-None-clause-none : goal.returns-in-None-clause-none
returns-in-None-clause-none c = λ _. no_run_budget c.args.text.now c.in-Some.words.now c.in-Some-spaced_count.after.now c.in-Some-spaced_count-2.last.now c.in-Some-spaced_count.time c.in-Some-spaced_count-2.used
    c.in-Some.ensures c.in-Some-spaced_count.ensures.is c.in-Some-spaced_count-2.ensures.is (c.in-None.ensures.none refl)
