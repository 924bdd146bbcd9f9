use Rattle.std.proofs.Common.{refl, rules, SFits}
use Rattle.std.proofs.lemmas.Int.{to_z-of_z}
use Rattle.std.specs.Int.{w128}
use Rattle.tdf_save_reading.proofs.ColumnSteps.{no_sample_keyword, no_sample_num, no_sample_time, sample_piece}
use Rattle.tdf_save_reading.proofs.columns.read_sample.Goals as goal

pub returns-in_default-clause-none : goal.returns-in_default-clause-none
returns-in_default-clause-none c = λ _. no_sample_keyword c.args.text.now c.in_default.ensures

pub returns-in_default-spaced_count-clause-none : goal.returns-in_default-spaced_count-clause-none
returns-in_default-spaced_count-clause-none c = λ _. no_sample_time c.args.text.now c.in-Some.words.now c.in-Some.ensures (c.in_default-spaced_count.ensures.none refl)

pub returns-in-Some-last_num-clause-is : goal.returns-in-Some-last_num-clause-is
returns-in-Some-last_num-clause-is c =
    let f : SFits w128 c.in-Some-last_num.num = search rules in
    rw (to_z-of_z w128 c.in-Some-last_num.num f)
    (sample_piece c.args.text.now c.in-Some.words.now c.in-Some-spaced_count.last.now c.in-Some-last_num.rest.now c.in-Some-spaced_count.time c.in-Some-last_num.num
    c.in-Some.ensures c.in-Some-spaced_count.ensures.is c.in-Some-last_num.ensures.is)

pub returns-in-None-clause-none : goal.returns-in-None-clause-none
returns-in-None-clause-none c = λ _. no_sample_num c.args.text.now c.in-Some.words.now c.in-Some-spaced_count.last.now c.in-Some-spaced_count.time c.in-Some.ensures c.in-Some-spaced_count.ensures.is (c.in-None.ensures.none refl)
