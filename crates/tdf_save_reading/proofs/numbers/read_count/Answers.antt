use Rattle.std.proofs.Common.{decimal}
use Rattle.tdf_save.proofs.Api.{count_plain}
use Rattle.tdf_save_reading.proofs.Readings.{cut_is, is_none, is_some, never, none_short, piece_of, word_is}
use Rattle.tdf_save.specs.Members.{IsCount64}
use Rattle.tdf_save_reading.proofs.numbers.read_count.Goals as goal

pub returns-then-is_empty-clause-none : goal.returns-then-is_empty-clause-none
returns-then-is_empty-clause-none c = λ _.
    none_short decimal IsCount64 c.args.text.now c.cut_word.result.0.now c.cut_word.result.1.now
    (cut_is c.args.text.now c.cut_word.result.0.now c.cut_word.result.1.now c.cut_word.ensures.word c.cut_word.ensures.rest)
    (is_none c.cut_word.result.1.now c.is_empty.result c.is_empty.ensures c.if-is_empty.true)

pub returns-in-Some-clause-is : goal.returns-in-Some-clause-is
returns-in-Some-clause-is c = (piece_of decimal IsCount64 c.args.text.now c.cut_word.result.0.now c.cut_word.result.1.now c.in-Some.number
    (cut_is c.args.text.now c.cut_word.result.0.now c.cut_word.result.1.now c.cut_word.ensures.word c.cut_word.ensures.rest)
    (is_some c.cut_word.result.1.now c.is_empty.result c.is_empty.ensures c.if-is_empty.false) c.in-Some.ensures.fits c.in-Some.ensures.is)

pub returns-in-None-clause-none : goal.returns-in-None-clause-none
returns-in-None-clause-none c = λ _ v r h.
    let cut = cut_is c.args.text.now c.cut_word.result.0.now c.cut_word.result.1.now c.cut_word.ensures.word c.cut_word.ensures.rest in
    let some = is_some c.cut_word.result.1.now c.is_empty.result c.is_empty.ensures c.if-is_empty.false in
    let is = word_is decimal IsCount64 count_plain c.args.text.now c.cut_word.result.0.now c.cut_word.result.1.now v r cut h some in
    never c.whole.result v c.in-None.is (c.whole.ensures.always v h.fit is)
