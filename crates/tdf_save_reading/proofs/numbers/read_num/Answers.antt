use Rattle.std.proofs.Common.{rules, SFits}
use Rattle.std.specs.Int.{w128}
use Rattle.std.proofs.lemmas.Int.{to_z-of_z}
use Rattle.std.specs.Fmt.{signed_decimal}
use Rattle.tdf_save.proofs.Api.{num_plain}
use Rattle.tdf_save_reading.proofs.Readings.{cut_is, is_none, is_some, never, none_short, piece_of, word_is}
use Rattle.tdf_save.specs.Members.{IsNum}
use Rattle.tdf_save_reading.proofs.numbers.read_num.Goals as goal

pub returns-then-is_empty-clause-none : goal.returns-then-is_empty-clause-none
returns-then-is_empty-clause-none c = λ _.
    none_short signed_decimal IsNum c.args.text.now c.cut_word.result.0.now c.cut_word.result.1.now
    (cut_is c.args.text.now c.cut_word.result.0.now c.cut_word.result.1.now c.cut_word.ensures.word c.cut_word.ensures.rest)
    (is_none c.cut_word.result.1.now c.is_empty.result c.is_empty.ensures c.if-is_empty.true)

pub returns-in-Some-clause-is : goal.returns-in-Some-clause-is
returns-in-Some-clause-is c = let f : SFits w128 c.in-Some.number = search rules in simp to_z-of_z (piece_of signed_decimal IsNum c.args.text.now c.cut_word.result.0.now c.cut_word.result.1.now c.in-Some.number
    (cut_is c.args.text.now c.cut_word.result.0.now c.cut_word.result.1.now c.cut_word.ensures.word c.cut_word.ensures.rest)
    (is_some c.cut_word.result.1.now c.is_empty.result c.is_empty.ensures c.if-is_empty.false) c.in-Some.ensures.fits c.in-Some.ensures.is)

pub returns-in-None-clause-none : goal.returns-in-None-clause-none
returns-in-None-clause-none c = λ _ v r h.
    let cut = cut_is c.args.text.now c.cut_word.result.0.now c.cut_word.result.1.now c.cut_word.ensures.word c.cut_word.ensures.rest in
    let some = is_some c.cut_word.result.1.now c.is_empty.result c.is_empty.ensures c.if-is_empty.false in
    let is = word_is signed_decimal IsNum num_plain c.args.text.now c.cut_word.result.0.now c.cut_word.result.1.now v r cut h some in
    never c.whole_num.result v c.in-None.is (c.whole_num.ensures.always v h.fit is)
