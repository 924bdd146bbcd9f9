use Rattle.std.proofs.Common.{◌<◌, ◌∙◌, length, arith, length-set, get_or-set_other}
use Rattle.tdf_stim.proofs.Cells.{next_more}
use Rattle.tdf_stim.proofs.literals.next_column.Goals as goal

pub loop-i-preserved : goal.loop-i-preserved
loop-i-preserved c =
    let old = c.args.cells.now.items in
    let now = c.loop-i.cells.items in
    let i = c.loop-i.i in
    let s = c.index.result.now in
    let t = c.other_words.result in
    let within : i < length now = omega (arith, c.loop-i.invariant.long, c.loop-i-test.true) in
    record {
      long = length-set now i t ∙ c.loop-i.invariant.long;
      ahead = λ k d h. get_or-set_other now i k t d (λ e. omega (arith, e, h)) ∙ c.loop-i.invariant.ahead k d (omega arith);
      done = next_more old now i s t c.loop-i.invariant.long c.loop-i.invariant.ahead within c.index.ensures c.other_words.ensures c.loop-i.invariant.done;
    }
