use Rattle.std.proofs.Common.{◌++◌, ◌∷◌, ◌∙◌, ap}
use Rattle.tdf_save.proofs.WordLists.{none_before, one_more}
use Rattle.tdf_save.proofs.words.push_numbers.Goals as goal

pub loop-k-init : goal.loop-k-init
loop-k-init g c = none_before g.N.Integer.text c.args.out.now.items c.args.numbers.now

pub loop-k-preserved : goal.loop-k-preserved
loop-k-preserved g c = one_more g.N.Integer.text c.args.out.now.items c.loop-k.out.items c.push_spaced.new.out.items c.args.numbers.now c.loop-k.k c.index-numbers-k.result
    c.loop-k-test.true c.loop-k.invariant
    (c.in_ok-push_spaced.ensures.ok ∙ ap (λ x. c.loop-k.out.items ++ (32 ∷ x)) (c.as_bytes.ensures.value ∙ c.format.ensures.text ∙ ap g.N.Integer.text c.index-numbers-k.is))
