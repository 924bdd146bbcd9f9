use mir.Syntax.{w128}
use Rattle.std.proofs.Common.{rules, ◌∙◌, ◌∷◌, ◌++◌, [], ap}
use Rattle.std.proofs.lemmas.Int.{to_z-of_z}
use Rattle.tdf_exec.proofs.Held.{nums_next}
use Rattle.tdf_exec.proofs.saving.nums_of.Goals as goal

pub loop-i-preserved : goal.loop-i-preserved
loop-i-preserved c = nums_next c.args.ring.now.samples c.loop-i.i c.read.result c.loop-i.nums.items c.push.new.self.items c.read.ensures c.loop-i.invariant
    (c.in_ok-push.ensures.items ∙ ap (λ z. c.loop-i.nums.items ++ z ∷ []) (to_z-of_z w128 c.read.result.num (search rules)))
