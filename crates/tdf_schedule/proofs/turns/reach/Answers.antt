use Rattle.std.proofs.Common.{◌∙◌, ◌++◌, ◌∷◌, [], ℕ, List, ap, arith, length}
use Rattle.std.proofs.lemmas.List.{length_push}
use Rattle.tdf_schedule.proofs.Gains.{empty_none, empty_more}
use Rattle.tdf_schedule.proofs.turns.reach.Goals as goal

pub loop-made-init : goal.loop-made-init
loop-made-init c = record {
  long = omega (arith, c.len-made.ensures, c.args.levels.now.ok);
  more = empty_none c.args.levels.now.items;
}

pub loop-made-preserved : goal.loop-made-preserved
loop-made-preserved c =
    let more = c.in_ok-push.ensures.items in
    record {
      long = (let e = ap (λ (l : List (List ℕ)). length l) more in let p = length_push c.loop-made.levels.items c.new.result in let l = c.loop-made.invariant.long in omega (arith, e, p, l));
      more = empty_more c.args.levels.now.items c.loop-made.levels.items c.push.new.self.items c.loop-made.invariant.more (more ∙ ap (λ (row : List ℕ). c.loop-made.levels.items ++ row ∷ []) c.new.ensures);
    }
