use Rattle.std.proofs.Common.{◌≡◌, ◌≤◌, ◌+◌, ◌*◌, ap, arith, refl, subst, sym}
use Rattle.std.proofs.Math.Nat.{mul-le-mul_right}
use Rattle.tdf_sampling.proofs.Stepping.{IsAt, goes_on, left_later, steps_more}
use Rattle.tdf_sampling.proofs.choosing.steps.Goals as goal
use Rattle.tdf_sampling.specs.machine.Windows.{rows_of}

pub loop-k-preserved : goal.loop-k-preserved
loop-k-preserved c =
    let time : c.from.result * c.args.step ≡ c.loop-k.k * c.args.step = ap (λ n. n * c.args.step) c.from.ensures in
    let at : IsAt (rows_of c.args.rows.now) (c.from.result * c.args.step) (rows_of c.rows_from-rest.result.now) =
    subst (IsAt (rows_of c.args.rows.now) (c.from.result * c.args.step)) (sym c.rows_from-rest.ensures.rest)
    (goes_on (rows_of c.args.rows.now) (rows_of c.loop-k.rest.now) (c.from.result * c.args.step) c.requires.rising
    (left_later (rows_of c.args.rows.now) (rows_of c.loop-k.rest.now) (c.loop-k.k * c.args.step) (c.from.result * c.args.step) (omega (arith, time)) c.loop-k.invariant.left)) in
    let more : c.loop-k.k * c.args.step ≤ (c.loop-k.k + 1) * c.args.step = mul-le-mul_right c.args.step (omega arith) in
    record {
      some = c.rows_from-rest.ensures.some;
      left = left_later (rows_of c.args.rows.now) (rows_of c.rows_from-rest.result.now) (c.from.result * c.args.step) ((c.loop-k.k + 1) * c.args.step) (omega (arith, time, more)) at.left;
      chosen = steps_more (rows_of c.args.rows.now) c.rows_from-rest.result.now c.loop-k.chosen.items c.push.new.self.items _ _ c.args.step c.loop-k.k (c.from.result * c.args.step)
          time c.loop-k.invariant.chosen c.in_ok-push.ensures.items at refl c.rows_from-rest.ensures.some refl;
    }
