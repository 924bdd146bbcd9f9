use Rattle.std.proofs.Common.{◌∙◌, ◌+◌, ap, drop, get_or, length}
use Rattle.tdf_expr.proofs.Framed.{stretch_inside, zeroed_next, zeroed_one_long}
use Rattle.tdf_expr.proofs.samples.zero_all.Goals as goal
use Rattle.tdf_expr.specs.machine.Zeroed.{zeroed}
use Rattle.tdf_expr_state.specs.State.{PortsState}

pub loop-stretch-preserved : goal.loop-stretch-preserved
loop-stretch-preserved c =
    let all = c.args.stretches.now in
    let i = c.loop-stretch.stretch-index in
    let within = c.loop-stretch-test.true in
    record {
      same = ap (zeroed (drop (i + 1) all)) c.zero_one.ensures ∙ zeroed_next all i _ c.loop-stretch.signals within ∙ c.loop-stretch.invariant.same;
      long = ap (λ (s : PortsState). length s.samples) c.zero_one.ensures
          ∙ zeroed_one_long (get_or all i _) c.loop-stretch.signals (stretch_inside all i _ _ _ within c.requires c.loop-stretch.invariant.long) ∙ c.loop-stretch.invariant.long;
    }
