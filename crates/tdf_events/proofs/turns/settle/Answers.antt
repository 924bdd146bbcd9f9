use Rattle.std.proofs.Common.{rules, arith, ◌≡◌, ◌<◌, ◌≤◌, ◌+◌, ◌-◌, ℕ, Some, true, false, ap, sym, ◌∙◌}
use Rattle.tdf_events.proofs.Settles.{settled_idle, settled_on, settled_spent}
use Rattle.tdf_events.specs.Delta.{is_idle, settled, turns_of}
use Rattle.tdf_events.specs.Kernel.{side_of}
use Rattle.tdf_events.specs.Side.{SideOf}
use Rattle.tdf_events.specs.views.Parts.{kernel_of}
use Rattle.tdf_events.proofs.turns.settle.Goals as goal

pub returns-then-turns-cost-clause-spent : goal.returns-then-turns-cost-clause-spent
returns-then-turns-cost-clause-spent c =
    let short : c.loop-turns.turns.left < c.count_turns-cost.result = search rules in
    let value : c.count_turns-cost.result ≡ turns_of (side_of (kernel_of c.loop-turns.parts)) = c.count_turns-cost.ensures.value in
    λ model checked. c.loop-turns.invariant.settled model checked ∙ settled_spent model c.args.flat.now c.args.time (side_of (kernel_of c.loop-turns.parts)) c.loop-turns.turns.left (omega (arith, short, value))

pub returns-then-check_idle-clause-settled : goal.returns-then-check_idle-clause-settled
returns-then-check_idle-clause-settled c =
    let long : c.count_turns-cost.result ≤ c.loop-turns.turns.left = search rules in
    let value : c.count_turns-cost.result ≡ turns_of (side_of (kernel_of c.loop-turns.parts)) = c.count_turns-cost.ensures.value in
    let idle : is_idle (side_of (kernel_of c.step.new.parts)) ≡ true = search rules in
    λ model checked. c.loop-turns.invariant.settled model checked
    ∙ settled_idle model c.args.flat.now c.args.time (side_of (kernel_of c.loop-turns.parts)) c.loop-turns.turns.left (omega (arith, long, value)) (sym (ap is_idle (c.step.ensures.side model checked)) ∙ idle)
    ∙ ap (λ (s : SideOf). Some (s, c.loop-turns.turns.left - turns_of (side_of (kernel_of c.loop-turns.parts)))) (sym (c.step.ensures.side model checked))
    ∙ ap (λ (n : ℕ). Some (side_of (kernel_of c.step.new.parts), c.loop-turns.turns.left - n)) (sym value)

pub loop-turns-preserved : goal.loop-turns-preserved
loop-turns-preserved c =
    let long : c.count_turns-cost.result ≤ c.loop-turns.turns.left = search rules in
    let value : c.count_turns-cost.result ≡ turns_of (side_of (kernel_of c.loop-turns.parts)) = c.count_turns-cost.ensures.value in
    let busy : is_idle (side_of (kernel_of c.step.new.parts)) ≡ false = search rules in
    let same : c.loop-turns.turns.left + c.loop-turns.turns.used ≡ c.args.turns.now.left + c.args.turns.now.used = c.loop-turns.invariant.turns in
    record {
      kernel = c.step.ensures.kernel;
      turns = omega (arith, long, same);
      settled = λ model checked. c.loop-turns.invariant.settled model checked
          ∙ settled_on model c.args.flat.now c.args.time (side_of (kernel_of c.loop-turns.parts)) c.loop-turns.turns.left (omega (arith, long, value)) (sym (ap is_idle (c.step.ensures.side model checked)) ∙ busy)
          ∙ ap (λ (s : SideOf). settled model c.args.flat.now c.args.time s (c.loop-turns.turns.left - turns_of (side_of (kernel_of c.loop-turns.parts)))) (sym (c.step.ensures.side model checked))
          ∙ ap (λ (n : ℕ). settled model c.args.flat.now c.args.time (side_of (kernel_of c.step.new.parts)) (c.loop-turns.turns.left - n)) (sym value);
    }
