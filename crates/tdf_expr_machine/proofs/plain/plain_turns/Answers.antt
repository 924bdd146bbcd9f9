use Rattle.std.proofs.Common.{◌∙◌, sym, ap, arith, rules}
use Rattle.tdf_expr_machine.specs.Acts.{act_turn, IsTurnSafe}
use Rattle.tdf_expr_machine.proofs.Runs.{turn_safe, turned_more}
use Rattle.tdf_expr_state.specs.State.{state_of}
use Rattle.tdf_expr_machine.proofs.plain.plain_turns.Goals as goal

pub plain_turn-requires-clause-safe : goal.plain_turn-requires-clause-safe
plain_turn-requires-clause-safe c =
    let kept = c.loop-i.invariant in
    rw kept.state (turn_safe (act_turn c.args.act.now c.args.loops.now) (IsTurnSafe c.args.act.now c.args.loops.now) c.args.turns.from c.args.turns.end c.loop-i.i (state_of c.args.cells.now c.args.signals.now)
    c.requires.safe kept.after c.loop-i-test.true)

pub loop-i-preserved : goal.loop-i-preserved
loop-i-preserved c =
    let kept = c.loop-i.invariant in
    record {
      after = omega (arith, kept.after);
      within = omega (arith, c.loop-i-test.true);
      state = c.if-not-plain_turn.ensures.done (search rules) ∙ ap (act_turn c.args.act.now c.args.loops.now c.loop-i.i) kept.state
          ∙ sym (turned_more (act_turn c.args.act.now c.args.loops.now) c.args.turns.from c.loop-i.i (state_of c.args.cells.now c.args.signals.now) kept.after);
    }
