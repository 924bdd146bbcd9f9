use Rattle.std.proofs.Common.{◌≡◌, ◌≤◌, ◌+◌, ◌*◌, take, length, max}
use Rattle.tdf_expr_machine.specs.Acts.{act_turn}
use Rattle.tdf_expr_machine.proofs.Runs.{act_size}
use Rattle.tdf_expr_machine.specs.Turns.{turned}
use Rattle.tdf_expr_state.specs.State.{state_of}
use Rattle.tdf_expr_machine.proofs.acts.+runs.Given as goal

abbrev pub invariant-run_turns-loop-i : goal.invariant-run_turns-loop-i
invariant-run_turns-loop-i l = record {
  long : length l.inner ≡ 8;
  outer : take (length l.loops) l.inner ≡ l.loops;
  after : l.initial.i ≤ l.i;
  within : l.i ≤ max l.initial.i l.end;
  frame : l.cells ≡ (turned (act_turn l.body l.loops) l.initial.i l.i (state_of l.initial.cells l.initial.signals)).frame;
  ports : l.signals ≡ (turned (act_turn l.body l.loops) l.initial.i l.i (state_of l.initial.cells l.initial.signals)).ports;
}

abbrev pub decreases-walk : goal.decreases-walk
decreases-walk l = 2 * act_size l.act.now

abbrev pub decreases-run : goal.decreases-run
decreases-run l = 2 * act_size l.act.now + 1

abbrev pub decreases-run_turns : goal.decreases-run_turns
decreases-run_turns l = 2 * act_size l.body.now + 2

abbrev pub decreases-run_loop : goal.decreases-run_loop
decreases-run_loop l = 2 * act_size l.body.now + 3
