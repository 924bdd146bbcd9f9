use Rattle.std.proofs.Common.{◌≡◌, ◌≤◌, max}
use Rattle.tdf_expr_machine.specs.Acts.{act_turn}
use Rattle.tdf_expr_machine.specs.Turns.{turned}
use Rattle.tdf_expr_state.specs.State.{state_of}
use Rattle.tdf_expr_machine.proofs.plain.copied_turns.Given as goal

abbrev pub invariant-loop-i : goal.invariant-loop-i
invariant-loop-i l = record {
  after : l.initial.i ≤ l.i;
  within : l.i ≤ max l.initial.i l.fn.turns.end;
  state : state_of l.cells l.signals ≡ turned (act_turn l.act l.loops) l.initial.i l.i (state_of l.initial.cells l.initial.signals);
}
