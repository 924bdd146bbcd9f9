use Rattle.std.proofs.Common.{◌≡◌, ◌≤◌, true}
use Rattle.tdf_expr_machine.specs.Acts.{act_turn}
use Rattle.tdf_expr_machine.specs.Turns.{turned}
use Rattle.tdf_expr_state.specs.State.{state_of, with_cell}
use Rattle.tdf_fixed.specs.Overflow.{IsOfWidth}
use Rattle.tdf_expr_machine.proofs.plain.inner_turns.Given as goal

abbrev pub invariant-loop-i : goal.invariant-loop-i
invariant-loop-i l = record {
  kept : l.cells ≡ l.initial.cells;
  range : IsOfWidth true l.inner.cut.wl l.sum;
  after : l.initial.i ≤ l.i;
  within : l.i ≤ l.turns.end;
  state : with_cell l.inner.at l.sum (state_of l.initial.cells l.signals) ≡ turned (act_turn l.act l.loops) l.initial.i l.i (state_of l.initial.cells l.initial.signals);
}
