use Rattle.std.proofs.Common.{rules, SFits, to_z, of_z, ◌≡◌, ◌∙◌, sym, ap, arith}
use Rattle.std.proofs.lemmas.Int.{to_z-of_z}
use Rattle.std.specs.Int.{w128}
use Rattle.tdf_expr_machine.specs.Acts.{act_turn}
use Rattle.tdf_expr_machine.specs.machine.Plain.{track_place}
use Rattle.tdf_expr_machine.proofs.Plains.{copy_turn}
use Rattle.tdf_expr_machine.proofs.Runs.{turned_more}
use Rattle.tdf_expr_state.specs.State.{cell_at, state_of, with_cell}
use Rattle.tdf_expr_machine.proofs.plain.copied_turns.Goals as goal

pub track_place-requires : goal.track_place-requires
track_place-requires c =
    (copy_turn c.args.act.now c.args.loops.now c.args.row c.args.turns.from c.args.turns.end c.loop-i.i (state_of c.args.cells.now c.args.signals.now) (state_of c.loop-i.cells c.args.signals.now)
    c.requires.row c.requires.safe c.loop-i.invariant.after c.loop-i-test.true c.loop-i.invariant.state).on.1.0

pub cell-num-requires : goal.cell-num-requires
cell-num-requires c =
    rw c.track_place.ensures (copy_turn c.args.act.now c.args.loops.now c.args.row c.args.turns.from c.args.turns.end c.loop-i.i (state_of c.args.cells.now c.args.signals.now) (state_of c.loop-i.cells c.args.signals.now)
    c.requires.row c.requires.safe c.loop-i.invariant.after c.loop-i-test.true c.loop-i.invariant.state).on.1.1

pub track_place-requires-in-loop-i : goal.track_place-requires-in-loop-i
track_place-requires-in-loop-i c =
    (copy_turn c.args.act.now c.args.loops.now c.args.row c.args.turns.from c.args.turns.end c.loop-i.i (state_of c.args.cells.now c.args.signals.now) (state_of c.loop-i.cells c.args.signals.now)
    c.requires.row c.requires.safe c.loop-i.invariant.after c.loop-i-test.true c.loop-i.invariant.state).on.0.0

pub set_cell-requires : goal.set_cell-requires
set_cell-requires c =
    rw c.track_place-in-loop-i.ensures (copy_turn c.args.act.now c.args.loops.now c.args.row c.args.turns.from c.args.turns.end c.loop-i.i (state_of c.args.cells.now c.args.signals.now) (state_of c.loop-i.cells c.args.signals.now)
    c.requires.row c.requires.safe c.loop-i.invariant.after c.loop-i-test.true c.loop-i.invariant.state).on.0.1

pub loop-i-preserved : goal.loop-i-preserved
loop-i-preserved c =
    let kept = c.loop-i.invariant in
    let turn = act_turn c.args.act.now c.args.loops.now in
    let row = c.args.row in
    let s = state_of c.loop-i.cells c.args.signals.now in
    let old = state_of c.args.cells.now c.args.signals.now in
    let fits : SFits w128 c.cell-num.result = search rules in
    let same : to_z w128 (of_z w128 c.cell-num.result) ≡ c.cell-num.result = to_z-of_z w128 c.cell-num.result fits in
    let copied = copy_turn c.args.act.now c.args.loops.now row c.args.turns.from c.args.turns.end c.loop-i.i old s c.requires.row c.requires.safe kept.after c.loop-i-test.true kept.state in
    record {
      after = omega (arith, kept.after);
      within = omega (arith, c.loop-i-test.true);
      state = ap (λ f. state_of f c.args.signals.now) c.set_cell.ensures
          ∙ ap (λ z. with_cell c.track_place-in-loop-i.result z s) same
          ∙ ap (λ p. with_cell p c.cell-num.result s) c.track_place-in-loop-i.ensures
          ∙ ap (λ z. with_cell (track_place row.to c.loop-i.i) z s) (c.cell-num.ensures ∙ ap (λ p. cell_at c.loop-i.cells.cells p) c.track_place.ensures)
          ∙ sym copied.same
          ∙ ap (turn c.loop-i.i) kept.state
          ∙ sym (turned_more turn c.args.turns.from c.loop-i.i old kept.after);
    }
