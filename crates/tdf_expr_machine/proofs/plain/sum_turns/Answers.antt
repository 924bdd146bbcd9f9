use Rattle.std.proofs.Common.{◌∙◌, ap}
use Rattle.tdf_expr_machine.specs.Acts.{act_turn, IsTurnSafe}
use Rattle.tdf_expr_machine.specs.Turns.{turned}
use Rattle.tdf_expr_machine.proofs.Runs.{safe_on, turned_on}
use Rattle.tdf_expr_state.specs.State.{state_of}
use Rattle.tdf_expr_machine.proofs.plain.sum_turns.Goals as goal

pub plain_turns-requires-clause-safe : goal.plain_turns-requires-clause-safe
plain_turns-requires-clause-safe c =
    let next = c.product_turns-next in
    safe_on (act_turn c.args.act.now c.args.loops.now) (IsTurnSafe c.args.act.now c.args.loops.now) c.args.turns.from next.result c.args.turns.end (state_of c.args.cells.now c.args.signals.now)
    (state_of next.new.cells c.args.signals.now) next.ensures.after next.ensures.within next.ensures.state c.requires.safe

pub returns-clause-state : goal.returns-clause-state
returns-clause-state c =
    let next = c.product_turns-next in
    let turn = act_turn c.args.act.now c.args.loops.now in
    c.plain_turns.ensures.state ∙ ap (turned turn next.result c.plain_turns.result) next.ensures.state
    ∙ turned_on turn c.args.turns.from next.result c.plain_turns.result (state_of c.args.cells.now c.args.signals.now) next.ensures.after c.plain_turns.ensures.after
