use Rattle.std.proofs.Common.{◌≡◌, ◌<◌, ◌≤◌, ◌+◌, ◌*◌, ◌-◌, ap, ◌∙◌, length, arith}
use Rattle.std.proofs.lemmas.List.{take-set}
use Rattle.tdf_expr_machine.proofs.Runs.{act_size, for_turn, for_more, safe_on, turned_on, turned_same}
use Rattle.tdf_expr_machine.specs.Acts.{act_turn, IsTurnSafe}
use Rattle.tdf_expr_machine.specs.Turns.{turned}
use Rattle.tdf_expr_state.specs.State.{state_of}
use Rattle.tdf_expr_machine.proofs.acts.+runs.Goals as goal

pub run_turns-run-requires : goal.run_turns-run-requires
run_turns-run-requires t c =
    let now : 2 * act_size c.args.body.now + 2 ≡ t = c.decreases in
    let falls : 2 * act_size c.args.body.now + 1 < t = omega (arith, now) in
    let kept = c.loop-i.invariant in
    let room : length c.args.loops.now < length c.loop-i.inner = omega (arith, kept.long, c.requires.room) in (
      falls,
      for_turn c.args.body.now c.args.from c.args.end c.loop-i.i c.args.loops.now c.loop-i.inner (state_of c.args.cells.now c.args.signals.now) c.loop-i.cells c.loop-i.signals
          c.requires.safe kept.after c.loop-i-test.true kept.outer room kept.frame kept.ports,
    )

pub run_turns-loop-i-preserved : goal.run_turns-loop-i-preserved
run_turns-loop-i-preserved t c =
    let kept = c.loop-i.invariant in
    let room : length c.args.loops.now < length c.loop-i.inner = omega (arith, kept.long, c.requires.room) in
    let more = for_more c.args.body.now c.args.from c.args.end c.loop-i.i c.args.loops.now c.loop-i.inner (state_of c.args.cells.now c.args.signals.now) c.loop-i.cells c.loop-i.signals
    kept.after kept.outer room kept.frame kept.ports in
    record {
      long = c.loop-i-test.array_long;
      outer = take-set _ _ _ ∙ kept.outer;
      after = omega (arith, kept.after);
      within = omega (arith, c.loop-i-test.true);
      frame = c.run.ensures.frame ∙ ap (λ s. s.frame) more;
      ports = c.run.ensures.ports ∙ ap (λ s. s.ports) more;
    }

pub run_loop-run_turns-requires : goal.run_loop-run_turns-requires
run_loop-run_turns-requires t c =
    let now : 2 * act_size c.args.body.now + 3 ≡ t = c.decreases in
    let falls : 2 * act_size c.args.body.now + 2 < t = omega (arith, now) in
    let before : c.quick_turns-next.result ≤ c.args.end = omega (arith, c.if-next-end.true) in
    let safe = safe_on (act_turn c.args.body.now c.args.loops.now) (IsTurnSafe c.args.body.now c.args.loops.now) c.args.from c.quick_turns-next.result c.args.end (state_of c.args.cells.now c.args.signals.now) (state_of c.quick_turns-next.new.cells c.args.signals.now)
    c.quick_turns-next.ensures.after before c.quick_turns-next.ensures.state c.requires.safe in
    (falls, (c.requires.room, safe))

pub run_loop-returns-then-next-end-clause-frame : goal.run_loop-returns-then-next-end-clause-frame
run_loop-returns-then-next-end-clause-frame t c =
    let turn = act_turn c.args.body.now c.args.loops.now in
    let before : c.quick_turns-next.result ≤ c.args.end = omega (arith, c.if-next-end.true) in
    c.run_turns.ensures.frame ∙ ap (λ s. s.frame) (ap (turned turn c.quick_turns-next.result c.args.end) c.quick_turns-next.ensures.state
    ∙ turned_on turn c.args.from c.quick_turns-next.result c.args.end (state_of c.args.cells.now c.args.signals.now) c.quick_turns-next.ensures.after before)

pub run_loop-returns-then-next-end-clause-ports : goal.run_loop-returns-then-next-end-clause-ports
run_loop-returns-then-next-end-clause-ports t c =
    let turn = act_turn c.args.body.now c.args.loops.now in
    let before : c.quick_turns-next.result ≤ c.args.end = omega (arith, c.if-next-end.true) in
    c.run_turns.ensures.ports ∙ ap (λ s. s.ports) (ap (turned turn c.quick_turns-next.result c.args.end) c.quick_turns-next.ensures.state
    ∙ turned_on turn c.args.from c.quick_turns-next.result c.args.end (state_of c.args.cells.now c.args.signals.now) c.quick_turns-next.ensures.after before)

pub run_loop-returns-else-next-end-clause-frame : goal.run_loop-returns-else-next-end-clause-frame
run_loop-returns-else-next-end-clause-frame t c =
    let next = c.quick_turns-next in
    let last : next.result - c.args.from ≡ c.args.end - c.args.from = omega (arith, c.if-next-end.false, next.ensures.after, next.ensures.within) in
    ap (λ s. s.frame) (next.ensures.state ∙ turned_same (act_turn c.args.body.now c.args.loops.now) c.args.from next.result c.args.end (state_of c.args.cells.now c.args.signals.now) last)

pub run_loop-returns-else-next-end-clause-ports : goal.run_loop-returns-else-next-end-clause-ports
run_loop-returns-else-next-end-clause-ports t c =
    let next = c.quick_turns-next in
    let last : next.result - c.args.from ≡ c.args.end - c.args.from = omega (arith, c.if-next-end.false, next.ensures.after, next.ensures.within) in
    ap (λ s. s.ports) (next.ensures.state ∙ turned_same (act_turn c.args.body.now c.args.loops.now) c.args.from next.result c.args.end (state_of c.args.cells.now c.args.signals.now) last)
