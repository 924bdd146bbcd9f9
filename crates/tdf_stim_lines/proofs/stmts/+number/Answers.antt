use Rattle.std.proofs.Common.{◌≢◌, ◌<◌, length, refl, arith, rules}
use Rattle.tdf_lang_tree.specs.declared.stmt.Stmt.{out-Stmt}
use Rattle.tdf_stim_lines.proofs.Statements.{stmts_stepwise, accept_walks, assign_walks, else_some, for_walks, if_walks, notify_walks, reject_walks, set_rate_walks, set_step_walks}
use Rattle.tdf_stim_lines.proofs.Walking.{ahead_more, loop_more}
use Rattle.tdf_stim_lines.proofs.stmts.+number.Goals as goal

pub number_else-returns : goal.number_else-returns
number_else-returns t c =
    let some : length c.args.list.now.items ≢ 0 = search rules in
    else_some c.args.at c.saturating_add.result c.number_stmts.result c.args.list.now.items c.number_stmts.new.list.items some (omega arith) c.saturating_add.ensures c.number_stmts.ensures

pub number_stmt-returns-in-Assign : goal.number_stmt-returns-in-Assign
unfolding out-Stmt denote.Hole.Carrier.out
number_stmt-returns-in-Assign t c =
    rw c.in-Assign.is (assign_walks c.in-Assign.line c.args.at c.saturating_add.result c.in-Assign.name c.in-Assign.index c.in-Assign.value _ _ refl refl (omega arith) c.saturating_add.ensures)

pub number_stmt-returns-in-If : goal.number_stmt-returns-in-If
unfolding out-Stmt denote.Hole.Carrier.out
number_stmt-returns-in-If t c =
    rw c.in-If.is (if_walks c.in-If.line c.args.at c.saturating_add-in-If.result c.number_stmts-middle.result c.number_else-end.result c.saturating_add-in-If-2.result
    c.in-If.test c.in-If.yes c.in-If.no c.number_stmts-middle.new.list c.number_else-end.new.list _ _ refl refl (omega arith) c.saturating_add-in-If.ensures
    (rw c.in-If.yes-is at c.number_stmts-middle.ensures) (rw c.in-If.no-is at c.number_else-end.ensures) (omega arith) c.saturating_add-in-If-2.ensures)

pub number_stmt-returns-in-For : goal.number_stmt-returns-in-For
unfolding out-Stmt denote.Hole.Carrier.out
number_stmt-returns-in-For t c =
    rw c.in-For.is (for_walks c.in-For.line c.args.at c.saturating_add-in-For.result c.number_stmts-end.result c.saturating_add-in-For-2.result
    c.in-For.var c.in-For.from c.in-For.limit c.in-For.body c.number_stmts-end.new.list _ _ refl refl (omega arith) c.saturating_add-in-For.ensures
    (rw c.in-For.body-is at c.number_stmts-end.ensures) (omega arith) c.saturating_add-in-For-2.ensures)

pub number_stmt-returns-in-Notify : goal.number_stmt-returns-in-Notify
unfolding out-Stmt denote.Hole.Carrier.out
number_stmt-returns-in-Notify t c =
    rw c.in-Notify.is (notify_walks c.in-Notify.line c.args.at c.saturating_add-in-Notify.result c.in-Notify.event c.in-Notify.after _ _ refl refl (omega arith) c.saturating_add-in-Notify.ensures)

pub number_stmt-returns-in-SetRate : goal.number_stmt-returns-in-SetRate
unfolding out-Stmt denote.Hole.Carrier.out
number_stmt-returns-in-SetRate t c =
    rw c.in-SetRate.is (set_rate_walks c.in-SetRate.line c.args.at c.saturating_add-in-SetRate.result c.in-SetRate.name c.in-SetRate.value _ _ refl refl (omega arith) c.saturating_add-in-SetRate.ensures)

pub number_stmt-returns-in-SetStep : goal.number_stmt-returns-in-SetStep
unfolding out-Stmt denote.Hole.Carrier.out
number_stmt-returns-in-SetStep t c =
    rw c.in-SetStep.is (set_step_walks c.in-SetStep.line c.args.at c.saturating_add-in-SetStep.result c.in-SetStep.port c.in-SetStep.step _ _ refl refl (omega arith) c.saturating_add-in-SetStep.ensures)

pub number_stmt-returns-in-Accept : goal.number_stmt-returns-in-Accept
unfolding out-Stmt denote.Hole.Carrier.out
number_stmt-returns-in-Accept t c =
    rw c.in-Accept.is (accept_walks c.in-Accept.line c.args.at c.saturating_add-in-Accept.result _ _ refl refl (omega arith) c.saturating_add-in-Accept.ensures)

pub number_stmt-returns-in-Reject : goal.number_stmt-returns-in-Reject
unfolding out-Stmt denote.Hole.Carrier.out
number_stmt-returns-in-Reject t c =
    rw c.in-Reject.is (reject_walks c.in-Reject.line c.args.at c.saturating_add-in-Reject.result _ _ refl refl (omega arith) c.saturating_add-in-Reject.ensures)

pub number_stmts-loop-i-preserved : goal.number_stmts-loop-i-preserved
number_stmts-loop-i-preserved t c =
    let loop = c.loop-i in
    let x = c.index_mut.result.now in
    let y = c.number_stmt-next.new.stmt in
    let within : loop.i < length loop.list.items = omega (arith, loop.invariant.unvisited.0, c.loop-i-test.true) in
    record {
      unvisited = ahead_more loop.i c.args.list.now.items loop.list.items y loop.invariant.unvisited;
      done = loop_more stmts_stepwise c.args.at loop.next c.number_stmt-next.result c.args.list.now.items loop.list.items loop.i x y
          loop.invariant.unvisited within c.index_mut.ensures.value loop.invariant.done c.number_stmt-next.ensures;
    }
