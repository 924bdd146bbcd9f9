use Rattle.std.proofs.Common.{arith, ◌<◌, ◌+◌, List, length, subst, sym}
use Rattle.std.specs.Prelude.{map}
use Rattle.tdf_expr.proofs.Blocked.{AreMade, seen_at, made_more}
use Rattle.tdf_expr_machine.specs.declared.acts.Act.{Act}
use Rattle.tdf_expr.proofs.modules.process_acts.Goals as goal
use Rattle.tdf_lang_tree.specs.Views.{pure_process}

pub compile_body-requires-clause-none : goal.compile_body-requires-clause-none
compile_body-requires-clause-none c =
    let within : c.loop-place.place < length c.args.list.now.items = omega (arith, c.loop-place-test.true) in
    c.requires.faultless c.loop-place.place (pure_process c.index.result.now) (seen_at c.args.list.now.items c.loop-place.place c.index.result.now within c.index.ensures)

pub compile_body-requires-clause-nested : goal.compile_body-requires-clause-nested
compile_body-requires-clause-nested c =
    let within : c.loop-place.place < length c.args.list.now.items = omega (arith, c.loop-place-test.true) in
    c.requires.nested c.loop-place.place (pure_process c.index.result.now) (seen_at c.args.list.now.items c.loop-place.place c.index.result.now within c.index.ensures)

pub loop-place-preserved : goal.loop-place-preserved
loop-place-preserved c =
    let within : c.loop-place.place < length c.args.list.now.items = omega (arith, c.loop-place-test.true) in
    let at = seen_at c.args.list.now.items c.loop-place.place c.index.result.now within c.index.ensures in
    subst (λ (l : List Act). AreMade c.args.scope.now (map pure_process c.args.list.now.items) (c.loop-place.place + 1) l) (sym c.in_ok-push.ensures.items)
    (made_more c.args.scope.now (map pure_process c.args.list.now.items) c.loop-place.place c.loop-place.acts.items (pure_process c.index.result.now) c.in_ok-act.act
    c.loop-place.invariant at c.in_ok-act.ensures)
