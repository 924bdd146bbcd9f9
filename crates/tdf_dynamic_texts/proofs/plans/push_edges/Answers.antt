use Rattle.std.proofs.Common.{ℕ, List, arith, length}
use Rattle.tdf_dynamic_texts.proofs.Own.{edge_texts_are, own_next, own_whole}
use Rattle.tdf_dynamic_texts.proofs.Texts.{kept_after}
use Rattle.tdf_dynamic_texts.specs.Plans.{edge_text, rows_of_plan}
use Rattle.tdf_dynamic_texts.proofs.plans.push_edges.Goals as goal

pub push_edge-requires-clause-place : goal.push_edge-requires-clause-place
push_edge-requires-clause-place c = c.requires.numbers.within c.loop-i.i c.loop-i-test.true

pub loop-i-preserved : goal.loop-i-preserved
loop-i-preserved c =
    let f : ℕ → List ℕ = edge_text c.args.flat.now (rows_of_plan c.args.plan.now) c.args.cluster in
    own_next f c.args.numbers.now c.loop-i.i c.args.out.now.items c.loop-i.out.items c.push_edge.new.out.items c.loop-i-test.true c.loop-i.invariant c.in_ok-push_edge.ensures.ok

pub returns-in_err-push_edge-clause-kept : goal.returns-in_err-push_edge-clause-kept
returns-in_err-push_edge-clause-kept c = kept_after c.args.out.now.items _ c.loop-i.out.items c.push_edge.new.out.items c.loop-i.invariant c.in_err-push_edge.ensures.kept

pub returns-clause-ok : goal.returns-clause-ok
returns-clause-ok c =
    let f : ℕ → List ℕ = edge_text c.args.flat.now (rows_of_plan c.args.plan.now) c.args.cluster in
    own_whole f c.args.numbers.now c.loop-i.i (length c.args.flat.now.edges) c.args.out.now.items c.loop-i.out.items (let past = c.loop-i-test.false in omega (arith, past)) c.loop-i.invariant
    (edge_texts_are c.args.flat.now (rows_of_plan c.args.plan.now) c.args.cluster c.args.numbers.now c.requires.numbers)
