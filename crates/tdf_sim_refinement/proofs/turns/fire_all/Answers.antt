use Rattle.std.proofs.Common.{◌≡◌, ◌-◌, ℕ, true, List, slice_index, arith, subst, sym}
use Rattle.tdf_exec.specs.Cluster.{is_next_due}
use Rattle.tdf_exec.specs.Played.{AreInputsFor}
use Rattle.tdf_fixed.specs.declared.raw.Raw.{Raw}
use Rattle.tdf_sim_refinement.specs.Fired.{HasFired}
use Rattle.tdf_sim_refinement.proofs.Turning.{begun_by, given_now, nothing_passed, of_now, passed_more, passed_part, room_now}
use Rattle.tdf_sim_refinement.proofs.turns.fire_all.Goals as goal
use Rattle.tdf_sim_refinement.specs.Pass.{pass_of, pass_run}

pub loop-n-init : goal.loop-n-init
loop-n-init c = nothing_passed c.args.flat.now (pass_of c.args.moment.now) (pass_run c.args.clusters.now.items c.args.outputs.now c.args.left.now)

pub overflow_sub-offset : goal.overflow_sub-offset
overflow_sub-offset c = begun_by c.args.flat.now (pass_of c.args.moment.now) (pass_run c.args.clusters.now.items c.args.outputs.now c.args.left.now) c.requires c.loop-n.n (omega (arith, c.loop-n-test.true, c.len-n-end.ensures))

pub fire_turn-requires-clause-of : goal.fire_turn-requires-clause-of
fire_turn-requires-clause-of c =
    of_now c.args.flat.now (pass_of c.args.moment.now) (pass_run c.args.clusters.now.items c.args.outputs.now c.args.left.now) c.requires c.loop-n.n
    (pass_run c.loop-n.clusters.items c.loop-n.outputs c.loop-n.left) c.loop-n.invariant c.index_mut.result.now (omega (arith, c.loop-n-test.true, c.len-n-end.ensures)) c.index_mut.ensures.value

pub fire_turn-requires-clause-inputs : goal.fire_turn-requires-clause-inputs
fire_turn-requires-clause-inputs c =
    let offset : ℕ = c.args.moment.now.time - slice_index c.args.moment.now.since.now c.loop-n.n in
    subst (λ (i : List Raw). is_next_due c.index_mut.result.now offset ≡ true → AreInputsFor c.args.flat.now offset c.index_mut.result.now i) c.index-moment-n.is
    (given_now c.args.flat.now (pass_of c.args.moment.now) (pass_run c.args.clusters.now.items c.args.outputs.now c.args.left.now) c.requires c.loop-n.n
    (pass_run c.loop-n.clusters.items c.loop-n.outputs c.loop-n.left) c.loop-n.invariant c.index_mut.result.now (omega (arith, c.loop-n-test.true, c.len-n-end.ensures)) c.index_mut.ensures.value c.index-moment-n.result c.index-moment-n.is)

pub fire_turn-requires-clause-room : goal.fire_turn-requires-clause-room
fire_turn-requires-clause-room c =
    room_now c.args.flat.now (pass_of c.args.moment.now) (pass_run c.args.clusters.now.items c.args.outputs.now c.args.left.now) c.requires c.loop-n.n
    (pass_run c.loop-n.clusters.items c.loop-n.outputs c.loop-n.left) c.loop-n.invariant c.index_mut.result.now (omega (arith, c.loop-n-test.true, c.len-n-end.ensures)) c.index_mut.ensures.value

pub returns-then-not-fire_turn-clause-part : goal.returns-then-not-fire_turn-clause-part
returns-then-not-fire_turn-clause-part c = λ same.
    passed_part c.args.flat.now (pass_of c.args.moment.now) (pass_run c.args.clusters.now.items c.args.outputs.now c.args.left.now) c.requires c.loop-n.n
    (pass_run c.loop-n.clusters.items c.loop-n.outputs c.loop-n.left) c.loop-n.invariant c.index_mut.result.now (omega (arith, c.loop-n-test.true, c.len-n-end.ensures)) c.index_mut.ensures.value c.index-moment-n.result c.index-moment-n.is
    c.fire_turn.new.cluster c.fire_turn.new.outputs c.fire_turn.new.left c.fire_turn.result c.fire_turn.ensures.idle c.fire_turn.ensures.few c.if-not-fire_turn.true

pub loop-n-preserved : goal.loop-n-preserved
loop-n-preserved c =
    let offset : ℕ = c.args.moment.now.time - slice_index c.args.moment.now.since.now c.loop-n.n in
    let fired = subst (λ (i : List Raw). is_next_due c.index_mut.result.now offset ≡ true → c.fire_turn.result ≡ true
    → HasFired c.args.flat.now offset i c.index_mut.result.now c.fire_turn.new.cluster c.loop-n.outputs c.fire_turn.new.outputs c.loop-n.left c.fire_turn.new.left)
    (sym c.index-moment-n.is) c.fire_turn.ensures.fired in
    passed_more c.args.flat.now (pass_of c.args.moment.now) (pass_run c.args.clusters.now.items c.args.outputs.now c.args.left.now) c.requires c.loop-n.n
    (pass_run c.loop-n.clusters.items c.loop-n.outputs c.loop-n.left) c.loop-n.invariant c.index_mut.result.now (omega (arith, c.loop-n-test.true, c.len-n-end.ensures)) c.index_mut.ensures.value c.index-moment-n.result c.index-moment-n.is
    c.fire_turn.new.cluster c.fire_turn.new.outputs c.fire_turn.new.left c.fire_turn.result c.fire_turn.ensures.stays fired c.if-not-fire_turn.false
