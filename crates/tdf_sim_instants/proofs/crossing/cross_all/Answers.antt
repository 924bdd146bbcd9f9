use Rattle.std.proofs.Common.{◌≡◌, ◌⊎◌, ◌∙◌, Err, IfOk, IfSome, IsOk, None, Ok, Option, Result, Some, length, arith, ap, inl, inr, refl, subst}
use Rattle.tdf_sim_instants.proofs.Endings.{begun_now, crossed_more, going_now, has_stopped, no_turn, nothing_crossed, of_now, still_now}
use Rattle.tdf_sim_instants.proofs.Spending.{same_answer}
use Rattle.tdf_sim_instants.specs.Crossing.{HaveCrossed, crossing_of}
use Rattle.tdf_sim_instants.specs.declared.crossing.Pass.TheVariants.{Spent, Stopped}
use Rattle.tdf_sim_instants.specs.declared.crossing.Turn.{Turn}
use Rattle.tdf_sim_instants.specs.declared.crossing.Turn.TheVariants as came
use Rattle.tdf_base.specs.declared.memory.Memory.{Memory}
use Rattle.tdf_sim_instants.proofs.crossing.cross_all.Goals as goal

-- no value is there that there is
on_none : {T : Type 0} (o : Option T) → ((x : T) → o ≡ Some x → ⊥) → o ≡ None
on_none None none = refl
on_none (Some x) none = absurd (none x refl)

-- a turn that there is, by the two answers that a cluster without changes can have
came_so : (r : Result Turn Memory) (turn : Turn) → r ≡ Ok turn → (r ≡ Ok came.Kept) ⊎ (r ≡ Ok came.Spent) → (turn ≡ came.Kept) ⊎ (turn ≡ came.Spent)
came_so r turn is (inl kept) = inl cc
came_so r turn is (inr spent) = inr cc

-- with one of these two memory was not lacking
no_err : (r : Result Turn Memory) (e : Memory) → r ≡ Err e → (r ≡ Ok came.Kept) ⊎ (r ≡ Ok came.Spent) → ⊥
no_err r e is (inl kept) = cc
no_err r e is (inr spent) = cc

-- no answer is there and is an error
not_both : {T E : Type 0} (r : Result T E) (e : E) → r ≡ Err e → IsOk r → ⊥
not_both r e is holds = cc (subst IsOk is holds)

pub loop-n-init : goal.loop-n-init
loop-n-init c = record {
  crossed = nothing_crossed c.args.flat.now c.args.time (crossing_of c.args.clusters.now.items c.args.since.now.items c.args.left.now c.args.planned.now.items);
  unplanned = λ none. refl;
}

pub cross_turn-requires-clause-begun : goal.cross_turn-requires-clause-begun
cross_turn-requires-clause-begun c = begun_now c.args.flat.now c.args.time (crossing_of c.args.clusters.now.items c.args.since.now.items c.args.left.now c.args.planned.now.items) c.requires.can c.loop-n.n
    (crossing_of c.loop-n.clusters.items c.loop-n.since.items c.loop-n.left c.loop-n.planned.items) c.loop-n.invariant.crossed (omega (arith, c.loop-n-test.true, c.len-n-end.ensures))
    c.index_mut.result.now c.index_mut-in-loop-n.result.now c.index_mut.ensures.value c.index_mut-in-loop-n.ensures.value

pub cross_turn-requires-clause-of : goal.cross_turn-requires-clause-of
cross_turn-requires-clause-of c = of_now c.args.flat.now c.args.time (crossing_of c.args.clusters.now.items c.args.since.now.items c.args.left.now c.args.planned.now.items) c.requires.can c.loop-n.n
    (crossing_of c.loop-n.clusters.items c.loop-n.since.items c.loop-n.left c.loop-n.planned.items) c.loop-n.invariant.crossed (omega (arith, c.loop-n-test.true, c.len-n-end.ensures))
    c.index_mut.result.now c.index_mut-in-loop-n.result.now c.index_mut.ensures.value c.index_mut-in-loop-n.ensures.value

pub cross_turn-requires-clause-going : goal.cross_turn-requires-clause-going
cross_turn-requires-clause-going c = going_now c.args.flat.now c.args.time (crossing_of c.args.clusters.now.items c.args.since.now.items c.args.left.now c.args.planned.now.items) c.requires.can c.loop-n.n
    (crossing_of c.loop-n.clusters.items c.loop-n.since.items c.loop-n.left c.loop-n.planned.items) c.loop-n.invariant.crossed (omega (arith, c.loop-n-test.true, c.len-n-end.ensures))
    c.index_mut.result.now c.index_mut-in-loop-n.result.now c.index_mut.ensures.value c.index_mut-in-loop-n.ensures.value

pub returns-in-Some-clause-part : goal.returns-in-Some-clause-part
returns-in-Some-clause-part c = λ same.
    (let ended : c.noted.result ≡ Ok (Some Spent) = c.in_ok-ended.was ∙ ap Ok (c.in-Some.is ∙ ap Some (same_answer c.in-Some.ended Spent same)) in
    let turn : c.cross_turn.result ≡ Ok came.Spent = c.in_ok-turn.was ∙ ap Ok (c.noted.ensures.spent ended) in
    no_turn c.args.flat.now c.args.time (crossing_of c.args.clusters.now.items c.args.since.now.items c.args.left.now c.args.planned.now.items) c.requires.can c.loop-n.n
    (crossing_of c.loop-n.clusters.items c.loop-n.since.items c.loop-n.left c.loop-n.planned.items) c.loop-n.invariant.crossed (omega (arith, c.loop-n-test.true, c.len-n-end.ensures))
    c.index_mut.result.now c.index_mut-in-loop-n.result.now c.index_mut.ensures.value c.index_mut-in-loop-n.ensures.value
    c.cross_turn.new.since c.cross_turn.new.cluster c.cross_turn.new.left c.noted.new.planned.items
    (c.cross_turn.ensures.over turn) (c.cross_turn.ensures.spent turn) (c.cross_turn.ensures.same turn)
    (subst (λ r. IfOk r (λ o. IfSome o (λ x. c.noted.new.planned.items ≡ c.loop-n.planned.items))) ended c.noted.ensures.kept))

pub returns-in-Some-clause-stopped : goal.returns-in-Some-clause-stopped
returns-in-Some-clause-stopped c = λ number fault same.
    (let ended : c.noted.result ≡ Ok (Some (Stopped number fault)) = c.in_ok-ended.was ∙ ap Ok (c.in-Some.is ∙ ap Some (same_answer c.in-Some.ended (Stopped number fault) same)) in
    let stopped = c.noted.ensures.stopped number fault ended in
    has_stopped c.args.flat.now c.args.time (crossing_of c.args.clusters.now.items c.args.since.now.items c.args.left.now c.args.planned.now.items) c.requires.can c.loop-n.n
    (crossing_of c.loop-n.clusters.items c.loop-n.since.items c.loop-n.left c.loop-n.planned.items) c.loop-n.invariant.crossed (omega (arith, c.loop-n-test.true, c.len-n-end.ensures))
    c.index_mut.result.now c.index_mut-in-loop-n.result.now c.index_mut.ensures.value c.index_mut-in-loop-n.ensures.value
    c.cross_turn.new.since c.cross_turn.new.cluster c.cross_turn.new.left c.noted.new.planned.items
    number fault.value stopped.1 (c.cross_turn.ensures.refused fault (c.in_ok-turn.was ∙ ap Ok stopped.0)) (c.cross_turn.ensures.taken fault (c.in_ok-turn.was ∙ ap Ok stopped.0))
    (subst (λ r. IfOk r (λ o. IfSome o (λ x. c.noted.new.planned.items ≡ c.loop-n.planned.items))) ended c.noted.ensures.kept))

pub loop-n-preserved : goal.loop-n-preserved
loop-n-preserved c = record {
  crossed = crossed_more c.args.flat.now c.args.time (crossing_of c.args.clusters.now.items c.args.since.now.items c.args.left.now c.args.planned.now.items) c.requires.can c.loop-n.n
      (crossing_of c.loop-n.clusters.items c.loop-n.since.items c.loop-n.left c.loop-n.planned.items) c.loop-n.invariant.crossed (omega (arith, c.loop-n-test.true, c.len-n-end.ensures))
      c.index_mut.result.now c.index_mut-in-loop-n.result.now c.index_mut.ensures.value c.index_mut-in-loop-n.ensures.value
      c.cross_turn.new.since c.cross_turn.new.cluster c.cross_turn.new.left c.noted.new.planned.items
      c.in_ok-turn.turn (c.noted.ensures.on (c.in_ok-ended.was ∙ ap Ok (on_none c.in_ok-ended.field-0 c.in_default.not-Some)))
      c.cross_turn.ensures.stays (λ over kept. c.cross_turn.ensures.crossed over (c.in_ok-turn.was ∙ ap Ok kept)) (λ new. c.cross_turn.ensures.planned (c.in_ok-turn.was ∙ ap Ok new));
  unplanned = λ none. c.noted.ensures.unplanned (came_so c.cross_turn.result c.in_ok-turn.turn c.in_ok-turn.was (c.cross_turn.ensures.still (still_now c.args.flat.now c.args.time (crossing_of c.args.clusters.now.items c.args.since.now.items c.args.left.now c.args.planned.now.items) c.requires.can c.loop-n.n
      (crossing_of c.loop-n.clusters.items c.loop-n.since.items c.loop-n.left c.loop-n.planned.items) c.loop-n.invariant.crossed (omega (arith, c.loop-n-test.true, c.len-n-end.ensures))
      c.index_mut.result.now c.index_mut-in-loop-n.result.now c.index_mut.ensures.value c.index_mut-in-loop-n.ensures.value none)))
      ∙ c.loop-n.invariant.unplanned none;
}

pub returns-clause-all : goal.returns-clause-all
returns-clause-all c = λ same.
    (let n : c.loop-n.n ≡ length c.args.clusters.now.items = omega (arith, c.loop-n-test.false, c.len-n-end.ensures, c.loop-n.auto.n-end) in
    subst (λ k. HaveCrossed c.args.flat.now c.args.time k (crossing_of c.args.clusters.now.items c.args.since.now.items c.args.left.now c.args.planned.now.items) (crossing_of c.loop-n.clusters.items c.loop-n.since.items c.loop-n.left c.loop-n.planned.items)) n c.loop-n.invariant.crossed)

pub returns-in_err-turn-clause-never : goal.returns-in_err-turn-clause-never
returns-in_err-turn-clause-never c = λ none. absurd (no_err c.cross_turn.result c.in_err-turn.field-0.0 c.in_err-turn.was (c.cross_turn.ensures.still (still_now c.args.flat.now c.args.time (crossing_of c.args.clusters.now.items c.args.since.now.items c.args.left.now c.args.planned.now.items) c.requires.can c.loop-n.n
    (crossing_of c.loop-n.clusters.items c.loop-n.since.items c.loop-n.left c.loop-n.planned.items) c.loop-n.invariant.crossed (omega (arith, c.loop-n-test.true, c.len-n-end.ensures))
    c.index_mut.result.now c.index_mut-in-loop-n.result.now c.index_mut.ensures.value c.index_mut-in-loop-n.ensures.value none)))

pub returns-in_err-turn-clause-unplanned : goal.returns-in_err-turn-clause-unplanned
returns-in_err-turn-clause-unplanned c = c.loop-n.invariant.unplanned

pub returns-in_err-ended-clause-never : goal.returns-in_err-ended-clause-never
returns-in_err-ended-clause-never c = λ none. absurd (not_both c.noted.result c.in_err-ended.field-0.0 c.in_err-ended.was (c.noted.ensures.never (came_so c.cross_turn.result c.in_ok-turn.turn c.in_ok-turn.was (c.cross_turn.ensures.still (still_now c.args.flat.now c.args.time (crossing_of c.args.clusters.now.items c.args.since.now.items c.args.left.now c.args.planned.now.items) c.requires.can c.loop-n.n
    (crossing_of c.loop-n.clusters.items c.loop-n.since.items c.loop-n.left c.loop-n.planned.items) c.loop-n.invariant.crossed (omega (arith, c.loop-n-test.true, c.len-n-end.ensures))
    c.index_mut.result.now c.index_mut-in-loop-n.result.now c.index_mut.ensures.value c.index_mut-in-loop-n.ensures.value none)))))

pub returns-in_err-ended-clause-unplanned : goal.returns-in_err-ended-clause-unplanned
returns-in_err-ended-clause-unplanned c = λ none. c.noted.ensures.unplanned (came_so c.cross_turn.result c.in_ok-turn.turn c.in_ok-turn.was (c.cross_turn.ensures.still (still_now c.args.flat.now c.args.time (crossing_of c.args.clusters.now.items c.args.since.now.items c.args.left.now c.args.planned.now.items) c.requires.can c.loop-n.n
    (crossing_of c.loop-n.clusters.items c.loop-n.since.items c.loop-n.left c.loop-n.planned.items) c.loop-n.invariant.crossed (omega (arith, c.loop-n-test.true, c.len-n-end.ensures))
    c.index_mut.result.now c.index_mut-in-loop-n.result.now c.index_mut.ensures.value c.index_mut-in-loop-n.ensures.value none)))
    ∙ c.loop-n.invariant.unplanned none
