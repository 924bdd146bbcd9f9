use Rattle.std.proofs.Common.{◌≡◌, Some, length, slice_get, slice_index_or, arith, subst}
use Rattle.std.proofs.lemmas.Option.{slice_get-get_or}
use Rattle.tdf_events.proofs.Resumed.{AreNotified, all_notified, next_free, next_inside, none_notified, notified_more}
use Rattle.tdf_events.proofs.resuming.notify_all.Goals as goal
use Rattle.tdf_saved.specs.declared.state.Pending.{Pending}

abbrev no_pending : Pending
no_pending = record { event = 0; time = 0 }

pub loop-i-init : goal.loop-i-init
loop-i-init c = none_notified c.args.list.now c.args.notices.now c.requires.none

pub set_time-requires-clause-event : goal.set_time-requires-clause-event
set_time-requires-clause-event c =
    let at : slice_get c.args.list.now c.loop-i.i ≡ Some (slice_index_or c.args.list.now c.loop-i.i no_pending) = slice_get-get_or c.args.list.now c.loop-i.i no_pending c.loop-i-test.true in
    next_inside c.args.time c.args.list.now c.loop-i.i c.args.notices.now c.loop-i.notices (slice_index_or c.args.list.now c.loop-i.i no_pending) c.requires.pending at c.loop-i.invariant

pub set_time-requires-clause-free : goal.set_time-requires-clause-free
set_time-requires-clause-free c =
    let at : slice_get c.args.list.now c.loop-i.i ≡ Some (slice_index_or c.args.list.now c.loop-i.i no_pending) = slice_get-get_or c.args.list.now c.loop-i.i no_pending c.loop-i-test.true in
    next_free (length c.args.notices.now.times) c.args.time c.args.list.now c.loop-i.i c.args.notices.now c.loop-i.notices (slice_index_or c.args.list.now c.loop-i.i no_pending) c.requires.pending at c.loop-i.invariant

pub loop-i-preserved : goal.loop-i-preserved
loop-i-preserved c =
    let at : slice_get c.args.list.now c.loop-i.i ≡ Some (slice_index_or c.args.list.now c.loop-i.i no_pending) = slice_get-get_or c.args.list.now c.loop-i.i no_pending c.loop-i-test.true in
    notified_more (length c.args.notices.now.times) c.args.time c.args.list.now c.loop-i.i c.args.notices.now c.loop-i.notices c.set_time.new.self (slice_index_or c.args.list.now c.loop-i.i no_pending) c.requires.pending at
    c.loop-i.invariant c.set_time.ensures

pub returns : goal.returns
returns c = all_notified c.args.list.now c.args.notices.now c.loop-i.notices
    (subst (λ n. AreNotified c.args.list.now n c.args.notices.now c.loop-i.notices) (omega (arith, c.loop-i-test.false, c.loop-i.auto.i-end)) c.loop-i.invariant)
