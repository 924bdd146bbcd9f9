use Rattle.std.proofs.Common.{◌∙◌, Vec, Global, ap, sym}
use Rattle.tdf_events.proofs.Resumed.{with_none, with_one}
use Rattle.tdf_events.proofs.state.pending_of.Goals as goal
use Rattle.tdf_events.proofs.state.pending_of.Goals.{in-Some+in_ok-push, in_default}
use Rattle.tdf_saved.specs.declared.state.Pending.{Pending}

pub loop-place-preserved : goal.loop-place-preserved
loop-place-preserved c =
    elim c.match-time.branch [
      | in-Some+in_ok-push w ↦ with_one c.args.notices.now.times c.in_ok-event.event c.loop-place.place w.in-Some.time c.loop-place.list.items c.match-time.list.items c.in_ok-event.ensures.number
          (sym c.time.ensures ∙ w.in-Some.is) c.loop-place.invariant (ap (λ (v : Vec Pending Global). v.items) w.list-is ∙ w.in_ok-push.ensures.items)
      | in_default w ↦ with_none c.args.notices.now.times c.in_ok-event.event c.loop-place.place c.loop-place.list.items c.match-time.list.items c.in_ok-event.ensures.number
          (sym c.time.ensures ∙ w.in_default.is) c.loop-place.invariant (ap (λ (v : Vec Pending Global). v.items) w.list-is)
    ]
