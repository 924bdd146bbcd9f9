use Rattle.std.proofs.Common.{arith, ◌≡◌, ◌<◌, ℕ, List, Bool, false, length, map, slice_get, ap, sym, ◌∙◌, subst}
use Rattle.tdf_events_queue.specs.Sets.{is_on}
use Rattle.tdf_events_queue.specs.Triggered.{AreAllTriggered}
use Rattle.tdf_events.specs.Notices.{NoticesOf}
use Rattle.tdf_events.specs.machine.Updating.{AreAllReached}
use Rattle.tdf_events.proofs.Updates.{all_false, delta_all, on_inside}
use Rattle.tdf_events.proofs.notices.Notices.take_delta.Goals as goal

pub trigger_all-requires-clause-numbers : goal.trigger_all-requires-clause-numbers
trigger_all-requires-clause-numbers c = λ i s at. (let less : s < length c.self.inside.delta.flags = on_inside c.self.inside.delta.flags c.self.inside.delta.members i s c.members.ensures.listed (ap (λ (xs : List ℕ). slice_get xs i) (sym c.members.ensures.value) ∙ at) in
    let same : length c.self.inside.calendar ≡ length c.args.self.now.times = ap (λ (n : NoticesOf). length n.times) c.self.view_is in
    let pair : length c.self.inside.calendar ≡ length c.self.inside.delta.flags = c.self.invariant in
    let long : length c.args.lists.now ≡ length c.args.self.now.times = c.requires.lists in omega (arith, less, same, pair, long))

pub returns-clause-reached : goal.returns-clause-reached
returns-clause-reached c = subst (λ (n : NoticesOf). AreAllReached c.args.lists.now (is_on n.delta) c.args.set.now.flags c.trigger_all.new.set.flags) c.self.view_is
    (delta_all c.args.lists.now c.self.inside.delta.flags c.self.inside.delta.members c.args.set.now.flags c.trigger_all.new.set.flags c.members.ensures.listed
    (subst (λ (xs : List ℕ). AreAllTriggered c.args.lists.now xs (length xs) c.args.set.now.flags c.trigger_all.new.set.flags) c.members.ensures.value c.trigger_all.ensures))

pub returns-clause-gone : goal.returns-clause-gone
returns-clause-gone c = ap (λ (flags : List Bool). record { times = c.self.inside.calendar; delta = flags }) (c.clear.ensures.flags ∙ sym (all_false c.self.inside.delta.flags))
    ∙ ap (λ (n : NoticesOf). record n { delta = map (λ (on : Bool). false) n.delta }) c.self.view_is
