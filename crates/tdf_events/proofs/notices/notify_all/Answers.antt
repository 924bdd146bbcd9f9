use Rattle.std.proofs.Common.{arith, ◌≡◌, ◌∙◌, ◌<◌, ℕ, List, Option, Some, is_some, length, map, slice_get, slice_index, refl, ap, sym}
use Rattle.std.proofs.lemmas.List.{length-map}
use Rattle.std.proofs.lemmas.Option.{slice_get-get_or}
use Rattle.tdf_events.proofs.Noticing.{by_listed, listed_same, notice}
use Rattle.tdf_events.specs.Notices.{NoticesOf, event_noticed}
use Rattle.tdf_events_queue.proofs.Api.{listed_in, ran_more}
use Rattle.tdf_events_queue.specs.Evaluation.{ran_first}
use Rattle.tdf_events_queue.specs.Sets.{AreRisingFlags}
use Rattle.tdf_events.proofs.notices.notify_all.Goals as goal

-- a listed event is one of those that can be asked for
inside : (asked : List (Option ℕ)) (listed : List ℕ) (i : ℕ) → AreRisingFlags (map is_some asked) listed → i < length listed → slice_index listed i < length asked
inside asked listed i rising less =
    let low = listed_in (map is_some asked) listed rising.on i (slice_index listed i) (slice_get-get_or listed i 0 less) in
    let long = length-map asked is_some in omega (arith, low, long)

pub loop-i-init : goal.loop-i-init
unfolding ran_first
loop-i-init c = refl

pub notified-requires : goal.notified-requires
notified-requires c = inside c.args.ports.now.state.notified c.notified_events-asked.result.now c.loop-i.i c.notified_events-asked.ensures c.loop-i-test.true

pub bounds-events-event : goal.bounds-events-event
bounds-events-event c = let low = inside c.args.ports.now.state.notified c.notified_events-asked.result.now c.loop-i.i c.notified_events-asked.ensures c.loop-i-test.true in let same = c.requires.asked in omega (arith, low, same)

pub notify-requires : goal.notify-requires
notify-requires c =
    let low = inside c.args.ports.now.state.notified c.notified_events-asked.result.now c.loop-i.i c.notified_events-asked.ensures c.loop-i-test.true in
    let same = c.requires.asked in
    let event = slice_index c.notified_events-asked.result.now c.loop-i.i in
    let here : slice_get c.args.events.now event ≡ Some (slice_index c.args.events.now event) = slice_get-get_or c.args.events.now event 0 (omega (arith, low, same)) in
    let within = c.requires.inside event _ here in
    let long = ap (λ (n : NoticesOf). length n.times) c.loop-i.invariant ∙ listed_same c.args.time c.args.events.now c.args.ports.now.state.notified c.notified_events-asked.result.now c.loop-i.i c.args.notices.now in
    omega (arith, within, long)

pub loop-i-preserved : goal.loop-i-preserved
loop-i-preserved c =
    let event = slice_index c.notified_events-asked.result.now c.loop-i.i in
    c.notify.ensures
    ∙ ap (λ (o : Option ℕ). event_noticed c.args.time (slice_index c.args.events.now event) o c.loop-i.notices) c.notified.ensures
    ∙ ap (notice c.args.time c.args.events.now c.args.ports.now.state.notified event) c.loop-i.invariant
    ∙ sym (ran_more (notice c.args.time c.args.events.now c.args.ports.now.state.notified) c.notified_events-asked.result.now c.loop-i.i c.args.notices.now)

pub returns : goal.returns
returns c =
    let low = c.loop-i-test.false in
    let high = c.loop-i.auto.i-end in
    let end : c.loop-i.i ≡ length c.notified_events-asked.result.now = omega (arith, low, high) in
    c.loop-i.invariant
    ∙ ap (λ k. ran_first (notice c.args.time c.args.events.now c.args.ports.now.state.notified) c.notified_events-asked.result.now k c.args.notices.now) end
    ∙ by_listed c.args.time c.args.events.now c.notified_events-asked.result.now c.args.ports.now.state.notified c.args.notices.now c.requires.asked c.notified_events-asked.ensures
