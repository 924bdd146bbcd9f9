use Rattle.std.proofs.Common.{◌≡◌, ◌<◌, length, Some, slice_get, slice_set, refl, rules, ap, sym, ◌∙◌, subst}
use Rattle.std.proofs.lemmas.Option.{slice_get_read, slice_get_within}
use Rattle.tdf_trace.proofs.ColumnPlaces.{some_same}
use Rattle.tdf_trace.proofs.Findings.{columns_set, finds_set}
use Rattle.tdf_trace.proofs.Resumed.{is_resumed, passed_resumed, passed_start, start_taken}
use Rattle.tdf_trace.proofs.tracking.Tracking.resume.Goals as goal
use Rattle.tdf_trace.specs.Starts.{IsResumed, TakesStart}
use Rattle.tdf_trace.specs.Tracked.{TrackedOf, TrackingOf}
use Rattle.tdf_trace.specs.machine.Finding.{StandsAt}
use Rattle.tdf_trace.specs.machine.Showing.{AreColumns}

pub invariant_of-self : goal.invariant_of-self
invariant_of-self c =
    let w : StandsAt c.self.inside.list.items c.args.signal c.in-Some.place =
    subst (λ (v : TrackingOf). StandsAt v.list c.args.signal c.in-Some.place) (sym c.self.view_is) c.in-Some.ensures in
    let less : c.in-Some.place < length c.self.inside.list.items = slice_get_within c.self.inside.list.items c.in-Some.place w.it w.there in
    let here : slice_get c.self.inside.list.items c.in-Some.place ≡ Some c.index_mut.result.now = slice_get_read c.self.inside.list.items (length c.self.inside.list.items) c.in-Some.place c.index_mut.result.now refl less (search rules) in
    record {
      finds = finds_set c.self.inside.places.items c.self.inside.list.items c.in-Some.place c.index_mut.result.now c.resume.new.self here (ap (λ (v : TrackedOf). v.signal) c.resume.ensures) c.self.invariant.finds;
      columns = columns_set c.self.inside.width c.self.inside.list.items c.in-Some.place c.index_mut.result.now c.resume.new.self here
          (subst (AreColumns c.self.inside.width) (sym (ap (λ (v : TrackedOf). v.columns) c.resume.ensures)) (c.self.invariant.columns c.in-Some.place c.index_mut.result.now here)) c.self.invariant.columns;
    }

pub returns-in-None-clause-resumed : goal.returns-in-None-clause-resumed
returns-in-None-clause-resumed c = passed_resumed c.args.signal c.args.since c.args.stamps c.args.later.items c.args.self.now.list c.in-None.ensures

pub returns-in-None-clause-took : goal.returns-in-None-clause-took
returns-in-None-clause-took c = passed_start c.args.signal c.args.stamps c.args.later.items c.args.self.now.list c.in-None.ensures

pub returns-in-Some-clause-resumed : goal.returns-in-Some-clause-resumed
returns-in-Some-clause-resumed c =
    let w : StandsAt c.self.inside.list.items c.args.signal c.in-Some.place =
    subst (λ (v : TrackingOf). StandsAt v.list c.args.signal c.in-Some.place) (sym c.self.view_is) c.in-Some.ensures in
    let less : c.in-Some.place < length c.self.inside.list.items = slice_get_within c.self.inside.list.items c.in-Some.place w.it w.there in
    let here : slice_get c.self.inside.list.items c.in-Some.place ≡ Some c.index_mut.result.now = slice_get_read c.self.inside.list.items (length c.self.inside.list.items) c.in-Some.place c.index_mut.result.now refl less (search rules) in
    let e : c.index_mut.result.now ≡ w.it = some_same c.index_mut.result.now w.it (sym here ∙ w.there) in
    subst (λ (v : TrackingOf). IsResumed c.args.signal c.args.since c.args.stamps c.args.later.items v.list (slice_set c.self.inside.list.items c.in-Some.place c.resume.new.self)) c.self.view_is
    (subst (λ (u : TrackedOf). IsResumed c.args.signal c.args.since c.args.stamps c.args.later.items c.self.inside.list.items (slice_set c.self.inside.list.items c.in-Some.place u)) (sym c.resume.ensures)
    (is_resumed c.args.signal c.args.since c.args.stamps c.args.later.items c.self.inside.places.items c.self.inside.list.items c.in-Some.place c.index_mut.result.now c.self.invariant.finds here
    (ap (λ (v : TrackedOf). v.signal) e ∙ w.same)))

pub returns-in-Some-clause-took : goal.returns-in-Some-clause-took
returns-in-Some-clause-took c =
    let w : StandsAt c.self.inside.list.items c.args.signal c.in-Some.place =
    subst (λ (v : TrackingOf). StandsAt v.list c.args.signal c.in-Some.place) (sym c.self.view_is) c.in-Some.ensures in
    let less : c.in-Some.place < length c.self.inside.list.items = slice_get_within c.self.inside.list.items c.in-Some.place w.it w.there in
    let here : slice_get c.self.inside.list.items c.in-Some.place ≡ Some c.index_mut.result.now = slice_get_read c.self.inside.list.items (length c.self.inside.list.items) c.in-Some.place c.index_mut.result.now refl less (search rules) in
    let e : c.index_mut.result.now ≡ w.it = some_same c.index_mut.result.now w.it (sym here ∙ w.there) in
    subst (λ (v : TrackingOf). TakesStart c.args.signal c.args.stamps c.args.later.items v.list (slice_set c.self.inside.list.items c.in-Some.place c.resume.new.self)) c.self.view_is
    (subst (λ (u : TrackedOf). TakesStart c.args.signal c.args.stamps c.args.later.items c.self.inside.list.items (slice_set c.self.inside.list.items c.in-Some.place u)) (sym c.resume.ensures)
    (start_taken c.args.signal c.args.since c.args.stamps c.args.later.items c.self.inside.places.items c.self.inside.list.items c.in-Some.place c.index_mut.result.now c.self.invariant.finds here
    (ap (λ (v : TrackedOf). v.signal) e ∙ w.same) c.requires.idle))
